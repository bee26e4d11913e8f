-- In a run each cycle of the collector has a bounded number of working events.
use Rattle.std.proofs.Common.{◌≡◌, ◌≢◌, ◌⊎◌, inl, inr, ◌+◌, ◌*◌, ◌≤◌, ℕ, suc, max, Bool, true, false, if◌then◌else◌, IsTrue, List, [], ◌∷◌, ◌++◌, reverse, length, Some, None, refl, sym, ap, ◌∙◌, subst, append_assoc, append-nil, arith}
use Rattle.std.specs.List.{zip}
use Rattle.std.specs.Option.{option_map_or}
use Rattle.std.proofs.Math.Nat.{max-eq_left}
use Rattle.std.proofs.lemmas.List.{reverse-append}
use Rattle.interpreter.specs.cil_model.declared.events.Event.{Event}
use Rattle.interpreter.specs.cil_model.declared.events.Event.TheVariants.{Step, Ack, Gc}
use Rattle.interpreter.specs.cil_model.declared.limits.Limits.{Limits}
use Rattle.interpreter.specs.cil_model.declared.phases.Phase.{Phase}
use Rattle.interpreter.specs.cil_model.declared.phases.Phase.TheVariants.{Idle}
use Rattle.interpreter.specs.cil_model.declared.reports.Report.{Report}
use Rattle.interpreter.specs.cil_model.declared.trees.Tree.{Tree}
use Rattle.interpreter.specs.cil_model.declared.types.DeclaredType.{DeclaredType}
use Rattle.interpreter.specs.cil_model.Fields.{FieldKey, static_fields}
use Rattle.interpreter.specs.cil_model.Ranges.{are_in_range}
use Rattle.interpreter.specs.cil_model.Typings.{IsAccepted}
use Rattle.interpreter.specs.reference_machine.Cycles.{Space, ends_cycle, larger_words, work_of, work_of_newest, work_since}
use Rattle.interpreter.specs.reference_machine.States.{State}
use Rattle.interpreter.specs.reference_machine.Values.{Value as StateValue}
use Rattle.interpreter.specs.reference_machine.TypedStates.{HaveFieldTypes}
use Rattle.collector.specs.Phases.{is_of_cycle}
use Rattle.collector.specs.declared.progress.Progress.{Progress}
use Rattle.interpreter.specs.object_memory.Cells.{used_words}
use Rattle.interpreter.specs.object_memory.declared.values.Value.{Value}
use Rattle.simulation.specs.MachineStates.{MachineState}
use Rattle.simulation.specs.CollectorSteps.{with_acknowledgement}
use Rattle.simulation.specs.RetainedObjects.{AreCyclesBounded}
use Rattle.simulation.specs.Rooms.{spaces_of}
use Rattle.simulation.specs.Runs.{DoTransitions, IsNext, IsRunOf, RefusesBeyondRoom}
use Rattle.simulation.specs.Sound.{IsSound}
use Rattle.simulation.specs.Refines.{IsValue, Represents}
use Rattle.simulation.specs.Transitions.{IsTransition, initial_machine_state}
use Rattle.simulation.proofs.ListLaws.AgreeingLists.{agree_length}
use Rattle.simulation.proofs.CycleBounds.CollectorWork.{collector_takes}
use Rattle.simulation.proofs.CycleBounds.WorkLeft.{TakesWork, acknowledgement_large, acknowledgement_leaves, cycle_work, grey_there, heap_leaves, larger, left_in, left_with, none_left, own_is_early, static_count, takes_nothing, work_left}
use Rattle.simulation.proofs.Threads.StepEffects.{same_program}
use Rattle.simulation.proofs.Threads.UnchangedPosts.{KeepsCollector, step_keeps}
use Rattle.simulation.proofs.Representation.InitialContents.{initially, opened_represents}
use Rattle.simulation.proofs.Threads.StepResults.{KeepsOwnRoom}
use Rattle.simulation.proofs.Threads.Steps.{step_follows}
use Rattle.simulation.proofs.Runs.EventCorrespondence.{acknowledgement_keeps, collection_keeps, each_alike}
use Rattle.simulation.proofs.CollectorEvents.AcknowledgementCases.{acknowledged_posted}

-- so the heap alone may make a difference to the work that is left
heap_alone : (c d : MachineState) → d.tree ≡ c.tree → KeepsCollector c d → work_left d ≡ left_with c d.objects.spaces
heap_alone c d tree keeps =
    ap (λ (x : Phase). left_in x d.objects.spaces.new.words (static_count d) d.posts.has_round d.progress d.objects.spaces) keeps.posts.posted_phase
    ∙ ap (λ (u : Tree). left_in c.posts.posted_phase d.objects.spaces.new.words (length (static_fields u)) d.posts.has_round d.progress d.objects.spaces) tree
    ∙ ap (λ (b : Bool). left_in c.posts.posted_phase d.objects.spaces.new.words (static_count c) b d.progress d.objects.spaces) keeps.posts.round
    ∙ ap (λ (p : Progress). left_in c.posts.posted_phase d.objects.spaces.new.words (static_count c) c.posts.has_round p d.objects.spaces) keeps.progress

-- and no step makes it more
step_leaves : (c : MachineState) (s : State) → Represents c s → (t : ℕ) (after : MachineState × Report) → IsTransition c (Step t) after → (s' : State) → KeepsOwnRoom c s t after.0.objects s' → work_left after.0 ≤ work_left c
step_leaves c s r t after transition s' room =
    let same = same_program c after (Step t) transition in
    let alone = heap_alone c after.0 same.0 (step_keeps c t after transition) in
    let less : left_with c after.0.objects.spaces ≤ work_left c =
    heap_leaves c after.0.objects.spaces room.large.new (λ marking. (grey_there c r.sound marking, room.marking (own_is_early c.posts r.sound.seated.close marking t))) in
    subst (λ n. n ≤ work_left c) (sym alone) less

-- ---- each transition

-- the number of static fields is that of those that the program declares
fields_length : (tree : Tree) (s : State) (es : List (FieldKey × StateValue)) (fs : List (FieldKey × DeclaredType)) → HaveFieldTypes tree s es fs → length es ≡ length fs
fields_length tree s [] [] h = refl
fields_length tree s (e ∷ es) (f ∷ fs) h = ap suc (fields_length tree s es fs h.2)
fields_length tree s _ _ h = elim h [ ]

statics_length : (c : MachineState) (s : State) → Represents c s → length c.statics ≡ static_count c
statics_length c s r =
    agree_length (λ (v : Value) (f : FieldKey × StateValue). IsValue r.refines.name v f.1) c.statics s.statics r.refines.by.memory.static_values
    ∙ fields_length c.tree s s.statics (static_fields c.tree) r.typed.statics

-- the state that an event reaches, and what it takes of the work that is left
record Goes (c : MachineState) (s : State) (e : Event) (after : MachineState × Report) : Type 0 where
  state : State
  next : IsNext c.tree c.limits s e after.1 state
  represents : Represents after.0 state
  takes : TakesWork c e after

goes : (c : MachineState) (s : State) → Represents c s → (e : Event) (after : MachineState × Report) → IsTransition c e after → Goes c s e after
goes c s r (Step t) after transition =
    let follows = step_follows each_alike c s r t after transition in
    record { state = follows.0; next = follows.1; represents = follows.2; takes = takes_nothing c (Step t) after.0 after.1 refl refl (λ is. sym (step_keeps c t after transition).posts.posted_phase ∙ is) (step_leaves c s r t after transition follows.0 follows.3) follows.3.large }
goes c s r (Ack t) after transition = record {
  state = s;
  next = refl;
  represents = acknowledgement_keeps c s r t after transition;
  takes = subst (TakesWork c (Ack t)) (sym transition)
      (takes_nothing c (Ack t) (with_acknowledgement c t).0 (with_acknowledgement c t).1 refl refl (λ is. sym (acknowledged_posted c t) ∙ is) (acknowledgement_leaves c t r.sound) (acknowledgement_large c t));
}
goes c s r Gc after transition = record {
  state = s;
  next = refl;
  represents = collection_keeps c s r after transition;
  takes = subst (TakesWork c Gc) (sym transition) (collector_takes c (statics_length c s r) r.sound);
}

-- ---- runs

-- no cycle is open, or one is
is_idle_or : (x : Phase) → (x ≡ Idle) ⊎ (x ≢ Idle)
is_idle_or Idle = inl refl
is_idle_or _ = inr (λ e. absurd cc)

module _ (tree : Tree) (limits : Limits) where
  -- all that a cycle may have, with the words of the larger block
  abbrev bound : MachineState → ℕ
  bound c = 10 + length (static_fields tree) + 13 * larger c.objects.spaces

  -- after these events, the newest first
  record IsBounded (past : List (Event × Report)) (c : MachineState) : Type 0 where
    tree_is : c.tree ≡ tree
    between : c.posts.posted_phase ≡ Idle → work_since past ≡ 0
    since : work_since past + work_left c ≤ bound c
    newest : work_of_newest past ≤ bound c

  whole : (c : MachineState) → c.tree ≡ tree → cycle_work c ≡ bound c
  whole c is = ap (λ (u : Tree). 10 + length (static_fields u) + 13 * larger c.objects.spaces) is

  -- one event more
  module _ (past : List (Event × Report)) (c : MachineState) (h : IsBounded past c) (e : Event) (after : MachineState × Report) (transition : IsTransition c e after) (takes : TakesWork c e after) where
    tree_then : after.0.tree ≡ tree
    tree_then = (same_program c after e transition).0 ∙ h.tree_is

    -- what was done since the last cycle, and what is left
    all_then : (work_of (e, after.1) + work_since past) + work_left after.0 ≤ bound after.0
    all_then = elim (is_idle_or c.posts.posted_phase) [
      | inl is ↦ (let anew = takes.anew is in let none = h.between is in let all = whole after.0 tree_then in omega (arith, anew, none, all))
      | inr going ↦ (let less = takes.less going in let since = h.since in let larger_now = takes.larger_stays in omega (arith, less, since, larger_now))
    ]

    left_then : ends_cycle e after.1 ≡ true → work_left after.0 ≡ 0
    left_then ends = none_left after.0.posts.posted_phase after.0.objects.spaces.new.words (static_count after.0) after.0.posts.has_round after.0.progress after.0.objects.spaces (takes.ended ends)

    bounded_then : IsBounded ((e, after.1) ∷ past) after.0
    bounded_then = record {
      tree_is = tree_then;
      between = λ is. by_end (ends_cycle e after.1) refl (takes.between is);
      since = since_by (ends_cycle e after.1) left_then;
      newest = (let all = all_then in omega (arith, all));
    }
      where
        by_end : (b : Bool) → ends_cycle e after.1 ≡ b → (ends_cycle e after.1 ≡ true) ⊎ ((c.posts.posted_phase ≡ Idle) × (work_of (e, after.1) ≡ 0)) → (if b then 0 else work_of (e, after.1) + work_since past) ≡ 0
        by_end true is how = refl
        by_end false is (inl ends) = (let wrong : false ≡ true = sym is ∙ ends in absurd cc)
        by_end false is (inr idle) = (let none = h.between idle.0 in let work = idle.1 in omega (arith, none, work))

        since_by : (b : Bool) → (b ≡ true → work_left after.0 ≡ 0) → (if b then 0 else work_of (e, after.1) + work_since past) + work_left after.0 ≤ bound after.0
        since_by true left = (let none = left refl in omega (arith, none))
        since_by false left = all_then

  one_more : (e : Event × Report) (es past : List (Event × Report)) → reverse (e ∷ es) ++ past ≡ reverse es ++ e ∷ past
  one_more e es past = ap (λ l. l ++ past) (reverse-append (e ∷ []) es) ∙ append_assoc (reverse es) (e ∷ []) past

  -- what the machine holds after some of the events, and that it is bounded
  abbrev IsBoundedAfter : (events past : List (Event × Report)) (c : MachineState) → Type 0
  IsBoundedAfter events past c = (d : MachineState) × DoTransitions c events d × (work_of_newest (reverse events ++ past) ≤ bound d) × (s : State) × Represents d s

  bounded_after : (events rest past : List (Event × Report)) (c : MachineState) (s : State) (last : MachineState) → IsBounded past c → Represents c s → RefusesBeyondRoom c s (events ++ rest) last → IsBoundedAfter events past c
  bounded_after [] rest past c s last h r run = (c, refl, h.newest, s, r)
  bounded_after (e ∷ es) rest past c s last h r (next, transition, refused, later) =
      let step = goes c s r e.0 (next, e.1) transition in
      let more = bounded_after es rest (e ∷ past) next step.state last (bounded_then past c h e.0 (next, e.1) transition step.takes) step.represents (later step.state step.next) in
      (more.0, (next, transition, more.1), subst (λ l. work_of_newest l ≤ bound more.0) (sym (one_more e es past)) more.2, more.3, more.4)

  -- ---- the initial state

  -- no cycle is open at first
  record IsUnbegun (c : MachineState) : Type 0 where
    tree_is : c.tree ≡ tree
    left : work_left c ≡ 0

  opened_unbegun : (c : MachineState) → initial_machine_state tree limits ≡ Some c → IsUnbegun c
  opened_unbegun = initially tree limits IsUnbegun (λ entry n. record { tree_is = refl; left = refl })

  bounded_first : (c : MachineState) → IsUnbegun c → IsBounded [] c
  bounded_first c h = record {
    tree_is = h.tree_is;
    between = λ is. refl;
    since = (let none = h.left in omega (arith, none));
    newest = omega arith;
  }

  -- the larger block, as a user sees it
  larger_seen : (c : MachineState) → IsSound c → larger_words (spaces_of c.objects) ≡ larger c.objects.spaces
  larger_seen c sound = by_open c.objects.spaces.is_open refl
    where
      by_open : (t : Bool) → c.objects.spaces.is_open ≡ t
          → option_map_or (λ (n : Space). max c.objects.spaces.old.words n.words) (if t then Some (record { words = c.objects.spaces.new.words; used = used_words c.objects.spaces.new.cells }) else None) c.objects.spaces.old.words ≡ larger c.objects.spaces
      by_open true is = refl
      by_open false is =
          let few = sound.heap.blocks.new_words in
          let cycle : is_of_cycle c.posts.posted_phase ≡ false = sym sound.heap.blocks.held ∙ is in
          let few' : c.objects.spaces.new.words ≤ 0 = subst (λ t. c.objects.spaces.new.words ≤ (if t then c.limits.max_words else 0)) cycle few in
          let none : c.objects.spaces.new.words ≡ 0 = omega (arith, few') in
          sym (ap (λ w. max c.objects.spaces.old.words w) none ∙ max-eq_left {n = c.objects.spaces.old.words} {m = 0} (omega arith))

  module _ (accepted : IsAccepted tree) (in_range : IsTrue (are_in_range limits)) where
    -- no cycle of a run has more working events than that
    pub cycles_bounded : (events : List Event) (reports : List Report) (s : State) → IsRunOf tree limits events reports s → AreCyclesBounded tree limits (zip events reports)
    cycles_bounded events reports s h done rest split =
        let represents : Represents h.machine h.first = opened_represents tree limits accepted in_range h.machine h.opened h.first h.begins in
        let first : IsBounded [] h.machine = bounded_first h.machine (opened_unbegun h.machine h.opened) in
        let after = bounded_after done rest [] h.machine h.first h.last first represents (subst (λ l. RefusesBeyondRoom h.machine h.first l h.last) split h.refuses) in
        let all : work_of_newest (reverse done) ≤ bound after.0 = subst (λ l. work_of_newest l ≤ bound after.0) (append-nil (reverse done)) after.2 in
        let seen = larger_seen after.0 after.4.sound in
        (after.0, (h.machine, h.opened, after.1), omega (arith, all, seen))
