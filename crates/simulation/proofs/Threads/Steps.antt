-- Each step of a thread has the same result on both machines.
-- A step is refused memory exactly where the object that it would make exceeds the room.
use Rattle.std.proofs.Common.{◌≡◌, ◌-◌, if◌then◌else◌, is_none, ℕ, Bool, false, List, Option, Some, None, slice_get, slice_set, refl, inl, sym, ap, ◌∙◌, subst, ◌↔◌, ◌⊎◌, ◌<◌, ◌+◌, zero, suc, true, IsTrue, [], ◌∷◌, ◌++◌, inr, arith}
use Rattle.std.specs.Option.{option_map_or}
use Rattle.std.proofs.lemmas.Option.{same_Some}
use Rattle.std.proofs.lemmas.List.{set-set}
use Rattle.interpreter.specs.cil_model.declared.events.Event.TheVariants.{Step}
use Rattle.interpreter.specs.cil_model.declared.reports.End.{End}
use Rattle.interpreter.specs.cil_model.declared.reports.Report.{Report}
use Rattle.interpreter.specs.cil_model.declared.reports.Report.TheVariants.{Absent, Ran}
use Rattle.interpreter.specs.reference_machine.States.{Frame as StateFrame, Thread as StateThread, State, Contents, HeapObject, Free, with_birth}
use Rattle.interpreter.specs.reference_machine.Steps.{Answers, effect_of, charge, step, step_of, StepOutcome, continues}
use Rattle.interpreter.specs.reference_machine.Runs.{is_refusal}
use Rattle.interpreter.specs.object_memory.declared.addresses.Addr.{Addr}
use Rattle.interpreter.specs.threads_monitors.Frames.{Frames}
use Rattle.interpreter.specs.threads_monitors.declared.threads.ThreadStatus.{ThreadStatus}
use Rattle.interpreter.specs.threads_monitors.declared.threads.ThreadStatus.TheVariants.{Live, Ended}
use Rattle.interpreter.specs.threads_monitors.declared.threads.Thread.{Thread}
use Rattle.interpreter.specs.Instructions.{IsDone, Answer, answer_of}
use Rattle.interpreter.specs.declared.outcomes.InstructionOutcome.{InstructionOutcome}
use Rattle.interpreter.specs.declared.outcomes.InstructionOutcome.TheVariants.{OwnEffect, Starts, Joins}
use Rattle.interpreter.specs.reference_machine.BuiltIn.{Action, Start, Join, start, join}
use Rattle.simulation.specs.MachineStates.{MachineState, mutator_of}
use Rattle.simulation.specs.Refines.{IsThread, StatusRefines, Represents}
use Rattle.simulation.specs.Transitions.{IsStatusTransition, IsThreadTransition, IsTransition, finish_step}
use Rattle.simulation.proofs.ListLaws.AgreeingLists.{agree_at, agree_get}
use Rattle.simulation.proofs.Instructions.Correspondence.{InstructionsAreAlike, EffectsAlike, is_refused_effect, is_refused_outcome, HasNoOwnRoom}
use Rattle.simulation.specs.ReadySteps.{IsAnswerable}
use Rattle.simulation.proofs.Threads.NextInstruction.{setting_of, is_alive, does_alike, is_running}
use Rattle.simulation.proofs.Threads.StepResults.{Follows, KeepsOwnRoom, done, gives, step_is}
use Rattle.simulation.proofs.Threads.Requests.{here, running, below, Asks, asked_of, has_operand, index_below}
use Rattle.simulation.proofs.Threads.Joins.{joins}
use Rattle.simulation.proofs.Threads.StartSteps.{start_asked, starts, start_has_thread, start_storable}
use Rattle.simulation.proofs.Threads.StepEffects.{step_keeps_fitting, finished_refusal}
use Rattle.interpreter.proofs.cil_model.Lists.{none_is_some, set_itself}
use Rattle.simulation.proofs.Threads.LiveThreads.{KeepsOwnNames, normally, own_model, own_names, own_phase_is}
use Rattle.simulation.proofs.CollectedHeap.MemoryWithRoom.{keeps_itself, room_seen}
use Rattle.std.specs.Prelude.{nat_le}
use Rattle.std.proofs.lemmas.Bool.Decides.{nat_tests}
use Rattle.std.proofs.lemmas.List.Sums.{sum_by_push}
use Rattle.interpreter.specs.cil_model.declared.reports.Fault.TheVariants.{OutOfMemory}
use Rattle.interpreter.specs.cil_model.declared.trees.Tree.{Tree}
use Rattle.interpreter.specs.reference_machine.Effects.{Effect as StateEffect, Raises as StateRaises}
use Rattle.interpreter.specs.reference_machine.Cycles.{room}
use Rattle.interpreter.specs.reference_machine.Rooms.{cell_words, words_of_all}
use Rattle.interpreter.proofs.reference_machine.Runs.InstructionEffects.{same_after}
use Rattle.interpreter.proofs.reference_machine.Runs.OutOfMemory.{memory_is_refused}
use Rattle.interpreter.specs.object_memory.Spaces.{room_for}
use Rattle.collector.specs.phase_handshake.Handshakes.{own_phase}
use Rattle.simulation.specs.Rooms.{HasNoRoom, spaces_of}
use Rattle.interpreter.proofs.cil_model.SameLaws.{never}

-- ---- an instruction that asks something of other threads

module _ (c : MachineState) (s : State) (r : Represents c s) (t left : ℕ) (m : Frames) (there : slice_get c.threads t ≡ Some (record { thread_status = Live m; steps_left = left })) where
  -- an instruction that asks leaves all as it was
  abbrev asking : InstructionOutcome → Answer
  asking out = (answer_of m c.objects c.statics c.printed out)

  asks_itself : (action : Action) (object : Addr) (a : Answer) (out : InstructionOutcome) → Asks c s r t left m there action object a → Asks c s r t left m there action object (asking out)
  asks_itself action object a out h = record { operand = h.operand; rest = h.rest; stack = h.stack; refines = h.refines; is = h.is; frames = refl; memory = (refl, refl, refl) }

  asking_is : (action : Action) (object : Addr) (a : Answer) → Asks c s r t left m there action object a → a ≡ asking a.outcome
  asking_is action object a h =
      ap (λ x. answer_of x a.objects a.statics a.printed a.outcome) h.frames ∙ ap (λ x. answer_of m x a.statics a.printed a.outcome) h.memory.0 ∙ ap (λ x. answer_of m c.objects x a.printed a.outcome) h.memory.1 ∙ ap (λ x. answer_of m c.objects c.statics x a.outcome) h.memory.2

  -- its thread stands where it stood
  threads_stay : slice_set c.threads t (record { thread_status = Live m; steps_left = left }) ≡ c.threads
  threads_stay = set_itself c.threads t (record { thread_status = Live m; steps_left = left }) there

-- ---- threads that don't live

absent : (c : MachineState) (s : State) (r : Represents c s) (t : ℕ) → step c.tree c.limits s t false ≡ Answers Absent s → Follows c s r t (c, Absent)
absent c s r t is = λ fit. (
  s,
  is,
  record r { refines = record { name = (normally c s r).name; by = (normally c s r).by } },
  keeps_itself c.tree (mutator_of c t).phase c.objects s.objects,
  record { extends = λ a n named. named; kept = λ a kept. inl kept; copies = λ are. are },
)

none_absent : (c : MachineState) (s : State) (r : Represents c s) (t : ℕ) → slice_get c.threads t ≡ None → Follows c s r t (c, Absent)
none_absent c s r t none = by_thread (slice_get s.threads t) refl
  where
    by_thread : (u : Option StateThread) → slice_get s.threads t ≡ u → Follows c s r t (c, Absent)
    by_thread None is = absent c s r t (ap (λ x. option_map_or (step_of (setting_of c t false) s) x (Answers Absent s)) is)
    by_thread (Some u) is =
        let found : (x : Thread) × (slice_get c.threads t ≡ Some x) × IsThread c.tree c.limits r.refines.name x u = agree_get (IsThread c.tree c.limits r.refines.name) c.threads s.threads r.refines.by.threads t u is in
        none_is_some found.0 (sym none ∙ found.1)

ended_absent : (c : MachineState) (s : State) (r : Represents c s) (t left : ℕ) (e : End) → slice_get c.threads t ≡ Some (record { thread_status = Ended e; steps_left = left }) → Follows c s r t (c, Absent)
ended_absent c s r t left e there =
    let found : (u : StateThread) × (slice_get s.threads t ≡ Some u) × IsThread c.tree c.limits r.refines.name (record { thread_status = Ended e; steps_left = left }) u =
    agree_at (IsThread c.tree c.limits r.refines.name) c.threads s.threads r.refines.by.threads t (record { thread_status = Ended e; steps_left = left }) there in
    by_end found.0 found.1 found.0.frames found.0.ended refl found.2.thread_status
  where
    by_end : (u : StateThread) → slice_get s.threads t ≡ Some u → (fs : List StateFrame) (e' : Option End) → u.ended ≡ e' → StatusRefines c.tree c.limits r.refines.name (Ended e) fs e' → Follows c s r t (c, Absent)
    by_end u at fs None ended h = elim h [ ]
    by_end u at fs (Some e') ended h =
        absent c s r t (
        ap (λ x. option_map_or (step_of (setting_of c t false) s) x (Answers Absent s)) at ∙
        ap (λ x. if is_none x then charge s t (u.steps_left - 1) u.frames (effect_of (setting_of c t false) s u.frames) else Answers Absent s) ended)

-- ---- the outcome of a done instruction

module _ (each : InstructionsAreAlike) (c : MachineState) (s : State) (r : Represents c s) (t left : ℕ) (m : Frames) (there : slice_get c.threads t ≡ Some (record { thread_status = Live m; steps_left = left })) where
  -- the same on the reference machine, where memory is refused to both
  effects_alike : (a : Answer) → IsDone c.tree (mutator_of c t) m c.objects c.statics c.printed a →
      EffectsAlike (setting_of c t (is_refused_outcome a.outcome)) (own_model c s r t left m there) (own_names c s r t left m there) m c.objects c.statics c.printed s (is_alive c s r t left m there).running (is_alive c s r t left m there).below a.outcome a
      (done c s r t left m there (is_refused_outcome a.outcome))
  effects_alike a d =
      let refused : Bool = is_refused_outcome a.outcome in
      let x = does_alike each c s r t left m there refused d.operation d.at d.constant in
      let same : x.answer ≡ a = same_Some x.answer a (sym x.is ∙ sym d.is) in
      subst (λ (y : Answer). refused ≡ is_refused_outcome y.outcome →
      EffectsAlike (setting_of c t refused) (own_model c s r t left m there) (own_names c s r t left m there) m c.objects c.statics c.printed s (is_alive c s r t left m there).running (is_alive c s r t left m there).below y.outcome y (done c s r t left m there refused))
      same x.alike refl

  module _ (after : MachineState × Report) where
    -- a live thread's step
    live_follows : (a : Answer) → IsDone c.tree (mutator_of c t) m c.objects c.statics c.printed a → finish_step c t left a a.outcome ≡ Some after → Follows c s r t after
    live_follows a d is = by_outcome a.outcome (effects_alike a d) is
      where
        by_outcome : (out : InstructionOutcome) →
            EffectsAlike (setting_of c t (is_refused_outcome out)) (own_model c s r t left m there) (own_names c s r t left m there) m c.objects c.statics c.printed s (is_alive c s r t left m there).running (is_alive c s r t left m there).below out a
            (done c s r t left m there (is_refused_outcome out)) →
            finish_step c t left a out ≡ Some after → Follows c s r t after
        by_outcome (OwnEffect e) h is' =
            subst (Follows c s r t) (same_Some _ after is')
            (gives c s r t left m there (slice_set c.threads t (record { thread_status = Live a.frames; steps_left = left })) (λ x. set-set c.threads t (record { thread_status = Live a.frames; steps_left = left }) x)
            (is_refused_effect e) e refl a h)
        by_outcome (Starts object) h is' =
            starts c s r t left m there d.operation d.at d.constant (slice_set c.threads t (record { thread_status = Live m; steps_left = left })) (threads_stay c s r t left m there) object
            (asks_itself c s r t left m there Start object a (Starts object) h) after
            (subst (λ y. finish_step c t left y (Starts object) ≡ Some after) (asking_is c s r t left m there Start object a h) is')
        by_outcome (Joins object) h is' =
            subst (Follows c s r t)
            (same_Some _ after (subst (λ y. finish_step c t left y (Joins object) ≡ Some after) (asking_is c s r t left m there Join object a h) is'))
            (joins c s r t left m there d.operation d.at d.constant (slice_set c.threads t (record { thread_status = Live m; steps_left = left })) (threads_stay c s r t left m there) object
            (asks_itself c s r t left m there Join object a (Joins object) h))

-- ---- all

module _ (each : InstructionsAreAlike) where
  -- a step has the same outcome on both, and keeps the room and the words of all objects together, and names
  pub step_names : (c : MachineState) (s : State) (r : Represents c s) (t : ℕ) (after : MachineState × Report) → IsTransition c (Step t) after →
      (s' : State) × (step c.tree c.limits s t (is_refusal after.1) ≡ Answers after.1 s') × (r' : Represents after.0 s') × KeepsOwnRoom c s t after.0.objects s' × KeepsOwnNames c s r after.0.objects r'.refines.name
  step_names c s r t after transition = by_thread (slice_get c.threads t) refl transition (step_keeps_fitting c after t transition r.sound.seated)
    where
      by_thread_status : (left : ℕ) (thread_status : ThreadStatus) → slice_get c.threads t ≡ Some (record { thread_status = thread_status; steps_left = left }) → IsStatusTransition c t left thread_status after → Follows c s r t after
      by_thread_status left (Live m) there (a, d, is) = live_follows each c s r t left m there after a d is
      by_thread_status left (Ended e) there is = subst (Follows c s r t) (sym is) (ended_absent c s r t left e there)

      by_thread : (x : Option Thread) → slice_get c.threads t ≡ x → IsThreadTransition c t x after → Follows c s r t after
      by_thread None is h = subst (Follows c s r t) (sym h) (none_absent c s r t is)
      by_thread (Some x) is h = by_thread_status x.steps_left x.thread_status is h

  pub step_follows : (c : MachineState) (s : State) → Represents c s → (t : ℕ) (after : MachineState × Report) → IsTransition c (Step t) after →
      (s' : State) × (step c.tree c.limits s t (is_refusal after.1) ≡ Answers after.1 s') × Represents after.0 s' × KeepsOwnRoom c s t after.0.objects s'
  step_follows c s r t after transition = let f = step_names c s r t after transition in (f.0, f.1, f.2, f.3)

  -- what an instruction asks of other threads can be answered
  pub answerable : (c : MachineState) (s : State) → Represents c s → (t left : ℕ) (m : Frames) → slice_get c.threads t ≡ Some (record { thread_status = Live m; steps_left = left }) →
      (a : Answer) → IsDone c.tree (mutator_of c t) m c.objects c.statics c.printed a → IsAnswerable c t left a a.outcome
  answerable c s r t left m there a d = by_outcome a.outcome (effects_alike each c s r t left m there a d)
    where
      by_outcome : (out : InstructionOutcome) →
          EffectsAlike (setting_of c t (is_refused_outcome out)) (own_model c s r t left m there) (own_names c s r t left m there) m c.objects c.statics c.printed s (is_alive c s r t left m there).running (is_alive c s r t left m there).below out a
          (done c s r t left m there (is_refused_outcome out)) →
          IsAnswerable c t left a out
      by_outcome (OwnEffect e) h = tt
      by_outcome (Starts object) h =
          subst (λ y. IsAnswerable c t left y (Starts object)) (sym (asking_is c s r t left m there Start object a h)) (
            has_operand c s r t left m there Start (λ n. start (here c s r t left m there) s (running c s r t left m there) (below c s r t left m there) n own.rest) object (asking c s r t left m there (Starts object)) own (start_asked c s r t left m there object (asking c s r t left m there (Starts object)) own)
                (index_below c s r t left m there d.operation d.at d.constant),
            start_storable c s r t left m there object own,
            start_has_thread c s r t left m there (slice_set c.threads t (record { thread_status = Live m; steps_left = left })) (threads_stay c s r t left m there) object own,
          )
        where
          own : Asks c s r t left m there Start object (asking c s r t left m there (Starts object))
          own = asks_itself c s r t left m there Start object a (Starts object) h
      by_outcome (Joins object) h =
          subst (λ y. IsAnswerable c t left y (Joins object)) (sym (asking_is c s r t left m there Join object a h))
          (has_operand c s r t left m there Join (λ n. join (here c s r t left m there) s (running c s r t left m there) (below c s r t left m there) own.rest) object (asking c s r t left m there (Joins object)) own
          (asked_of c s r t left m there Join (λ rest n. join (here c s r t left m there) s (running c s r t left m there) (below c s r t left m there) rest) (λ v rest. refl) object (asking c s r t left m there (Joins object)) own)
          (index_below c s r t left m there d.operation d.at d.constant))
        where
          own : Asks c s r t left m there Join object (asking c s r t left m there (Joins object))
          own = asks_itself c s r t left m there Join object a (Joins object) h

-- ---- A step is refused memory exactly where the object that it would make exceeds the room.

-- ---- a test of room

pub beyond : (words left : ℕ) → left < words → (if nat_le words left then false else true) ≡ true
beyond words left h = let test : nat_le words left ≡ false = grind (arith, nat_tests) in ap (λ b. if b then false else true) test

pub is_beyond : (words left : ℕ) → (if nat_le words left then false else true) ≡ true → left < words
is_beyond words left h = by_test (nat_le words left) refl h
  where
    by_test : (b : Bool) → nat_le words left ≡ b → (if b then false else true) ≡ true → left < words
    by_test true test e = never e
    by_test false test e = grind (arith, nat_tests)

-- ---- where a step is refused, the object exceeds the room

-- the result of a step that makes an object
record IsBorn (s : State) (contents : Contents) (outcome : StepOutcome) : Type 0 where
  report : Report
  after : State
  is : outcome ≡ Answers report after
  objects : after.objects ≡ (with_birth s contents).objects

born_by : (s : State) (contents : Contents) (t left : ℕ) (frames : List StateFrame) → IsBorn s contents (continues Ran (with_birth s contents) t left frames)
born_by s contents t zero frames = record { report = _; after = _; is = refl; objects = refl }
born_by s contents t (suc left) frames = record { report = _; after = _; is = refl; objects = refl }

module _ (each : InstructionsAreAlike) (c : MachineState) (s : State) (r : Represents c s) (t left : ℕ) (m : Frames) (there : slice_get c.threads t ≡ Some (record { thread_status = Live m; steps_left = left })) where
  abbrev Exceeds : StateEffect → Type 0
  Exceeds e = HasNoOwnRoom (setting_of c t false) (own_model c s r t left m there) (own_names c s r t left m there) m c.objects c.statics c.printed s (is_alive c s r t left m there).running (is_alive c s r t left m there).below e

  -- the instruction's object exceeds the room for births of its thread
  instruction_exceeds : (a : Answer) → IsDone c.tree (mutator_of c t) m c.objects c.statics c.printed a → is_refused_outcome a.outcome ≡ true → Exceeds (done c s r t left m there false)
  instruction_exceeds a d refused =
      let x = does_alike each c s r t left m there false d.operation d.at d.constant in
      let same : x.answer ≡ a = same_Some x.answer a (sym x.is ∙ sym d.is) in
      by_effect (x.refuses refl (ap (λ (y : Answer). is_refused_outcome y.outcome) same ∙ refused))
    where
      by_effect : Exceeds (done c s r t left m there false) ⊎ (done c s r t left m there false ≡ StateRaises OutOfMemory) → Exceeds (done c s r t left m there false)
      by_effect (inl e) = e
      by_effect (inr e) = never (memory_is_refused (setting_of c t false) s (is_alive c s r t left m there).running (is_alive c s r t left m there).below (is_running c s r t left m there false).0 e)

  -- which a user sees
  room_is : room (spaces_of c.objects) (own_phase c.posts t) ≡ room_for (own_model c s r t left m there).phase c.objects.spaces
  room_is = room_seen c r.sound t ∙ ap (λ p. room_for p c.objects.spaces) (sym (own_phase_is c s r t left m there))

  -- so its step leaves the object, were it not refused
  step_exceeds : Exceeds (done c s r t left m there false) → HasNoRoom c s t
  step_exceeds e =
      let frames = (is_alive c s r t left m there).thread.frames in
      let born : IsBorn s e.contents (continues Ran (with_birth s e.contents) t (left - 1) (e.running ∷ e.waiting)) = born_by s e.contents t (left - 1) (e.running ∷ e.waiting) in
      record {
        report = born.report;
        after = born.after;
        object = record { contents = e.contents; monitor = Free; thread = None };
        without_refusal = step_is c s r t left m there false ∙ ap (charge s t (left - 1) frames) e.is ∙ born.is;
        is_born = born.objects;
        exceeds = beyond (cell_words c.tree e.contents) (room (spaces_of c.objects) (own_phase c.posts t)) (subst (λ n. n < cell_words c.tree e.contents) (sym room_is) e.exceeds);
      }

-- ---- where the object exceeds the room, the step is refused

-- the words of one object more
one_more : (tree : Tree) (objects : List HeapObject) (object : HeapObject) → words_of_all tree (objects ++ object ∷ []) ≡ words_of_all tree objects + cell_words tree object.contents
one_more tree objects object = sum_by_push (λ (x : HeapObject). cell_words tree x.contents) objects object

-- what was taken of the room was there
was_there : (left_then left all_then all cell : ℕ) → left_then + all_then ≡ left + all → all_then ≡ all + cell → left < cell → ⊥
was_there left_then left all_then all cell together more beyond_left = absurd (omega arith)

module _ (each : InstructionsAreAlike) (c : MachineState) (s : State) (r : Represents c s) (t : ℕ) (after : MachineState × Report) (transition : IsTransition c (Step t) after) where
  exceeding_is_refused : HasNoRoom c s t → IsTrue (is_refusal after.1)
  exceeding_is_refused x = by_report (is_refusal after.1) refl (step_follows each c s r t after transition)
    where
      by_report : (b : Bool) → is_refusal after.1 ≡ b → (s' : State) × (step c.tree c.limits s t (is_refusal after.1) ≡ Answers after.1 s') × Represents after.0 s' × KeepsOwnRoom c s t after.0.objects s' → IsTrue b
      by_report true is follows = refl
      by_report false is follows =
          let one : x.after ≡ follows.0 = same_after x.report after.1 x.after follows.0 (sym x.without_refusal ∙ ap (step c.tree c.limits s t) (sym is) ∙ follows.1) in
          let words : words_of_all c.tree follows.0.objects ≡ words_of_all c.tree s.objects + cell_words c.tree x.object.contents =
          ap (λ (y : State). words_of_all c.tree y.objects) (sym one) ∙ ap (words_of_all c.tree) x.is_born ∙ one_more c.tree s.objects x.object in
          let more : room (spaces_of c.objects) (own_phase c.posts t) < cell_words c.tree x.object.contents = is_beyond (cell_words c.tree x.object.contents) (room (spaces_of c.objects) (own_phase c.posts t)) x.exceeds in
          absurd (was_there (room_for (own_phase c.posts t) after.0.objects.spaces) (room_for (own_phase c.posts t) c.objects.spaces) (words_of_all c.tree follows.0.objects) (words_of_all c.tree s.objects) (cell_words c.tree x.object.contents)
          follows.3.together words (subst (λ n. n < cell_words c.tree x.object.contents) (room_seen c r.sound t) more))

  refused_exceeds : IsTrue (is_refusal after.1) → HasNoRoom c s t
  refused_exceeds refused = by_thread (slice_get c.threads t) refl transition
    where
      absent : after ≡ (c, Absent) → HasNoRoom c s t
      absent e = never (sym (ap (λ (x : MachineState × Report). is_refusal x.1) e) ∙ refused)

      by_thread_status : (left : ℕ) (thread_status : ThreadStatus) → slice_get c.threads t ≡ Some (record { thread_status = thread_status; steps_left = left }) → IsStatusTransition c t left thread_status after → HasNoRoom c s t
      by_thread_status left (Live m) there (a, d, is) =
          step_exceeds each c s r t left m there (instruction_exceeds each c s r t left m there a d (sym (finished_refusal c t left a after a.outcome is) ∙ refused))
      by_thread_status left (Ended e) there is = absent is

      by_thread : (x : Option Thread) → slice_get c.threads t ≡ x → IsThreadTransition c t x after → HasNoRoom c s t
      by_thread None is h = absent h
      by_thread (Some x) is h = by_thread_status x.steps_left x.thread_status is h

  pub refused_beyond_room : IsTrue (is_refusal after.1) ↔ HasNoRoom c s t
  refused_beyond_room = (refused_exceeds, exceeding_is_refused)
