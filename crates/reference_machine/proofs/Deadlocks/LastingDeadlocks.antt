-- A set of threads that wait for one another keeps waiting, up to the step that uses up the budget of one.
use Rattle.std.proofs.Common.{◌≡◌, ◌⊎◌, ◌==◌, ◌-◌, ℕ, zero, suc, Bool, true, false, if◌then◌else◌, List, [], ◌∷◌, Option, Some, None, option_map, option_and_then, unwrap_or, slice_get, slice_set, refl, inl, inr, sym, ap, ◌∙◌, subst}
use Rattle.std.specs.Option.{option_map_or}
use Rattle.std.proofs.lemmas.Bool.{eqb-true}
use Rattle.std.proofs.lemmas.Option.{same_Some}
use Rattle.cil_model.specs.declared.instructions.Instruction.{Instruction}
use Rattle.cil_model.specs.declared.limits.Limits.{Limits}
use Rattle.cil_model.specs.declared.reports.End.TheVariants.{Done, Budget, Fault as ByFault}
use Rattle.cil_model.specs.declared.reports.Report.{Report}
use Rattle.cil_model.specs.declared.reports.Report.TheVariants.{Ran, Blocked, Ended, Absent}
use Rattle.cil_model.specs.declared.trees.Tree.{Tree}
use Rattle.cil_model.specs.Typings.{IsAccepted}
use Rattle.cil_model.proofs.Lists.{none_is_some, set_is_there}
use Rattle.cil_model.proofs.SameLaws.{not_both}
use Rattle.reference_machine.specs.BuiltIn.{Action, Enter, Join}
use Rattle.reference_machine.specs.Effects.{StepContext, Effect, Goes, Blocks, Raises, Sticks}
use Rattle.reference_machine.specs.Runs.{StepRequest, RunsTo, followed_by, run}
use Rattle.reference_machine.specs.States.{Monitor, Held, HeapObject, Frame, Thread, State, is_live, is_live_thread, monitor_of, object_at}
use Rattle.reference_machine.specs.Steps.{Answers, effect_of, continues, instruction_at, charge, step, step_of, with_thread_at}
use Rattle.reference_machine.specs.Values.{ObjectName, Born, Literal, Value}
use Rattle.reference_machine.proofs.Runs.JoinedRuns.{after_run}
use Rattle.reference_machine.proofs.Runs.InstructionEffects.{goes, same_after, same_report, stuck_answers}
use Rattle.reference_machine.specs.TypedStates.{IsTyped}
use Rattle.reference_machine.proofs.TypedSteps.AllInstructions.{instruction_typed}
use Rattle.reference_machine.proofs.TypedSteps.StepsAndRuns.{step_typed}
use Rattle.reference_machine.specs.Waits.{Wait, ForMonitor, ForEnd, called_action, end_awaited, held_by_another, top_object, wait_by, wait_in, wait_of, wait_of_thread}
use Rattle.reference_machine.specs.Blocking.{HasEnded, IsBlockedSet, IsHeldUp, IsIn, StaysBlocked}
use Rattle.reference_machine.proofs.Deadlocks.BlockingInstructions.{LeavesOthers, effect_keeps}
use Rattle.reference_machine.proofs.Deadlocks.OtherThreads.{KeepsOthers, itself_keeps, moved_keeps, set_elsewhere}
use Rattle.reference_machine.proofs.Deadlocks.WaitingThreads.{waiting_thread_blocks}

-- ---- from one state to another

-- what these threads hold stays held, threads of objects stay theirs, and of these threads the live ones stay so
pub record Holds (these : ℕ → Type 0) (before after : State) : Type 0 where
  pub monitors : (n : ObjectName) (owner count : ℕ) → these owner → monitor_of before n ≡ Some (Held owner count) → monitor_of after n ≡ Some (Held owner count)
  pub objects : (n : ObjectName) (o : HeapObject) (v : ℕ) → object_at before n ≡ Some o → o.thread ≡ Some v → (x : HeapObject) × (object_at after n ≡ Some x) × (x.thread ≡ Some v)
  pub lives : (v : ℕ) → these v → is_live before v ≡ true → is_live after v ≡ true

-- the thread that a wait is for is one of these
abbrev pub IsForThese : (ℕ → Type 0) → Wait → Type 0
IsForThese these (ForMonitor n owner) = these owner
IsForThese these (ForEnd v) = these v

-- so what of these threads is waited for is still waited for
module _ (these : ℕ → Type 0) (s after : State) (holds : Holds these s after) (u : ℕ) (w : Wait) (others : IsForThese these w) where
  enters_still : (stack : List Value) → wait_by s u Enter stack ≡ Some w → wait_by after u Enter stack ≡ Some w
  enters_still stack h = by_object (top_object stack) h
    where
      by_owner : (n : ObjectName) (owner count : ℕ) (b : Bool) → (if b then None else Some (ForMonitor n owner)) ≡ Some w → these owner
      by_owner n owner count true e = none_is_some w e
      by_owner n owner count false e = subst (IsForThese these) (sym (same_Some (ForMonitor n owner) w e)) others

      by_monitor : (n : ObjectName) (m : Option Monitor) → monitor_of s n ≡ m → option_and_then (held_by_another n u) m ≡ Some w → option_and_then (held_by_another n u) (monitor_of after n) ≡ Some w
      by_monitor n (Some (Held owner count)) is e = ap (option_and_then (held_by_another n u)) (holds.monitors n owner count (by_owner n owner count (owner == u) e) is) ∙ e
      by_monitor n _ is e = none_is_some w e

      by_object : (o : Option ObjectName) → option_and_then (λ n. option_and_then (held_by_another n u) (monitor_of s n)) o ≡ Some w → option_and_then (λ n. option_and_then (held_by_another n u) (monitor_of after n)) o ≡ Some w
      by_object None e = none_is_some w e
      by_object (Some n) e = by_monitor n (monitor_of s n) refl e

  joins_still : (stack : List Value) → wait_by s u Join stack ≡ Some w → wait_by after u Join stack ≡ Some w
  joins_still stack h = by_name (top_object stack) h
    where
      by_life : (v : ℕ) (b : Bool) → is_live s v ≡ b → (if b then Some (ForEnd v) else None) ≡ Some w → end_awaited after v ≡ Some w
      by_life v false is e = none_is_some w e
      by_life v true is e =
          let these_v : these v = subst (IsForThese these) (sym (same_Some (ForEnd v) w e)) others in
          ap (λ b. if b then Some (ForEnd v) else None) (holds.lives v these_v is) ∙ e

      by_thread : (n : ObjectName) (o : HeapObject) → object_at s n ≡ Some o → (v : Option ℕ) → o.thread ≡ v → option_and_then (end_awaited s) v ≡ Some w →
          option_and_then (λ (x : HeapObject). option_and_then (end_awaited after) x.thread) (object_at after n) ≡ Some w
      by_thread n o there None is e = none_is_some w e
      by_thread n o there (Some v) is e =
          let kept = holds.objects n o v there is in
          ap (option_and_then (λ (x : HeapObject). option_and_then (end_awaited after) x.thread)) kept.1 ∙ (ap (option_and_then (end_awaited after)) kept.2 ∙ by_life v (is_live s v) refl e)

      by_object : (n : ObjectName) (o : Option HeapObject) → object_at s n ≡ o → option_and_then (λ (x : HeapObject). option_and_then (end_awaited s) x.thread) o ≡ Some w →
          option_and_then (λ (x : HeapObject). option_and_then (end_awaited after) x.thread) (object_at after n) ≡ Some w
      by_object n None is e = none_is_some w e
      by_object n (Some o) is e = by_thread n o is o.thread refl e

      by_name : (o : Option ObjectName) → option_and_then (λ n. option_and_then (λ (x : HeapObject). option_and_then (end_awaited s) x.thread) (object_at s n)) o ≡ Some w →
          option_and_then (λ n. option_and_then (λ (x : HeapObject). option_and_then (end_awaited after) x.thread) (object_at after n)) o ≡ Some w
      by_name None e = none_is_some w e
      by_name (Some n) e = by_object n (object_at s n) refl e

  acts_still : (a : Action) (stack : List Value) → wait_by s u a stack ≡ Some w → wait_by after u a stack ≡ Some w
  acts_still Enter stack h = enters_still stack h
  acts_still Join stack h = joins_still stack h
  acts_still _ stack h = none_is_some w h

  module _ (tree : Tree) where
    frame_waits : (f : Frame) → wait_in tree s u f ≡ Some w → wait_in tree after u f ≡ Some w
    frame_waits f h = by_instruction (instruction_at f) h
      where
        by_action : (a : Option Action) → option_and_then (λ x. wait_by s u x f.stack) a ≡ Some w → option_and_then (λ x. wait_by after u x f.stack) a ≡ Some w
        by_action None e = none_is_some w e
        by_action (Some a) e = acts_still a f.stack e

        by_instruction : (i : Option Instruction) → option_and_then (λ x. option_and_then (λ a. wait_by s u a f.stack) (called_action tree x)) i ≡ Some w →
            option_and_then (λ x. option_and_then (λ a. wait_by after u a f.stack) (called_action tree x)) i ≡ Some w
        by_instruction None e = none_is_some w e
        by_instruction (Some i) e = by_action (called_action tree i) e

    -- a live thread with the same frames waits as it did
    pub thread_waits_still : (x y : Thread) → y.frames ≡ x.frames → is_live_thread y ≡ true → wait_of_thread tree s u x ≡ Some w → wait_of_thread tree after u y ≡ Some w
    thread_waits_still x y same lives h = ap (λ b. if b then option_and_then (wait_in tree after u) (slice_get y.frames 0) else None) lives ∙ by_life (is_live_thread x) h
      where
        by_frame : (f : Option Frame) → option_and_then (wait_in tree s u) f ≡ Some w → option_and_then (wait_in tree after u) f ≡ Some w
        by_frame None e = none_is_some w e
        by_frame (Some f) e = frame_waits f e

        by_life : (b : Bool) → (if b then option_and_then (wait_in tree s u) (slice_get x.frames 0) else None) ≡ Some w → option_and_then (wait_in tree after u) (slice_get y.frames 0) ≡ Some w
        by_life false e = none_is_some w e
        by_life true e = ap (λ (fs : List Frame). option_and_then (wait_in tree after u) (slice_get fs 0)) same ∙ by_frame (slice_get x.frames 0) e

-- a thread that waits was started, and is live
pub waiting_lives : (tree : Tree) (s : State) (u : ℕ) (w : Wait) → wait_of tree s u ≡ Some w → (x : Thread) × (slice_get s.threads u ≡ Some x) × (is_live_thread x ≡ true) × (wait_of_thread tree s u x ≡ Some w)
waiting_lives tree s u w h = by_thread (slice_get s.threads u) refl h
  where
    by_life : (x : Thread) → slice_get s.threads u ≡ Some x → (b : Bool) → is_live_thread x ≡ b → (if b then option_and_then (wait_in tree s u) (slice_get x.frames 0) else None) ≡ Some w →
        (y : Thread) × (slice_get s.threads u ≡ Some y) × (is_live_thread y ≡ true) × (wait_of_thread tree s u y ≡ Some w)
    by_life x is false lives e = none_is_some w e
    by_life x is true lives e = (x, is, lives, ap (λ b. if b then option_and_then (wait_in tree s u) (slice_get x.frames 0) else None) lives ∙ e)

    by_thread : (x : Option Thread) → slice_get s.threads u ≡ x → option_and_then (wait_of_thread tree s u) x ≡ Some w → (y : Thread) × (slice_get s.threads u ≡ Some y) × (is_live_thread y ≡ true) × (wait_of_thread tree s u y ≡ Some w)
    by_thread None is e = none_is_some w e
    by_thread (Some x) is e = by_life x is (is_live_thread x) refl e

-- ---- another thread's step

abbrev pub IsNot : ℕ → ℕ → Type 0
IsNot t v = (v == t) ≡ false

not_equal : (v t : ℕ) → (v ≡ t → ⊥) → IsNot t v
not_equal v t other = by_test (v == t) refl
  where
    by_test : (b : Bool) → (v == t) ≡ b → (v == t) ≡ false
    by_test false e = e
    by_test true e = absurd (other (eqb-true v t e))

module _ (t : ℕ) (s after : State) (keeps : KeepsOthers t s after) where
  others_hold : Holds (IsNot t) s after
  others_hold = record { monitors = monitors; objects = objects; lives = lives }
    where
      monitors : (n : ObjectName) (owner count : ℕ) → IsNot t owner → monitor_of s n ≡ Some (Held owner count) → monitor_of after n ≡ Some (Held owner count)
      monitors (Literal characters) owner count other h = keeps.literals characters owner count h other
      monitors (Born n) owner count other h = by_object (slice_get s.objects n) refl h
        where
          by_object : (o : Option HeapObject) → slice_get s.objects n ≡ o → option_map (λ (x : HeapObject). x.monitor) o ≡ Some (Held owner count) → monitor_of after (Born n) ≡ Some (Held owner count)
          by_object None is e = none_is_some (Held owner count) e
          by_object (Some o) is e =
              let kept = keeps.objects n o is in
              ap (option_map (λ (x : HeapObject). x.monitor)) kept.1 ∙ kept.2.monitor owner count e other

      objects : (n : ObjectName) (o : HeapObject) (v : ℕ) → object_at s n ≡ Some o → o.thread ≡ Some v → (x : HeapObject) × (object_at after n ≡ Some x) × (x.thread ≡ Some v)
      objects (Literal characters) o v there h = none_is_some o there
      objects (Born n) o v there h = let kept = keeps.objects n o there in (kept.0, kept.1, kept.2.thread v h)

      lives : (v : ℕ) → IsNot t v → is_live s v ≡ true → is_live after v ≡ true
      lives v other h = by_thread (slice_get s.threads v) refl h
        where
          by_thread : (x : Option Thread) → slice_get s.threads v ≡ x → unwrap_or (option_map is_live_thread x) false ≡ true → is_live after v ≡ true
          by_thread None is e = not_both false refl e
          by_thread (Some x) is e = ap (λ y. unwrap_or (option_map is_live_thread y) false) (keeps.threads v x other is) ∙ e

  ended_stays : (v : ℕ) → IsNot t v → HasEnded s v → HasEnded after v
  ended_stays v other (x, there, ended) = (x, keeps.threads v x other there, ended)

  -- a set that the thread is not in stays blocked
  pub set_stays : (tree : Tree) (set : List Bool) → (IsIn set t → ⊥) → (own : Thread) → slice_get s.threads t ≡ Some own → is_live_thread own ≡ true → IsBlockedSet tree s set → IsBlockedSet tree after set
  set_stays tree set outside own there lives blocked u inside =
      let waits = blocked u inside in
      let w : Wait = waits.0 in
      let live = waiting_lives tree s u w waits.1 in
      let held = held_by w waits.2 in (
        w,
        ap (option_and_then (wait_of_thread tree after u)) (keeps.threads u live.0 (apart u inside) live.1) ∙ thread_waits_still (IsNot t) s after others_hold u w held.0 tree live.0 live.0 refl live.2 live.3,
        held.1,
      )
    where
      apart : (v : ℕ) → IsIn set v → IsNot t v
      apart v h = not_equal v t (λ e. outside (ap (slice_get set) (sym e) ∙ h))

      ended_apart : (v : ℕ) → HasEnded s v → IsNot t v
      ended_apart v (x, is, ended) = not_equal v t (λ e.
          let same : x ≡ own = same_Some x own (sym is ∙ ap (slice_get s.threads) e ∙ there) in
          not_both (is_live_thread x) ended (ap is_live_thread same ∙ lives))

      held_by : (w : Wait) → IsHeldUp s set w → IsForThese (IsNot t) w × IsHeldUp after set w
      held_by (ForMonitor n owner) (inl h) = (apart owner h, inl h)
      held_by (ForMonitor n owner) (inr h) = (ended_apart owner h, inr (ended_stays owner (ended_apart owner h) h))
      held_by (ForEnd v) h = (apart v h, h)

-- ---- a step of its own that is blocked

module _ (t : ℕ) (s : State) (x y : Thread) (there : slice_get s.threads t ≡ Some x) (same : y.frames ≡ x.frames) (lives : is_live_thread y ≡ true) where
  abbrev after : State
  after = with_thread_at s t y

  abbrev Any : ℕ → Type 0
  Any v = Unit {0}

  live_at : (v : ℕ) → is_live s v ≡ true → is_live after v ≡ true
  live_at v h = by_test (v == t) refl
    where
      by_thread : (v == t) ≡ false → (z : Option Thread) → slice_get s.threads v ≡ z → unwrap_or (option_map is_live_thread z) false ≡ true → is_live after v ≡ true
      by_thread other None is e = not_both false refl e
      by_thread other (Some z) is e = ap (λ o. unwrap_or (option_map is_live_thread o) false) (set_elsewhere s.threads t v y z other is) ∙ e

      by_test : (b : Bool) → (v == t) ≡ b → is_live after v ≡ true
      by_test false e = by_thread e (slice_get s.threads v) refl h
      by_test true e = ap (λ k. unwrap_or (option_map is_live_thread (slice_get (slice_set s.threads t y) k)) false) (eqb-true v t e) ∙ (ap (λ o. unwrap_or (option_map is_live_thread o) false) (set_is_there s.threads t y x there) ∙ lives)

  all_hold : Holds Any s after
  all_hold = record { monitors = monitors; objects = objects; lives = λ v any h. live_at v h }
    where
      monitors : (n : ObjectName) (owner count : ℕ) → Unit {0} → monitor_of s n ≡ Some (Held owner count) → monitor_of after n ≡ Some (Held owner count)
      monitors (Born n) owner count any h = h
      monitors (Literal characters) owner count any h = h

      objects : (n : ObjectName) (o : HeapObject) (v : ℕ) → object_at s n ≡ Some o → o.thread ≡ Some v → (z : HeapObject) × (object_at after n ≡ Some z) × (z.thread ≡ Some v)
      objects (Born n) o v is h = (o, is, h)
      objects (Literal characters) o v is h = (o, is, h)

  any_wait : (w : Wait) → IsForThese Any w
  any_wait (ForMonitor n owner) = tt
  any_wait (ForEnd v) = tt

  held_still : (set : List Bool) (w : Wait) → is_live_thread x ≡ true → IsHeldUp s set w → IsHeldUp after set w
  held_still set (ForEnd v) live h = h
  held_still set (ForMonitor n owner) live (inl h) = inl h
  held_still set (ForMonitor n owner) live (inr (z, is, ended)) = inr (z, by_test (owner == t) refl, ended)
    where
      by_test : (b : Bool) → (owner == t) ≡ b → slice_get (slice_set s.threads t y) owner ≡ Some z
      by_test false e = set_elsewhere s.threads t owner y z e is
      by_test true e =
          let own : z ≡ x = same_Some z x (sym is ∙ ap (slice_get s.threads) (eqb-true owner t e) ∙ there) in
          not_both (is_live_thread z) ended (ap is_live_thread own ∙ live)

  pub set_stays_blocked : (tree : Tree) (set : List Bool) → is_live_thread x ≡ true → IsBlockedSet tree s set → IsBlockedSet tree after set
  set_stays_blocked tree set live blocked u inside =
      let waits = blocked u inside in
      let w : Wait = waits.0 in
      let is = waiting_lives tree s u w waits.1 in
      (w, by_test w is.0 is.1 is.2 is.3 (u == t) refl, held_still set w live waits.2)
    where
      by_test : (w : Wait) (z : Thread) → slice_get s.threads u ≡ Some z → is_live_thread z ≡ true → wait_of_thread tree s u z ≡ Some w → (b : Bool) → (u == t) ≡ b → wait_of tree after u ≡ Some w
      by_test w z is z_lives h false e =
          ap (option_and_then (wait_of_thread tree after u)) (set_elsewhere s.threads t u y z e is) ∙ thread_waits_still Any s after all_hold u w (any_wait w) tree z z refl z_lives h
      by_test w z is z_lives h true e =
          let own : x ≡ z = same_Some x z (sym there ∙ ap (slice_get s.threads) (sym (eqb-true u t e)) ∙ is) in
          ap (λ k. option_and_then (wait_of_thread tree after u) (slice_get (slice_set s.threads t y) k)) (eqb-true u t e)
          ∙ (ap (option_and_then (wait_of_thread tree after u)) (set_is_there s.threads t y x there)
          ∙ thread_waits_still Any s after all_hold u w (any_wait w) tree z y (same ∙ ap (λ (k : Thread). k.frames) own) lives h)

-- ---- one step

module _ (tree : Tree) (limits : Limits) (accepted : IsAccepted tree) (set : List Bool) where
  module _ (s : State) (typed : IsTyped tree s) (blocked : IsBlockedSet tree s set) (t : ℕ) (refused : Bool) (r : Report) (next : State) where
    abbrev here : StepContext
    here = record { tree = tree; limits = limits; thread = t; is_refused = refused }

    -- the set is blocked still, and a step of a thread in it was blocked; or it used up the thread's budget
    abbrev Lasts : Type 0
    Lasts = (IsBlockedSet tree next set × (IsIn set t → r ≡ Blocked)) ⊎ (IsIn set t × (r ≡ Ended Budget))

    -- a thread that is not live changes nothing, and is in no such set
    absent_lasts : (IsIn set t → ⊥) → Answers Absent s ≡ Answers r next → Lasts
    absent_lasts outside h = inl (subst (λ x. IsBlockedSet tree x set) (same_after Absent r s next h) blocked, λ inside. absurd (outside inside))

    not_live_is_outside : (x : Option Thread) → slice_get s.threads t ≡ x → ((y : Thread) → x ≡ Some y → is_live_thread y ≡ false) → IsIn set t → ⊥
    not_live_is_outside x is ended inside =
        let w = blocked t inside in
        let live = waiting_lives tree s t w.0 w.1 in
        not_both (is_live_thread live.0) (ended live.0 (sym is ∙ live.1)) live.2

    module _ (x : Thread) (there : slice_get s.threads t ≡ Some x) (lives : is_live_thread x ≡ true) where
      -- a step of a thread of the set
      own_lasts : IsIn set t → (left : ℕ) → continues Blocked s t left x.frames ≡ Answers r next → Lasts
      own_lasts inside zero h = inr (inside, sym (same_report (Ended Budget) r (with_thread_at s t (record { frames = []; steps_left = 0; ended = Some Budget })) next h))
      own_lasts inside (suc left) h =
          let y : Thread = record { frames = x.frames; steps_left = suc left; ended = None } in
          inl (
            subst (λ z. IsBlockedSet tree z set) (same_after Blocked r (with_thread_at s t y) next h) (set_stays_blocked t s x y there refl refl tree set lives blocked),
            λ k. sym (same_report Blocked r (with_thread_at s t y) next h),
          )

      inside_lasts : IsIn set t → charge s t (x.steps_left - 1) x.frames (effect_of here s x.frames) ≡ Answers r next → Lasts
      inside_lasts inside h =
          let waits = blocked t inside in
          own_lasts inside (x.steps_left - 1) (sym (ap (charge s t (x.steps_left - 1) x.frames) (waiting_thread_blocks here s x there lives accepted typed waits.0 waits.1)) ∙ h)

      -- a step of another one
      moved_lasts : (IsIn set t → ⊥) → (after' : State) → KeepsOthers t s after' → (y : Thread) (q : Report) → Answers q (with_thread_at after' t y) ≡ Answers r next → Lasts
      moved_lasts outside after' keeps y q h =
          let kept : KeepsOthers t s (with_thread_at after' t y) = moved_keeps t s after' y keeps in
          inl (
            subst (λ z. IsBlockedSet tree z set) (same_after q r (with_thread_at after' t y) next h) (set_stays t s (with_thread_at after' t y) kept tree set outside x there lives blocked),
            λ inside. absurd (outside inside),
          )

      going_lasts : (IsIn set t → ⊥) → (after' : State) → KeepsOthers t s after' → (q : Report) (left : ℕ) (frames : List Frame) → continues q after' t left frames ≡ Answers r next → Lasts
      going_lasts outside after' keeps q zero frames h = moved_lasts outside after' keeps _ (Ended Budget) h
      going_lasts outside after' keeps q (suc left) frames h = moved_lasts outside after' keeps _ q h

      step_charged_lasts : (IsIn set t → ⊥) → (f : Frame) (left : ℕ) (frames : List Frame) (e : Effect) → LeavesOthers here s f e → charge s t left frames e ≡ Answers r next → Lasts
      step_charged_lasts outside f left frames (Goes [] after') (goes _ _ keeps) h = moved_lasts outside after' keeps _ (Ended Done) h
      step_charged_lasts outside f left frames (Goes (g ∷ fs) after') (goes _ _ keeps) h = going_lasts outside after' keeps Ran left (g ∷ fs) h
      step_charged_lasts outside f left frames Blocks k h = going_lasts outside s (itself_keeps t s) Blocked left frames h
      step_charged_lasts outside f left frames (Raises fault) k h = moved_lasts outside s (itself_keeps t s) _ (Ended (ByFault fault)) h
      step_charged_lasts outside f left frames Sticks k h = stuck_answers r next h

      outside_lasts : (IsIn set t → ⊥) → (left : ℕ) (frames : List Frame) → charge s t left frames (effect_of here s frames) ≡ Answers r next → Lasts
      outside_lasts outside left [] h = stuck_answers r next h
      outside_lasts outside left (f ∷ below) h = step_charged_lasts outside f left (f ∷ below) (effect_of here s (f ∷ below)) (effect_keeps here s f below) h

      live_lasts : charge s t (x.steps_left - 1) x.frames (effect_of here s x.frames) ≡ Answers r next → Lasts
      live_lasts h = by_membership (slice_get set t) refl
        where
          by_membership : (o : Option Bool) → slice_get set t ≡ o → Lasts
          by_membership None is = outside_lasts (λ inside. none_is_some true (sym is ∙ inside)) (x.steps_left - 1) x.frames h
          by_membership (Some false) is = outside_lasts (λ inside. not_both false refl (same_Some false true (sym is ∙ inside))) (x.steps_left - 1) x.frames h
          by_membership (Some true) is = inside_lasts is h

    pub lasts : step tree limits s t refused ≡ Answers r next → Lasts
    lasts h = by_thread (slice_get s.threads t) refl h
      where
        by_life : (x : Thread) → slice_get s.threads t ≡ Some x → (b : Bool) → is_live_thread x ≡ b →
            (if b then charge s t (x.steps_left - 1) x.frames (effect_of here s x.frames) else Answers Absent s) ≡ Answers r next → Lasts
        by_life x is true lives e = live_lasts x is lives e
        by_life x is false ended e = absent_lasts (not_live_is_outside (Some x) is (λ y same. ap is_live_thread (sym (same_Some x y same)) ∙ ended)) e

        by_thread : (x : Option Thread) → slice_get s.threads t ≡ x → option_map_or (step_of here s) x (Answers Absent s) ≡ Answers r next → Lasts
        by_thread None is e = absent_lasts (not_live_is_outside None is (λ y same. none_is_some y same)) e
        by_thread (Some x) is e = by_life x is (is_live_thread x) refl e

  -- ---- a run

  pub runs_last : (requests : List StepRequest) (s : State) → IsTyped tree s → IsBlockedSet tree s set → (reports : List Report) (last : State) → run tree limits s requests ≡ RunsTo reports last → StaysBlocked set requests reports
  runs_last [] s typed blocked reports last h = tt
  runs_last (q ∷ qs) s typed blocked reports last h =
      let one = step_typed instruction_typed tree limits accepted q.0 q.1 s typed in
      after_run one.0 reports last (run tree limits one.1 qs) (sym (ap (λ o. followed_by o (λ u. run tree limits u qs)) one.2) ∙ h) (λ rs later are.
      subst (StaysBlocked set (q ∷ qs)) (sym are) (by_step one.1 one.0 rs (lasts s typed blocked q.0 q.1 one.0 one.1 one.2) (λ k. runs_last qs one.1 one.3 k rs last later)))
    where
      by_step : (next : State) (r : Report) (rs : List Report) → (IsBlockedSet tree next set × (IsIn set q.0 → r ≡ Blocked)) ⊎ (IsIn set q.0 × (r ≡ Ended Budget)) → (IsBlockedSet tree next set → StaysBlocked set qs rs) →
          (IsIn set q.0 × (r ≡ Ended Budget)) ⊎ ((IsIn set q.0 → r ≡ Blocked) × StaysBlocked set qs rs)
      by_step next r rs (inl (k, is)) more = inr (is, more k)
      by_step next r rs (inr over) more = inl over
