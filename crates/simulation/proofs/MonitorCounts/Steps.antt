-- After each step no monitor is held more often than its owner made steps.
use Rattle.std.proofs.Common.{◌≡◌, ◌≤◌, ◌+◌, ◌-◌, ◌⊎◌, is_none, ℕ, zero, suc, Bool, if◌then◌else◌, List, [], ◌∷◌, Option, Some, None, slice_get, slice_set, refl, inl, inr, sym, ap, ◌∙◌, subst, arith}
use Rattle.std.specs.Option.{option_map_or}
use Rattle.interpreter.specs.cil_model.declared.trees.Tree.{Tree}
use Rattle.interpreter.specs.cil_model.declared.limits.Limits.{Limits}
use Rattle.interpreter.specs.cil_model.declared.reports.End.{End}
use Rattle.interpreter.specs.cil_model.declared.reports.End.TheVariants.{Done, Budget, Fault as ByFault}
use Rattle.interpreter.specs.cil_model.declared.reports.Report.{Report}
use Rattle.interpreter.specs.cil_model.declared.reports.Report.TheVariants.{Ran, Blocked, Absent}
use Rattle.interpreter.specs.reference_machine.States.{Monitor, Free, Held, Frame, Thread, State}
use Rattle.interpreter.specs.reference_machine.Effects.{StepContext, Effect, Goes, Blocks, Raises, Sticks}
use Rattle.interpreter.specs.reference_machine.Steps.{StepOutcome, Answers, Stuck, effect_of, with_thread_at, ended_as, continues, charge, step_of, step}
use Rattle.simulation.specs.Counts.{IsCountedMonitor, IsCounted}
use Rattle.simulation.proofs.ListLaws.ChangedItems.{set_or_stays}
use Rattle.simulation.proofs.MonitorCounts.StateChanges.{IsStepping, IsCountedAfter, KeepsCounts, own_count, itself_keeps}
use Rattle.simulation.proofs.MonitorCounts.InstructionSteps.{KeepsInEffect, goes, effect_keeps}
use Rattle.interpreter.proofs.cil_model.Lists.{none_is_some, set_or_was, set_is_there}

-- the state that an outcome has is counted
abbrev LeavesCounted : Limits → StepOutcome → Type 0
LeavesCounted limits (Answers r s) = IsCounted limits s
LeavesCounted limits Stuck = Unit {0}

module _ (here : StepContext) (allowed : 1 ≤ here.limits.budget) (s : State) where
  module _ (left : ℕ) (stepping : IsStepping here s left) (after : State) (keeps : KeepsCounts here s left after) (moved : Thread) (steps : moved.steps_left ≡ left) where
    -- a monitor that the thread holds after the step
    own_counted : (owner count : ℕ) → owner ≡ here.thread → count + left ≤ here.limits.budget → IsCountedMonitor here.limits (with_thread_at after here.thread moved) (Held owner count)
    own_counted owner count own within = (
      moved,
      ap (slice_get (slice_set after.threads here.thread moved)) own ∙ set_is_there after.threads here.thread moved stepping.thread (keeps.stay here.thread stepping.thread stepping.there),
      omega (arith, within, steps),
    )

    -- one that was counted: its owner's thread stays, or has a step less
    before_counted : (m : Monitor) → IsCountedMonitor here.limits s m → IsCountedMonitor here.limits (with_thread_at after here.thread moved) m
    before_counted Free h = tt
    before_counted (Held owner count) (t, there, within) = by_owner (set_or_stays after.threads here.thread owner moved t (keeps.stay owner t there))
      where
        by_owner : (owner ≡ here.thread) ⊎ (slice_get (slice_set after.threads here.thread moved) owner ≡ Some t) → IsCountedMonitor here.limits (with_thread_at after here.thread moved) (Held owner count)
        by_owner (inl own) = let more = own_count here s left stepping owner count own (t, there, within) in own_counted owner count own (omega (arith, more))
        by_owner (inr found) = (t, found, within)

    -- so is any monitor that the step leaves
    after_counted : (m : Monitor) → IsCountedAfter here s left m → IsCountedMonitor here.limits (with_thread_at after here.thread moved) m
    after_counted m (inl h) = before_counted m h
    after_counted Free (inr h) = tt
    after_counted (Held owner count) (inr (own, within)) = own_counted owner count own within

    -- the state with the thread after its step
    moved_counted : (moved.ended ≡ None → 1 ≤ left) → IsCounted here.limits (with_thread_at after here.thread moved)
    moved_counted lives = record {
      objects = λ n o there. after_counted o.monitor (keeps.objects n o there);
      literals = λ characters m there. after_counted m (keeps.literals characters m there);
      live = λ n t there alive. live_at n t (set_or_was after.threads here.thread n moved t there) alive;
      within = λ n t there. within_at n t (set_or_was after.threads here.thread n moved t there);
    }
      where
        -- a thread that the step leaves as it was, or that begins, has a step left
        live_before : (n : ℕ) (t : Thread) → (slice_get s.threads n ≡ Some t) ⊎ (t.steps_left ≡ here.limits.budget) → t.ended ≡ None → 1 ≤ t.steps_left
        live_before n t (inl was) alive = stepping.counted.live n t was alive
        live_before n t (inr whole) alive = omega (arith, whole, allowed)

        -- so has the one that made the step, where it lives
        live_at : (n : ℕ) (t : Thread) → (t ≡ moved) ⊎ (slice_get after.threads n ≡ Some t) → t.ended ≡ None → 1 ≤ t.steps_left
        live_at n t (inl is) alive = let e = ap (λ (x : Thread). x.steps_left) is in let h = lives (sym (ap (λ (x : Thread). x.ended) is) ∙ alive) in omega (arith, e, h, steps)
        live_at n t (inr was) alive = live_before n t (keeps.threads n t was) alive

        -- and none has more than its budget
        within_before : (n : ℕ) (t : Thread) → (slice_get s.threads n ≡ Some t) ⊎ (t.steps_left ≡ here.limits.budget) → t.steps_left ≤ here.limits.budget
        within_before n t (inl was) = stepping.counted.within n t was
        within_before n t (inr whole) = omega (arith, whole)

        -- nor has the one that made the step
        within_at : (n : ℕ) (t : Thread) → (t ≡ moved) ⊎ (slice_get after.threads n ≡ Some t) → t.steps_left ≤ here.limits.budget
        within_at n t (inl is) =
            let e = ap (λ (x : Thread). x.steps_left) is in
            let h = stepping.counted.within here.thread stepping.thread stepping.there in
            let less = stepping.one_less in omega (arith, e, h, less, steps)
        within_at n t (inr was) = within_before n t (keeps.threads n t was)

  -- ---- what a step returns

  -- where the thread ends
  ended_counted : (left : ℕ) → IsStepping here s left → (after : State) → KeepsCounts here s left after → (e : End) → LeavesCounted here.limits (ended_as after here.thread left e)
  ended_counted left stepping after keeps e = moved_counted left stepping after keeps _ refl (λ live. none_is_some e (sym live))

  -- where it continues, or its budget is used up
  going_counted : (r : Report) (left : ℕ) → IsStepping here s left → (after : State) → KeepsCounts here s left after → (frames : List Frame) → LeavesCounted here.limits (continues r after here.thread left frames)
  going_counted r zero stepping after keeps frames = ended_counted zero stepping after keeps Budget
  going_counted r (suc left) stepping after keeps frames = moved_counted (suc left) stepping after keeps _ refl (λ live. omega arith)

  -- whatever the effect was
  step_charged_counted : (left : ℕ) → IsStepping here s left → (frames : List Frame) (e : Effect) → KeepsInEffect here s left e → LeavesCounted here.limits (charge s here.thread left frames e)
  step_charged_counted left stepping frames (Goes [] after) (goes _ _ keeps) = ended_counted left stepping after keeps Done
  step_charged_counted left stepping frames (Goes (f ∷ below) after) (goes _ _ keeps) = going_counted Ran left stepping after keeps (f ∷ below)
  step_charged_counted left stepping frames Blocks k = going_counted Blocked left stepping s (itself_keeps here s left stepping) frames
  step_charged_counted left stepping frames (Raises x) k = ended_counted left stepping s (itself_keeps here s left stepping) (ByFault x)
  step_charged_counted left stepping frames Sticks k = tt

  -- a live thread's step; one that has ended is absent
  thread_counted : IsCounted here.limits s → (thread : Thread) → slice_get s.threads here.thread ≡ Some thread → LeavesCounted here.limits (step_of here s thread)
  thread_counted counted thread there = by_end thread.ended refl
    where
      stepping : thread.ended ≡ None → IsStepping here s (thread.steps_left - 1)
      stepping is = let h = counted.live here.thread thread there is in record { counted = counted; thread = thread; there = there; one_less = omega (arith, h) }

      by_end : (e : Option End) → thread.ended ≡ e → LeavesCounted here.limits (if is_none e then charge s here.thread (thread.steps_left - 1) thread.frames (effect_of here s thread.frames) else Answers Absent s)
      by_end None is = step_charged_counted (thread.steps_left - 1) (stepping is) thread.frames (effect_of here s thread.frames) (effect_keeps here s (thread.steps_left - 1) (stepping is) thread.frames)
      by_end (Some e) is = counted

-- a step from a counted state leaves a counted state
pub step_counted : (tree : Tree) (limits : Limits) → 1 ≤ limits.budget → (t : ℕ) (refused : Bool) (s : State) → IsCounted limits s → (r : Report) (s' : State) → step tree limits s t refused ≡ Answers r s' → IsCounted limits s'
step_counted tree limits allowed t refused s counted r s' e = subst (LeavesCounted limits) e (by_thread (slice_get s.threads t) refl)
  where
    here : StepContext
    here = record { tree = tree; limits = limits; thread = t; is_refused = refused }

    by_thread : (o : Option Thread) → slice_get s.threads t ≡ o → LeavesCounted limits (option_map_or (step_of here s) o (Answers Absent s))
    by_thread None is = counted
    by_thread (Some thread) is = thread_counted here allowed s counted thread is
