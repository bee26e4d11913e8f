-- What a thread's step reports says whether it waited.
use Rattle.std.proofs.Common.{◌≡◌, ◌≢◌, ◌⊎◌, ◌-◌, ℕ, zero, suc, Bool, true, false, if◌then◌else◌, List, [], ◌∷◌, Option, Some, None, slice_get, refl, inl, inr, sym, ap, ◌∙◌, subst}
use Rattle.std.specs.Option.{option_map_or}
use Rattle.cil_model.specs.declared.limits.Limits.{Limits}
use Rattle.cil_model.specs.declared.reports.End.TheVariants.{Done, Budget, Fault as ByFault}
use Rattle.cil_model.specs.declared.reports.Report.{Report}
use Rattle.cil_model.specs.declared.reports.Report.TheVariants.{Ran, Blocked, Ended, Absent}
use Rattle.cil_model.specs.declared.trees.Tree.{Tree}
use Rattle.cil_model.specs.Typings.{IsAccepted}
use Rattle.cil_model.proofs.Lists.{none_is_some}
use Rattle.reference_machine.specs.Effects.{StepContext, Effect, Goes, Blocks, Raises, Sticks}
use Rattle.reference_machine.specs.States.{Frame, Thread, State, is_live_thread}
use Rattle.reference_machine.specs.Steps.{Answers, effect_of, continues, charge, step, step_of}
use Rattle.reference_machine.specs.TypedStates.{IsTyped}
use Rattle.reference_machine.specs.Waits.{Wait, wait_of}
use Rattle.reference_machine.proofs.Deadlocks.LastingDeadlocks.{waiting_lives}
use Rattle.reference_machine.proofs.Runs.InstructionEffects.{same_report, stuck_answers}
use Rattle.reference_machine.proofs.Deadlocks.WaitingThreads.{blocked_thread_waits, waiting_thread_blocks}

abbrev pub IsNoBlock : Report → Type 0
IsNoBlock Blocked = ⊥
IsNoBlock _ = Unit {0}

no_block : (q r : Report) → IsNoBlock q → q ≡ r → r ≡ Blocked → ⊥
no_block q r h same is = subst IsNoBlock (same ∙ is) h

-- a report of a blocked step is of an effect that blocks
blocked_effect : (s : State) (t left : ℕ) (frames : List Frame) (e : Effect) (r : Report) (next : State) → charge s t left frames e ≡ Answers r next → r ≡ Blocked → e ≡ Blocks
blocked_effect s t left frames (Goes [] after) r next h is = absurd (no_block (Ended Done) r tt (same_report (Ended Done) r _ next h) is)
blocked_effect s t zero frames (Goes (f ∷ fs) after) r next h is = absurd (no_block (Ended Budget) r tt (same_report (Ended Budget) r _ next h) is)
blocked_effect s t (suc left) frames (Goes (f ∷ fs) after) r next h is = absurd (no_block Ran r tt (same_report Ran r _ next h) is)
blocked_effect s t left frames Blocks r next h is = refl
blocked_effect s t left frames (Raises fault) r next h is = absurd (no_block (Ended (ByFault fault)) r tt (same_report (Ended (ByFault fault)) r _ next h) is)
blocked_effect s t left frames Sticks r next h is = stuck_answers r next h

-- a blocked step reports so, or uses up the budget
blocked_report : (s : State) (t left : ℕ) (frames : List Frame) (r : Report) (next : State) → continues Blocked s t left frames ≡ Answers r next → (r ≡ Blocked) ⊎ (r ≡ Ended Budget)
blocked_report s t zero frames r next h = inr (sym (same_report (Ended Budget) r _ next h))
blocked_report s t (suc left) frames r next h = inl (sym (same_report Blocked r _ next h))

module _ (tree : Tree) (limits : Limits) (accepted : IsAccepted tree) (s : State) (typed : IsTyped tree s) (t : ℕ) (refused : Bool) (r : Report) (next : State) where
  abbrev here : StepContext
  here = record { tree = tree; limits = limits; thread = t; is_refused = refused }

  -- the step of a thread that waits
  pub waiting_reports : step tree limits s t refused ≡ Answers r next → (w : Wait) → wait_of tree s t ≡ Some w → (r ≡ Blocked) ⊎ (r ≡ Ended Budget)
  waiting_reports h w waits =
      let live = waiting_lives tree s t w waits in
      let x : Thread = live.0 in
      let left : ℕ = x.steps_left - 1 in
      let is : step tree limits s t refused ≡ charge s t left x.frames (effect_of here s x.frames) =
      ap (λ o. option_map_or (step_of here s) o (Answers Absent s)) live.1 ∙ ap (λ b. if b then charge s t left x.frames (effect_of here s x.frames) else Answers Absent s) live.2 in
      blocked_report s t left x.frames r next (sym (ap (charge s t left x.frames) (waiting_thread_blocks here s x live.1 live.2 accepted typed w waits)) ∙ (sym is ∙ h))

  -- that of a thread that waits for nothing
  pub unwaiting_reports : step tree limits s t refused ≡ Answers r next → wait_of tree s t ≡ None → r ≢ Blocked
  unwaiting_reports h waits blocked = by_thread (slice_get s.threads t) refl h
    where
      by_life : (x : Thread) → slice_get s.threads t ≡ Some x → (b : Bool) → is_live_thread x ≡ b → (if b then charge s t (x.steps_left - 1) x.frames (effect_of here s x.frames) else Answers Absent s) ≡ Answers r next → ⊥
      by_life x is false ended e = no_block Absent r tt (same_report Absent r s next e) blocked
      by_life x is true lives e =
          let w = blocked_thread_waits here s x is lives accepted.legal (blocked_effect s t (x.steps_left - 1) x.frames (effect_of here s x.frames) r next e blocked) in
          none_is_some w.0 (sym waits ∙ w.1)

      by_thread : (x : Option Thread) → slice_get s.threads t ≡ x → option_map_or (step_of here s) x (Answers Absent s) ≡ Answers r next → ⊥
      by_thread None is e = no_block Absent r tt (same_report Absent r s next e) blocked
      by_thread (Some x) is e = by_life x is (is_live_thread x) refl e
