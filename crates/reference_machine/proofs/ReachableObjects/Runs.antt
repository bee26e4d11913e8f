-- No step and no run makes an object reachable that was not, but those that it makes.
use Rattle.std.proofs.Common.{◌≡◌, ◌≤◌, ◌⊎◌, ◌-◌, ℕ, zero, suc, Bool, if◌then◌else◌, is_none, List, [], ◌∷◌, length, Option, Some, None, slice_get, refl, inl, inr, subst}
use Rattle.std.specs.Option.{option_map_or}
use Rattle.cil_model.specs.declared.trees.Tree.{Tree}
use Rattle.cil_model.specs.declared.limits.Limits.{Limits}
use Rattle.cil_model.specs.declared.reports.End.{End}
use Rattle.cil_model.specs.declared.reports.End.TheVariants.{Done, Budget, Fault as ByFault}
use Rattle.cil_model.specs.declared.reports.Report.{Report}
use Rattle.cil_model.specs.declared.reports.Report.TheVariants.{Ran, Blocked, Ended, Absent}
use Rattle.reference_machine.specs.Values.{Born}
use Rattle.reference_machine.specs.States.{Frame, Thread, State}
use Rattle.reference_machine.specs.Effects.{StepContext, Effect, Goes, Blocks, Raises, Sticks}
use Rattle.reference_machine.specs.RetainedWords.{IsRetained}
use Rattle.reference_machine.specs.Reachable.{IsReachable}
use Rattle.reference_machine.specs.Steps.{Answers, instruction_at, effect_of, with_thread_at, ended_as, continues, charge, step_of, step}
use Rattle.reference_machine.specs.Runs.{StepRequest, RunsTo, run}
use Rattle.reference_machine.proofs.Runs.InstructionEffects.{same_after, stuck_answers}
use Rattle.reference_machine.proofs.Runs.JoinedRuns.{first_of, same_state}
use Rattle.reference_machine.specs.TypedStates.{IsTyped}
use Rattle.reference_machine.proofs.ReachableObjects.States.{AreFramesWithin, IsClosed, closed_thread_at}
use Rattle.reference_machine.proofs.ReachableObjects.Instructions.{KeepsWithin, goes, sticks, given_within, instruction_within}
use Rattle.reference_machine.proofs.ReachableObjects.ClosedSets.{reachable_within, IsReachedOrUnborn, reached_is_closed}
use Rattle.reference_machine.proofs.ReachableObjects.TypedStates.{reachable_is_there}

-- ---- steps and runs keep a closed set closed

module _ (Inside : ℕ → Type 0) where
  ended_within : (s s' : State) (t left : ℕ) (e : End) (r : Report) → IsClosed Inside s → ended_as s t left e ≡ Answers r s' → IsClosed Inside s'
  ended_within s s' t left e r h k =
      let over : Thread = record { frames = []; steps_left = left; ended = Some e } in
      subst (IsClosed Inside) (same_after (Ended e) r (with_thread_at s t over) s' k) (closed_thread_at Inside s h t over (λ live. tt))

  going_within : (s s' : State) (t left : ℕ) (frames : List Frame) (q r : Report) → IsClosed Inside s → AreFramesWithin Inside frames → continues q s t left frames ≡ Answers r s' → IsClosed Inside s'
  going_within s s' t zero frames q r h k e = ended_within s s' t 0 Budget r h e
  going_within s s' t (suc left) frames q r h k e =
      let on : Thread = record { frames = frames; steps_left = suc left; ended = None } in
      subst (IsClosed Inside) (same_after q r (with_thread_at s t on) s' e) (closed_thread_at Inside s h t on (λ live. k))

  step_charged_within : (s s' : State) (t left : ℕ) (frames : List Frame) (e : Effect) (r : Report) → IsClosed Inside s → AreFramesWithin Inside frames → KeepsWithin Inside e → charge s t left frames e ≡ Answers r s' → IsClosed Inside s'
  step_charged_within s s' t left frames (Goes [] s₁) r h k (goes _ _ closed fs) e = ended_within s₁ s' t left Done r closed e
  step_charged_within s s' t left frames (Goes (f ∷ below) s₁) r h k (goes _ _ closed fs) e = going_within s₁ s' t left (f ∷ below) Ran r closed fs e
  step_charged_within s s' t left frames Blocks r h k a e = going_within s s' t left frames Blocked r h k e
  step_charged_within s s' t left frames (Raises x) r h k a e = ended_within s s' t left (ByFault x) r h e
  step_charged_within s s' t left frames Sticks r h k a e = stuck_answers r s' e

  effect_within : (here : StepContext) (s : State) (frames : List Frame) → IsClosed Inside s → AreFramesWithin Inside frames → KeepsWithin Inside (effect_of here s frames)
  effect_within here s [] h k = sticks
  effect_within here s (f ∷ below) h k = given_within Inside (instruction_at f) (λ i e. instruction_within Inside here s f below (record { closed = h; frame = k.0; waiting = k.1 }) i)

  pub step_within : (tree : Tree) (limits : Limits) (s s' : State) (t : ℕ) (refused : Bool) (r : Report) → IsClosed Inside s → step tree limits s t refused ≡ Answers r s' → IsClosed Inside s'
  step_within tree limits s s' t refused r h e = by_thread (slice_get s.threads t) refl e
    where
      here : StepContext
      here = record { tree = tree; limits = limits; thread = t; is_refused = refused }

      same : Answers Absent s ≡ Answers r s' → IsClosed Inside s'
      same k = subst (IsClosed Inside) (same_after Absent r s s' k) h

      by_life : (thread : Thread) → slice_get s.threads t ≡ Some thread → (o : Option End) → thread.ended ≡ o →
          (if is_none o then charge s t (thread.steps_left - 1) thread.frames (effect_of here s thread.frames) else Answers Absent s) ≡ Answers r s' → IsClosed Inside s'
      by_life thread there None live k =
          let frames : AreFramesWithin Inside thread.frames = h.holds.threads t thread there live in
          step_charged_within s s' t (thread.steps_left - 1) thread.frames (effect_of here s thread.frames) r h frames (effect_within here s thread.frames h frames) k
      by_life thread there (Some x) over k = same k

      by_thread : (o : Option Thread) → slice_get s.threads t ≡ o → option_map_or (step_of here s) o (Answers Absent s) ≡ Answers r s' → IsClosed Inside s'
      by_thread None there k = same k
      by_thread (Some thread) there k = by_life thread there thread.ended refl k

  pub run_within : (tree : Tree) (limits : Limits) (requests : List StepRequest) (s s' : State) (reports : List Report) → IsClosed Inside s → run tree limits s requests ≡ RunsTo reports s' → IsClosed Inside s'
  run_within tree limits [] s s' reports h e = subst (IsClosed Inside) (same_state [] reports s s' e) h
  run_within tree limits (q ∷ qs) s s' reports h e =
      let x = first_of tree limits s q qs reports s' e in
      run_within tree limits qs x.after s' x.later (step_within tree limits s x.after q.0 q.1 x.report h x.answers) x.runs

-- ---- what is reachable after a step, or after a run

pub reached_was_reached : (tree : Tree) (limits : Limits) (s s' : State) (t : ℕ) (refused : Bool) (r : Report) → step tree limits s t refused ≡ Answers r s' → (n : ℕ) → IsReachable s' (Born n) → IsReachable s (Born n) ⊎ (length s.objects ≤ n)
reached_was_reached tree limits s s' t refused r e n reached =
    reachable_within (IsReachedOrUnborn s) s' (step_within (IsReachedOrUnborn s) tree limits s s' t refused r (reached_is_closed s) e).holds (Born n) reached

pub run_reaches : (tree : Tree) (limits : Limits) (requests : List StepRequest) (s s' : State) (reports : List Report) → run tree limits s requests ≡ RunsTo reports s' → (n : ℕ) → IsReachable s' (Born n) → IsReachable s (Born n) ⊎ (length s.objects ≤ n)
run_reaches tree limits requests s s' reports e n reached =
    reachable_within (IsReachedOrUnborn s) s' (run_within (IsReachedOrUnborn s) tree limits requests s s' reports (reached_is_closed s) e).holds (Born n) reached

-- where the state that a run reaches is typed, each object that is reachable in it is retained
pub reached_is_retained : (tree : Tree) (limits : Limits) (requests : List StepRequest) (s s' : State) (reports : List Report) → run tree limits s requests ≡ RunsTo reports s' → IsTyped tree s' → (n : ℕ) → IsReachable s' (Born n) → IsRetained s s' n
reached_is_retained tree limits requests s s' reports e typed n reached = by_age (run_reaches tree limits requests s s' reports e n reached)
  where
    by_age : IsReachable s (Born n) ⊎ (length s.objects ≤ n) → IsRetained s s' n
    by_age (inl was) = inl was
    by_age (inr new) = inr (new, reachable_is_there tree s' typed n reached)
