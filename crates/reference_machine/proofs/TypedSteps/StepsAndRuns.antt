-- Where each instruction keeps states typed, no step and no run of an accepted program is stuck, and both leave typed states.
use Rattle.std.proofs.Common.{is_none, ◌≡◌, ℕ, zero, suc, ◌-◌, Bool, if◌then◌else◌, List, [], ◌∷◌, Option, Some, None, slice_get, refl, sym, ap, ◌∙◌, subst}
use Rattle.std.specs.Option.{option_map_or}
use Rattle.cil_model.specs.declared.instructions.Instruction.{Instruction}
use Rattle.cil_model.specs.declared.trees.Tree.{Tree}
use Rattle.cil_model.specs.declared.limits.Limits.{Limits}
use Rattle.cil_model.specs.declared.reports.End.{End}
use Rattle.cil_model.specs.declared.reports.End.TheVariants.{Done, Budget, Fault as ByFault}
use Rattle.cil_model.specs.declared.reports.Report.{Report}
use Rattle.cil_model.specs.declared.reports.Report.TheVariants.{Ran, Blocked, Ended, Absent}
use Rattle.cil_model.specs.Typings.{IsAccepted}
use Rattle.reference_machine.specs.States.{Frame, Thread, State}
use Rattle.reference_machine.specs.Effects.{StepContext, Effect, Goes, Blocks, Raises, Sticks, when_some}
use Rattle.reference_machine.specs.Steps.{StepOutcome, Answers, execute, effect_of, with_thread_at, ended_as, continues, charge, step_of, step}
use Rattle.reference_machine.specs.Runs.{StepRequest, RunsTo, preceded_by, followed_by, initial_state, run}
use Rattle.reference_machine.specs.TypedStates.{AreTypedFrames, IsTyped}
use Rattle.reference_machine.proofs.TypedStates.RunningFrames.{IsTypedEffect, IsRunning, runs_at}
use Rattle.reference_machine.proofs.TypedStates.InitialStates.{opens}
use Rattle.reference_machine.proofs.TypedStates.StateChanges.{typed_thread_at}
use Rattle.cil_model.proofs.Lists.{none_is_some}

module _ (tree : Tree) where
  -- ---- one step

  -- what isn't stuck, and leaves a typed state
  abbrev pub AnswersTyped : StepOutcome → Type 0
  AnswersTyped o = (r : Report) × (s' : State) × (o ≡ Answers r s') × IsTyped tree s'

  ended_typed : (s : State) → IsTyped tree s → (t left : ℕ) (e : End) → AnswersTyped (ended_as s t left e)
  ended_typed s typed t left e =
      let over : Thread = record { frames = []; steps_left = left; ended = Some e } in
      (Ended e, with_thread_at s t over, refl, typed_thread_at tree s typed t over (λ live. none_is_some e (sym live)))

  going_typed : (r : Report) (s : State) → IsTyped tree s → (t left : ℕ) (frames : List Frame) → AreTypedFrames tree s frames → AnswersTyped (continues r s t left frames)
  going_typed r s typed t zero frames h = ended_typed s typed t 0 Budget
  going_typed r s typed t (suc left) frames h =
      let live : Thread = record { frames = frames; steps_left = suc left; ended = None } in
      (r, with_thread_at s t live, refl, typed_thread_at tree s typed t live (λ e. h))

  step_charged_typed : (s : State) → IsTyped tree s → (t left : ℕ) (frames : List Frame) → AreTypedFrames tree s frames → (e : Effect) → IsTypedEffect tree e → AnswersTyped (charge s t left frames e)
  step_charged_typed s typed t left frames h (Goes [] s') k = ended_typed s' k t left Done
  step_charged_typed s typed t left frames h (Goes (f ∷ below) s') k = going_typed Ran s' k.0 t left (f ∷ below) k.1
  step_charged_typed s typed t left frames h Blocks k = going_typed Blocked s typed t left frames h
  step_charged_typed s typed t left frames h (Raises x) k = ended_typed s typed t left (ByFault x)
  step_charged_typed s typed t left frames h Sticks k = elim k [ ]

-- each instruction has a typed effect
abbrev pub InstructionsAreTyped : Type 0
InstructionsAreTyped = (here : StepContext) (s : State) (f : Frame) (below : List Frame) (i : Instruction) → IsRunning here s f below i → IsTypedEffect here.tree (execute here s f below i)

module _ (instruction_typed : InstructionsAreTyped) (tree : Tree) (limits : Limits) (accepted : IsAccepted tree) where
  module _ (t : ℕ) (refused : Bool) where
    abbrev here : StepContext
    here = record { tree = tree; limits = limits; thread = t; is_refused = refused }

    effect_typed : (s : State) → IsTyped tree s → (frames : List Frame) → AreTypedFrames tree s frames → IsTypedEffect tree (effect_of here s frames)
    effect_typed s typed [] h = elim h [ ]
    effect_typed s typed (f ∷ below) h =
        let at = runs_at here accepted s typed f below h in
        subst (λ (o : Option Instruction). IsTypedEffect tree (when_some o (execute here s f below))) (sym at.1) (instruction_typed here s f below at.0 at.2)

    -- a live thread's step; one that has ended is absent
    thread_typed : (s : State) → IsTyped tree s → (thread : Thread) → (thread.ended ≡ None → AreTypedFrames tree s thread.frames) → AnswersTyped tree (step_of here s thread)
    thread_typed s typed thread h = by_end thread.ended refl
      where
        live_typed : AreTypedFrames tree s thread.frames → AnswersTyped tree (charge s t (thread.steps_left - 1) thread.frames (effect_of here s thread.frames))
        live_typed frames = step_charged_typed tree s typed t (thread.steps_left - 1) thread.frames frames (effect_of here s thread.frames) (effect_typed s typed thread.frames frames)

        by_end : (e : Option End) → thread.ended ≡ e → AnswersTyped tree (if is_none e then charge s t (thread.steps_left - 1) thread.frames (effect_of here s thread.frames) else Answers Absent s)
        by_end None is = live_typed (h is)
        by_end (Some e) is = (Absent, s, refl, typed)

    -- a step from a typed state isn't stuck, and leaves a typed state
    pub step_typed : (s : State) → IsTyped tree s → (r : Report) × (s' : State) × (step tree limits s t refused ≡ Answers r s') × IsTyped tree s'
    step_typed s typed = by_thread (slice_get s.threads t) refl
      where
        by_thread : (o : Option Thread) → slice_get s.threads t ≡ o → AnswersTyped tree (option_map_or (step_of here s) o (Answers Absent s))
        by_thread None is = (Absent, s, refl, typed)
        by_thread (Some thread) is = thread_typed s typed thread (typed.threads t thread is)

  -- ---- runs

  -- a run from a typed state isn't stuck, and leaves a typed state
  pub run_typed : (requests : List StepRequest) (s : State) → IsTyped tree s → (reports : List Report) × (s' : State) × (run tree limits s requests ≡ RunsTo reports s') × IsTyped tree s'
  run_typed [] s typed = ([], s, refl, typed)
  run_typed (q ∷ qs) s typed =
      let first = step_typed q.0 q.1 s typed in
      let later = run_typed qs first.1 first.3 in
      (first.0 ∷ later.0, later.1, ap (λ o. followed_by o (λ u. run tree limits u qs)) first.2 ∙ ap (preceded_by first.0) later.2, later.3)

  -- a run from the initial state isn't stuck
  pub never_stuck : (requests : List StepRequest) → (first : State) × (reports : List Report) × (s : State) × (initial_state tree limits ≡ Some first) × (run tree limits first requests ≡ RunsTo reports s) × IsTyped tree s
  never_stuck requests =
      let opened = opens tree limits accepted in
      let gives = run_typed requests opened.0 opened.2 in
      (opened.0, gives.0, gives.1, opened.1, gives.2, gives.3)
