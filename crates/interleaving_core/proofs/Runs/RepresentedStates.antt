-- A machine that represents a state represents one after each of its transitions.
use Rattle.std.proofs.Common.{◌≡◌, ◌≤◌, length, Some, Result, Ok, Err, sym, ap, ◌∙◌, subst, arith}
use Rattle.std.specs.Prelude.{IfOk, IsTrue, OnErr, OnOk}
use Rattle.std.proofs.lemmas.Option.{same_Some}
use Rattle.cil_model.specs.declared.events.Event.{Event}
use Rattle.cil_model.specs.declared.limits.Limits.{Limits}
use Rattle.cil_model.specs.declared.limits.TheConstants.{MOST_THREADS}
use Rattle.cil_model.specs.declared.memory.NoMemory.{NoMemory}
use Rattle.cil_model.specs.declared.reports.Report.{Report}
use Rattle.cil_model.specs.declared.trees.Tree.{Tree}
use Rattle.cil_model.specs.Ranges.{are_in_range}
use Rattle.cil_model.specs.Typings.{IsAccepted}
use Rattle.reference_machine.specs.Runs.{initial_state}
use Rattle.reference_machine.specs.States.{State}
use Rattle.simulation.specs.MachineStates.{MachineState}
use Rattle.simulation.specs.Refines.{Represents}
use Rattle.simulation.specs.Transitions.{IsTransition, initial_machine_state}
use Rattle.simulation.proofs.Runs.EventCorrespondence.{asked_is_answerable, initial_is_represented, thread_is_ready}
use Rattle.interleaving_core.specs.Views.{CanContinue, IsSoundEngine, machine_state_of}
use Rattle.interleaving_core.specs.declared.engine.Engine.{Engine}
use Rattle.simulation.proofs.Threads.StepEffects.{same_program, transition_few}
use Rattle.interleaving_core.proofs.InitialContents.FewStaticFields.{statics_few}
use Rattle.interleaving_core.proofs.Runs.FollowedRuns.{SameProgram, transition_follows}

-- what it does next has a result
pub can_continue : (e : Engine) → IsSoundEngine e → CanContinue e
can_continue e sound = record {
  limits = sound.represents.limits;
  machine_state = sound.represents.sound;
  statics = statics_few (machine_state_of e) sound.state sound.represents;
  ready = λ t left m there. thread_is_ready (machine_state_of e) sound.state sound.represents t left m there;
  answerable = λ t left m there a done. asked_is_answerable (machine_state_of e) sound.state sound.represents t left m there a done;
}

module _ (e e' : Engine) (sound : IsSoundEngine e) (event : Event) where
  -- after an event
  turned : (r : Report) → IsTransition (machine_state_of e) event (machine_state_of e', r) → IsSoundEngine e'
  turned r transition =
      let alike = transition_follows (machine_state_of e) (machine_state_of e', r) event transition sound.state sound.represents in
      record {
        state = alike.state;
        represents = alike.represents;
        few = transition_few (machine_state_of e) (machine_state_of e', r) event transition sound.few;
      }

  -- and after one that changed nothing
  unchanged : machine_state_of e' ≡ machine_state_of e → IsSoundEngine e'
  unchanged same = record {
    state = sound.state;
    represents = subst (λ c. Represents c sound.state) (sym same) sound.represents;
    few = subst (λ (c : MachineState). length c.threads ≤ MOST_THREADS) (sym same) sound.few;
  }

  pub sound_after : (r : Result Report NoMemory) → IfOk r (λ report. IsTransition (machine_state_of e) event (machine_state_of e', report)) → OnErr r (machine_state_of e' ≡ machine_state_of e) → IsSoundEngine e'
  sound_after (Ok r) transitions refused = turned r transitions
  sound_after (Err x) transitions refused = unchanged refused

-- the program and its limits stay
pub same_after : (c d : MachineState) (event : Event) (r : Result Report NoMemory) → IfOk r (λ report. IsTransition c event (d, report)) → OnErr r (d ≡ c) → SameProgram c d
same_after c d event (Ok r) transitions refused = same_program c (d, r) event transitions
same_after c d event (Err x) transitions refused = (ap (λ (y : MachineState). y.tree) refused, ap (λ (y : MachineState). y.limits) refused)

-- a machine that was opened
module _ (tree : Tree) (limits : Limits) (accepted : IsAccepted tree) (in_range : IsTrue (are_in_range limits)) (c : MachineState) (is : initial_machine_state tree limits ≡ Some c) where
  pub opened_represents : (s : State) × (initial_state tree limits ≡ Some s) × Represents c s
  opened_represents =
      let first = initial_is_represented tree limits accepted in_range in
      (first.1, first.3, subst (λ x. Represents x first.1) (same_Some first.0 c (sym first.2 ∙ is)) first.4)

-- a machine that was taken back to its initial state
pub sound_reopened : (e e' : Engine) → IsSoundEngine e → (r : Result (Unit {0}) NoMemory) → OnOk r (initial_machine_state e.program e.limits ≡ Some (machine_state_of e')) → OnOk r (length e'.threads.items ≡ 1) → OnErr r (machine_state_of e' ≡ machine_state_of e) → IsSoundEngine e'
sound_reopened e e' sound (Ok x) opens alone refused =
    let first = opened_represents e.program e.limits sound.represents.accepted sound.represents.limits (machine_state_of e') opens in
    record { state = first.0; represents = first.2; few = omega (arith, alone) }
sound_reopened e e' sound (Err x) opens alone refused = record {
  state = sound.state;
  represents = subst (λ c. Represents c sound.state) (sym refused) sound.represents;
  few = subst (λ (c : MachineState). length c.threads ≤ MOST_THREADS) (sym refused) sound.few;
}
