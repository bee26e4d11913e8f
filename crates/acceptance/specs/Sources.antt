-- What results from a source and its limits before the first event: the machine of an accepted program, or why there is none (this profile).
use Rattle.std.specs.Prelude.{◌≡◌, ◌⊎◌, [], ℕ, true, false, List, Some}
use Rattle.cil_model.specs.Ranges.{are_in_range}
use Rattle.cil_model.specs.Sources.{HasTree, IsAnswer}
use Rattle.cil_model.specs.Typings.{IsAccepted}
use Rattle.cil_model.specs.declared.events.Event.{Event}
use Rattle.cil_model.specs.declared.limits.Limits.{Limits}
use Rattle.cil_model.specs.declared.reports.Report.{Report}
use Rattle.cil_model.specs.declared.trees.Tree.{Tree}
use Rattle.interleaving_core.specs.Histories.{HasDone}
use Rattle.interleaving_core.specs.simulation.MachineStates.{MachineState}
use Rattle.interleaving_core.specs.simulation.Refines.{Represents}
use Rattle.interleaving_core.specs.simulation.Transitions.{initial_machine_state}
use Rattle.interleaving_core.specs.simulation.reference_machine.Runs.{initial_state}
use Rattle.interleaving_core.specs.simulation.reference_machine.States.{State}
use Rattle.interleaving_core.specs.declared.machine.Refused.TheVariants.{Limits as BadLimits}
use Rattle.acceptance.specs.Errors.{IsErrorOf, failure_of_source}
use Rattle.acceptance.specs.Failures.{failure_of_making}
use Rattle.acceptance.specs.declared.errors.SourceError.{SourceError}
use Rattle.acceptance.specs.declared.failure.Failure.{Failure}
use Rattle.acceptance.specs.declared.failure.Failure.TheVariants.{Memory}

-- ---- the source

-- the bytes have this tree, and it is an accepted program
pub record IsAcceptedSource (source : List ℕ) (tree : Tree) : Type 0 where
  pub read : IsAnswer source (HasTree tree)
  pub accepted : IsAccepted tree

-- the bytes have a tree that is an accepted program
abbrev pub HasAcceptedTree : List ℕ → Type 0
HasAcceptedTree source = (tree : Tree) × IsAcceptedSource source tree

-- why a source is not accepted: one of its errors, reported as this failure
abbrev pub IsNotAccepted : List ℕ → Failure → Type 0
IsNotAccepted source failure = (error : SourceError) × IsErrorOf source error × (failure ≡ failure_of_source error)

-- ---- the machine

-- a machine has run a list of events: the bytes have a tree that is an accepted program, and a machine that was made for it has done the events, with
-- all that this says
abbrev pub HasRunTo : List ℕ → Limits → List Event → List Report → MachineState → Type 0
HasRunTo source limits events reports machine_state = (tree : Tree) × IsAcceptedSource source tree × HasDone tree limits events reports machine_state

-- why an accepted program was not run: its limits come first, then memory
abbrev pub IsNotRunWithin : Limits → Failure → Type 0
IsNotRunWithin limits failure =
    ((are_in_range limits ≡ false) × (failure ≡ failure_of_making BadLimits))
    ⊎ ((are_in_range limits ≡ true) × (failure ≡ Memory))

-- why no machine has run a list of events, whichever it is: the source, then the limits and memory
abbrev pub IsNotRun : List ℕ → Limits → Failure → Type 0
IsNotRun source limits failure = IsNotAccepted source failure ⊎ (HasAcceptedTree source × IsNotRunWithin limits failure)

-- a machine holds exactly what a program begins with, which represents the initial state
pub record IsOpened (tree : Tree) (limits : Limits) (machine : MachineState) : Type 0 where
  pub same_program : machine.tree ≡ tree
  pub same_limits : machine.limits ≡ limits
  pub initial : initial_machine_state tree limits ≡ Some machine
  pub represents : (state : State) × (initial_state tree limits ≡ Some state) × Represents machine state

-- the bytes have a tree that is an accepted program, and a machine was made for it, which has done nothing
pub record IsMade (source : List ℕ) (limits : Limits) (machine : MachineState) : Type 0 where
  pub tree : Tree
  pub is_accepted : IsAcceptedSource source tree
  pub done : HasDone tree limits [] [] machine
  pub opened : IsOpened tree limits machine
