-- What a machine has done since it was made, and that it continues so (this profile).
use Rattle.std.specs.Prelude.{◌≡◌, ◌++◌, true, List, Some}
use Rattle.std.specs.List.{zip}
use Rattle.cil_model.specs.Ranges.{are_in_range}
use Rattle.cil_model.specs.Typings.{IsAccepted}
use Rattle.cil_model.specs.declared.events.Event.{Event}
use Rattle.cil_model.specs.declared.limits.Limits.{Limits}
use Rattle.cil_model.specs.declared.reports.Report.{Report}
use Rattle.cil_model.specs.declared.trees.Tree.{Tree}
use Rattle.simulation.specs.MachineStates.{MachineState}
use Rattle.simulation.specs.RetainedObjects.{AreCyclesBounded, LeavesOnlyRetained}
use Rattle.simulation.specs.Runs.{AreTransitions, RefinesAfter}
use Rattle.simulation.specs.Transitions.{initial_machine_state}

-- A machine that was made for an accepted program has done these events, with these reports, and it stands after them. Its cycles had few working events, and
-- where the last event ends one, no more words are in use than are retained.
pub record HasDone (tree : Tree) (limits : Limits) (events : List Event) (reports : List Report) (c : MachineState) : Type 0 where
  pub accepted : IsAccepted tree
  pub in_range : are_in_range limits ≡ true
  pub first : MachineState
  pub opens : initial_machine_state tree limits ≡ Some first
  pub transitions : AreTransitions first events c reports
  pub refines : RefinesAfter tree limits events reports c
  pub bounded : AreCyclesBounded tree limits (zip events reports)
  pub leaves : LeavesOnlyRetained tree limits events reports c

-- whatever it has done before, it has then done these events too
abbrev pub DoesMore : MachineState → List Event → List Report → MachineState → Type 0
DoesMore c events reports after =
    (tree : Tree) (limits : Limits) (before : List Event) (given : List Report) → HasDone tree limits before given c → HasDone tree limits (before ++ events) (given ++ reports) after
