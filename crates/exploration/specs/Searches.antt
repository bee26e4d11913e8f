-- Sets of machine states that no schedule leaves (this profile). A set is given by what is true of its machine states.
use Rattle.std.specs.Prelude.{◌≡◌, ◌≢◌, ℕ, true, false, List, [], ◌∷◌, Some, slice_get}
use Rattle.interleaving_core.specs.simulation.cil_model.declared.events.Event.{Event}
use Rattle.interleaving_core.specs.simulation.cil_model.declared.events.Event.TheVariants.{Step}
use Rattle.interleaving_core.specs.simulation.cil_model.declared.limits.Limits.{Limits}
use Rattle.interleaving_core.specs.simulation.cil_model.declared.trees.Tree.{Tree}
use Rattle.interleaving_core.specs.simulation.cil_model.declared.reports.End.TheVariants.{Budget}
use Rattle.interleaving_core.specs.simulation.cil_model.declared.reports.Report.{Report}
use Rattle.interleaving_core.specs.simulation.cil_model.declared.reports.Report.TheVariants.{Ended}
use Rattle.interleaving_core.specs.simulation.reference_machine.Runs.{is_refusal}
use Rattle.interleaving_core.specs.simulation.reference_machine.States.{State}
use Rattle.interleaving_core.specs.simulation.threads_monitors.Threads.{is_live_at}
use Rattle.interleaving_core.specs.simulation.MachineStates.{MachineState}
use Rattle.interleaving_core.specs.simulation.Refines.{Represents}
use Rattle.interleaving_core.specs.simulation.Runs.{AreTransitions}
use Rattle.interleaving_core.specs.simulation.Transitions.{IsTransition}
use Rattle.exploration.specs.LaggingMachines.{IsLagging}

-- a machine state lags behind one of a set
pub record IsCovered (known : MachineState → Type 0) (c : MachineState) : Type 0 where
  pub machine_state : MachineState
  pub among : known machine_state
  pub lagging : IsLagging c machine_state

-- a step of the thread leads from this machine state to one that lags behind one of the set; it is refused no memory, and the thread has steps left
pub record LeadsInto (known : MachineState → Type 0) (c : MachineState) (t : ℕ) : Type 0 where
  pub next : MachineState
  pub report : Report
  pub transition : IsTransition c (Step t) (next, report)
  pub within_budget : report ≢ Ended Budget
  pub not_refused : is_refusal report ≡ false
  pub covered : IsCovered known next

-- so does each step of a live thread, from each machine state of the set
abbrev pub IsClosed : (MachineState → Type 0) → Type 0
IsClosed known = (c : MachineState) → known c → (t : ℕ) → is_live_at c.threads t ≡ true → LeadsInto known c t

-- none of these reports says that a thread used up its budget or was refused memory
abbrev pub AreOrdinary : List Report → Type 0
AreOrdinary [] = Unit {0}
AreOrdinary (r ∷ rs) = (r ≢ Ended Budget) × (is_refusal r ≡ false) × AreOrdinary rs

-- none of these reports says that a thread used up its budget
abbrev pub KeepBudgets : List Report → Type 0
KeepBudgets [] = Unit {0}
KeepBudgets (r ∷ rs) = (r ≢ Ended Budget) × KeepBudgets rs

-- a machine of this program within these limits, whose machine state lags behind one of the set, represents the state
pub record IsCoveredState (tree : Tree) (limits : Limits) (known : MachineState → Type 0) (s : State) : Type 0 where
  pub machine_state : MachineState
  pub program : machine_state.tree ≡ tree
  pub within : machine_state.limits ≡ limits
  pub represents : Represents machine_state s
  pub covered : IsCovered known machine_state

-- one of these lists of events leads to the machine state
pub record IsLedTo (first : MachineState) (paths : List (List Event)) (c : MachineState) : Type 0 where
  pub path_index : ℕ
  pub path : List Event
  pub there : slice_get paths path_index ≡ Some path
  pub reports : List Report
  pub transitions : AreTransitions first path c reports
