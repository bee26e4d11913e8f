-- What results from a source by a list of events (this profile).
use Rattle.std.specs.Prelude.{◌≡◌, ◌⊎◌, [], ℕ, ◌≤◌, Bool, true, List, length, Option, IfSome}
use Rattle.std.specs.List.{zip}
use Rattle.shared_machine.specs.Worlds.{AreDoneOf}
use Rattle.shared_machine.specs.interleaving_core.Histories.{HasDone}
use Rattle.shared_machine.specs.simulation.Budgets.{AreWithinBudget}
use Rattle.cil_model.specs.Ranges.{are_in_range}
use Rattle.cil_model.specs.declared.events.Event.{Event}
use Rattle.cil_model.specs.declared.limits.Limits.{Limits}
use Rattle.cil_model.specs.declared.trees.Tree.{Tree}
use Rattle.cil_model.specs.declared.reports.Report.{Report}
use Rattle.shared_machine.specs.simulation.RetainedObjects.{AreCyclesBounded}
use Rattle.shared_machine.specs.simulation.Runs.{IsRunOf}
use Rattle.shared_machine.specs.simulation.MachineStates.{MachineState}
use Rattle.reference_machine.specs.States.{State}
use Rattle.schedule_text.specs.Items.{words}
use Rattle.schedule_text.specs.Readings.{AreRead, IsFirstFault}
use Rattle.schedule_text.specs.declared.errors.ScheduleError.{ScheduleError}
use Rattle.acceptance.specs.Failures.{failure_of_schedule}
use Rattle.acceptance.specs.Sources.{HasRunTo, IsAcceptedSource, HasAcceptedTree, IsNotRun, IsOpened}
use Rattle.acceptance.specs.declared.failure.Failure.{Failure}

-- a machine has run by a text: it has done the first of the events that the text writes, and all of them unless the run was stopped
pub record IsRunBy (source : List ℕ) (limits : Limits) (text : List ℕ) (done : List Event) (reports : List Report) (stopped : Bool) (machine_state : MachineState) : Type 0 where
  pub events : List Event
  pub are_read : AreRead (words text) events
  pub are_done : AreDoneOf events done stopped
  pub ran : HasRunTo source limits done reports machine_state

-- the text of a schedule writes no events: this is its first fault
abbrev pub IsBadSchedule : List ℕ → Failure → Type 0
IsBadSchedule text failure = (error : ScheduleError) × IsFirstFault (words text) error × (failure ≡ failure_of_schedule error)

-- why no machine has run by a text: what lets no list of events run, then the text
abbrev pub IsNotRunBy : List ℕ → Limits → List ℕ → Failure → Type 0
IsNotRunBy source limits text failure = IsNotRun source limits failure
    ⊎ (HasAcceptedTree source × (are_in_range limits ≡ true) × IsBadSchedule text failure)

-- A run of a list of events results in a state. The bytes have a tree that is an accepted program, and the reference machine's run over
-- the steps among the events is never stuck. No thread made more steps than its budget has, and one that made exactly its budget has ended. Each cycle had few
-- working events.
pub record ResultsInBy (source : List ℕ) (limits : Limits) (events : List Event) (reports : List Report) (state : State) : Type 0 where
  pub tree : Tree
  pub is_accepted : IsAcceptedSource source tree
  pub in_range : are_in_range limits ≡ true
  pub is_run : IsRunOf tree limits events reports state
  pub budgets : AreWithinBudget limits (zip events reports) state
  pub bounded : AreCyclesBounded tree limits (zip events reports)

-- a run by a text results in a state: the text writes the events
pub record ResultsIn (source : List ℕ) (limits : Limits) (text : List ℕ) (events : List Event) (reports : List Report) (state : State) : Type 0 where
  pub are_read : AreRead (words text) events
  pub by_events : ResultsInBy source limits events reports state

-- if there is a bound, no more bytes were printed
abbrev pub IsPrintedUpTo : Option ℕ → List ℕ → Type 0
IsPrintedUpTo most printed = IfSome most (λ bytes. length printed ≤ bytes)

-- the bytes have a tree that is an accepted program, whose machine has its limits in range and has run nothing, and the text writes events
pub record IsReady (source : List ℕ) (limits : Limits) (text : List ℕ) (events : List Event) (machine : MachineState) : Type 0 where
  pub tree : Tree
  pub is_accepted : IsAcceptedSource source tree
  pub in_range : are_in_range limits ≡ true
  pub done : HasDone tree limits [] [] machine
  pub opened : IsOpened tree limits machine
  pub are_read : AreRead (words text) events
