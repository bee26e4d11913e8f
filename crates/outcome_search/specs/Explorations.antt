-- What is known of the outcomes of a source over all schedules (this profile).
use Rattle.std.specs.Prelude.{Contains, ◌≡◌, ℕ, List}
use Rattle.cil_model.specs.declared.events.Event.{Event}
use Rattle.cil_model.specs.declared.limits.Limits.{Limits}
use Rattle.cil_model.specs.declared.reports.Report.{Report}
use Rattle.cil_model.specs.declared.trees.Tree.{Tree}
use Rattle.acceptance.specs.Sources.{HasRunTo, IsAcceptedSource}
use Rattle.exploration.specs.Paths.{IsComplete, outcome_found}
use Rattle.exploration.specs.Searches.{KeepBudgets}
use Rattle.exploration.specs.TerminalOutcomes.{IsOver, IsTerminal, ShownOutcome, outcome_of, outcome_shown}
use Rattle.exploration.specs.declared.found_outcomes.FoundOutcome.{FoundOutcome}
use Rattle.exploration.specs.simulation.MachineStates.{MachineState}
use Rattle.exploration.specs.simulation.Runs.{IsRunOf}
use Rattle.exploration.specs.simulation.reference_machine.States.{State}

-- some list of paths from the initial machine state leads to every reachable machine state, and these are the outcomes of those in which no thread can make a
-- step
abbrev pub IsOutcomeList : MachineState → List ShownOutcome → Type 0
IsOutcomeList first outcomes = (paths : List (List Event)) × IsComplete first paths outcomes

-- Each run of the program, with any events of the collector, in which no thread uses up its budget, has one of these outcomes once no thread can make
-- a step: each has ended or is blocked.
abbrev pub HasAllOutcomes : List ℕ → Limits → List ShownOutcome → Type 0
HasAllOutcomes source limits outcomes =
    (tree : Tree) → IsAcceptedSource source tree → (events : List Event) (reports : List Report) (s : State) → IsRunOf tree limits events reports s → KeepBudgets reports → IsOver tree limits s → Contains outcomes (outcome_of s)

-- no thread can make a step, and the machine shows the outcome
pub record IsEnd (machine_state : MachineState) (found : FoundOutcome) : Type 0 where
  pub terminal : IsTerminal machine_state
  pub outcome : outcome_shown machine_state ≡ outcome_found found

-- a machine that was made for the source has done the events of the schedule of an outcome, and shows it
abbrev pub IsFoundIn : List ℕ → Limits → FoundOutcome → Type 0
IsFoundIn source limits found = (reports : List Report) × (machine_state : MachineState) × HasRunTo source limits found.events.items reports machine_state × IsEnd machine_state found
