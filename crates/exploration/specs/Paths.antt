-- Lists of events that lead from the initial machine state to others, and what is known of these (this profile).
use Rattle.std.specs.Prelude.{Contains, ◌≡◌, ◌<◌, ℕ, true, List, Some, slice_get}
use Rattle.interleaving_core.specs.simulation.cil_model.declared.events.Event.{Event}
use Rattle.interleaving_core.specs.simulation.cil_model.declared.reports.Report.{Report}
use Rattle.interleaving_core.specs.simulation.threads_monitors.Threads.{is_live_at}
use Rattle.interleaving_core.specs.simulation.MachineStates.{MachineState}
use Rattle.interleaving_core.specs.simulation.Runs.{AreTransitions}
use Rattle.exploration.specs.Searches.{IsClosed, IsCovered, IsLedTo, LeadsInto}
use Rattle.exploration.specs.TerminalOutcomes.{CannotStep, IsTerminal, ShownOutcome, ShowOnly, outcome_shown}
use Rattle.exploration.specs.declared.found_outcomes.FoundOutcome.{FoundOutcome}
use Rattle.exploration.specs.declared.found_outcomes.Path.{Path}

abbrev pub events_of : Path → List Event
events_of p = p.events.items

abbrev pub outcome_found : FoundOutcome → ShownOutcome
outcome_found f = record { printed = f.printed.items; ends = f.ends.items }

-- ---- one list of events

-- the events lead from the first machine state to the second
pub record LeadsTo (first : MachineState) (events : List Event) (c : MachineState) : Type 0 where
  pub reports : List Report
  pub transitions : AreTransitions first events c reports

-- the thread can't make a step in the machine state to which the events lead
abbrev pub CannotStepAt : MachineState → List Event → ℕ → Type 0
CannotStepAt first events t = (c : MachineState) × LeadsTo first events c × CannotStep c t

-- it can make one
abbrev pub CanStepAt : MachineState → List Event → ℕ → Type 0
CanStepAt first events t = (c : MachineState) × LeadsTo first events c × (CannotStep c t → ⊥)

-- no thread can make a step there
abbrev pub IsTerminalAt : MachineState → List Event → Type 0
IsTerminalAt first events = (c : MachineState) × LeadsTo first events c × IsTerminal c

-- some thread can make one
abbrev pub IsNotTerminalAt : MachineState → List Event → Type 0
IsNotTerminalAt first events = (c : MachineState) × LeadsTo first events c × (IsTerminal c → ⊥)

-- ---- what is checked of one list of events

-- from the machine state to which the list leads, each step of a live thread leads to a machine state that lags behind one to which some list leads
abbrev pub AreStepsChecked : MachineState → List (List Event) → List Event → Type 0
AreStepsChecked first paths events = (c : MachineState) × LeadsTo first events c × ((t : ℕ) → is_live_at c.threads t ≡ true → LeadsInto (IsLedTo first paths) c t)

-- if no thread can make a step there, the machine state shows one of these outcomes
abbrev pub ShowsOneOf : MachineState → List ShownOutcome → List Event → Type 0
ShowsOneOf first outcomes events = (c : MachineState) × LeadsTo first events c × (IsTerminal c → Contains outcomes (outcome_shown c))

-- both hold of each of this many lists, the first ones
abbrev pub AreFirstChecked : MachineState → List (List Event) → List ShownOutcome → ℕ → Type 0
AreFirstChecked first paths outcomes count = (n : ℕ) → n < count → (events : List Event) → slice_get paths n ≡ Some events → AreStepsChecked first paths events × ShowsOneOf first outcomes events

-- the events of an outcome lead to a machine state that shows it, and in which no thread can make a step
pub record IsReal (first : MachineState) (found : FoundOutcome) : Type 0 where
  pub machine_state : MachineState
  pub leads : LeadsTo first found.events.items machine_state
  pub terminal : IsTerminal machine_state
  pub outcome : outcome_shown machine_state ≡ outcome_found found

-- ---- the whole

-- no step leads out of the machine states to which the lists lead, the initial machine state lags behind one of them, and those in which no thread can make a
-- step show these outcomes alone
pub record IsComplete (first : MachineState) (paths : List (List Event)) (outcomes : List ShownOutcome) : Type 0 where
  pub closed : IsClosed (IsLedTo first paths)
  pub initial : IsCovered (IsLedTo first paths) first
  pub only : ShowOnly (IsLedTo first paths) outcomes
