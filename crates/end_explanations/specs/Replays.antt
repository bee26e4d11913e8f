-- The text on all threads that a fault or their budget ended in a run (this profile).
use Rattle.std.specs.Prelude.{◌≡◌, ◌++◌, ◌&&◌, [], ◌∷◌, ℕ, Bool, not, List, Option, Some, None, if◌then◌else◌, replicate}
use Rattle.cil_model.specs.declared.events.Event.{Event}
use Rattle.cil_model.specs.declared.limits.TheConstants.{MOST_THREADS}
use Rattle.cil_model.specs.declared.reports.Report.{Report}
use Rattle.event_trace.specs.interleaving_core.simulation.MachineStates.{MachineState}
use Rattle.event_trace.specs.interleaving_core.simulation.Transitions.{IsTransition}
use Rattle.event_trace.specs.interleaving_core.declared.positions.Position.{Position}
use Rattle.event_trace.specs.Columns.{position_for}
use Rattle.event_trace.specs.Deadlocks.{IsDeadlockOf}
use Rattle.event_trace.specs.Rounds.{is_in}
use Rattle.event_trace.specs.Texts.{deadlock_line}
use Rattle.shared_machine.specs.declared.history.Entry.{Entry}
use Rattle.end_explanations.specs.Callers.{callers_of, callers_with}
use Rattle.end_explanations.specs.Ends.{callers_text, early_end, end_text}
use Rattle.end_explanations.specs.declared.ends.EarlyEnd.{EarlyEnd}

-- what is known after some events: the callers of each thread, the deadlocked threads that were printed last, and the text
pub record ReplayState : Type 0 where
  pub callers : List (List Position)
  pub printed : List Bool
  pub text : List ℕ

-- before the first event
abbrev pub initial_replay : ReplayState
initial_replay = record { callers = replicate MOST_THREADS []; printed = []; text = [] }

-- a thread is deadlocked, and was not printed as deadlocked
abbrev pub is_new : List Bool → List Bool → ℕ → Bool
is_new printed deadlocked t = is_in deadlocked t && not (is_in printed t)

-- the line of the deadlocked threads, where it is new that a thread is one of them
abbrev pub new_deadlock : MachineState → List Bool → List Bool → ℕ → List ℕ
new_deadlock c printed deadlocked t = if is_new printed deadlocked t then deadlock_line c deadlocked else []

-- the deadlocked threads that were printed last, then
abbrev pub printed_after : List Bool → List Bool → ℕ → List Bool
printed_after printed deadlocked t = if is_new printed deadlocked t then deadlocked else printed

-- the text gets the lines on a thread that ends from a machine state, in a program with this source, and the line on the threads that are deadlocked
-- then, where it is new that this thread is
pub record IsEndExplained (source : List ℕ) (c : MachineState) (before : ReplayState) (end : EarlyEnd) (after : ReplayState) : Type 0 where
  pub deadlocked : List Bool
  pub is_deadlock : IsDeadlockOf c deadlocked
  pub text : after.text ≡ before.text ++ end_text source c end ++ callers_text source c (callers_of before.callers end.thread) ++ new_deadlock c before.printed deadlocked end.thread
  pub printed : after.printed ≡ printed_after before.printed deadlocked end.thread

-- only an event that ends a thread like that gets a text
abbrev pub IsEventExplained : List ℕ → MachineState → ReplayState → Option EarlyEnd → ReplayState → Type 0
IsEventExplained source c before None after = (after.text ≡ before.text) × (after.printed ≡ before.printed)
IsEventExplained source c before (Some end) after = IsEndExplained source c before end after

-- an event with its report is performed, from one machine state and what is known to the next ones
pub record IsReplayed (source : List ℕ) (c : MachineState) (before : ReplayState) (e : Event × Report) (next : MachineState) (after : ReplayState) : Type 0 where
  pub transition : IsTransition c e.0 (next, e.1)
  pub explained : IsEventExplained source c before (early_end c.limits.budget e.0 e.1) after
  pub callers : after.callers ≡ callers_with before.callers e.0 (position_for c e.0) (position_for next e.0)

-- one event after another
abbrev pub AreReplayed : List ℕ → MachineState → ReplayState → List (Event × Report) → MachineState → ReplayState → Type 0
AreReplayed source c before [] last after = (last ≡ c) × (after ≡ before)
AreReplayed source c before (e ∷ es) last after = (next : MachineState) × (known : ReplayState) × IsReplayed source c before e next known × AreReplayed source next known es last after

-- the text on the threads that end early in these events with their reports, from this machine state on, in a program with this source
abbrev pub AreEndsExplained : List ℕ → MachineState → List (Event × Report) → List ℕ → Type 0
AreEndsExplained source c events text = (last : MachineState) × (after : ReplayState) × AreReplayed source c initial_replay events last after × (text ≡ after.text)

-- the event of an entry with its report
abbrev pub pair_of : Entry → Event × Report
pair_of e = (e.event, e.report)
