-- The steps that threads make, and their budgets (this profile).
use Rattle.std.specs.Prelude.{◌≡◌, ◌≢◌, ◌≤◌, ◌<◌, ◌+◌, ◌==◌, ℕ, Bool, true, false, List, Some, None, slice_get}
use Rattle.std.specs.List.{count_by}
use Rattle.std.specs.Option.{option_map_or}
use Rattle.interpreter.specs.cil_model.declared.events.Event.{Event}
use Rattle.interpreter.specs.cil_model.declared.events.Event.TheVariants.{Step, Ack, Gc}
use Rattle.interpreter.specs.cil_model.declared.limits.Limits.{Limits}
use Rattle.interpreter.specs.cil_model.declared.reports.Report.{Report}
use Rattle.interpreter.specs.cil_model.declared.reports.Report.TheVariants.{Absent}
use Rattle.interpreter.specs.reference_machine.States.{State, Thread as StateThread}
use Rattle.interpreter.specs.threads_monitors.Threads.{is_live_at}
use Rattle.interpreter.specs.threads_monitors.declared.threads.Thread.{Thread}
use Rattle.simulation.specs.MachineStates.{MachineState}

-- whether an event is a step that thread t made: one that isn't reported Absent
abbrev pub made_step : ℕ → Event → Report → Bool
made_step t (Step n) Absent = false
made_step t (Step n) _ = n == t
made_step t (Ack n) _ = false
made_step t Gc _ = false

-- how many steps a thread made among events with their reports
abbrev pub steps_made : ℕ → List (Event × Report) → ℕ
steps_made t events = count_by (λ (e : Event × Report). made_step t e.0 e.1) events

-- how many steps are left to a thread; to one that isn't started yet, its whole budget
abbrev pub steps_left_of : MachineState → ℕ → ℕ
steps_left_of c t = option_map_or (λ (thread : Thread). thread.steps_left) (slice_get c.threads t) c.limits.budget

-- Each thread has one step less for each that it made, and a live one has steps left.
pub record KeepsBudgets (before after : MachineState) (events : List (Event × Report)) : Type 0 where
  pub counted : (t : ℕ) → steps_made t events + steps_left_of after t ≡ steps_left_of before t
  pub live : (t : ℕ) → is_live_at after.threads t ≡ true → 0 < steps_left_of after t

-- a thread was started, and has ended
abbrev pub HasEnded : State → ℕ → Type 0
HasEnded s t = (thread : StateThread) × (slice_get s.threads t ≡ Some thread) × (thread.ended ≢ None)

-- From the initial state to this one: no thread made more steps than its budget has, and one that made all of them has ended.
pub record AreWithinBudget (limits : Limits) (events : List (Event × Report)) (s : State) : Type 0 where
  pub within : (t : ℕ) → steps_made t events ≤ limits.budget
  pub ended : (t : ℕ) → steps_made t events ≡ limits.budget → HasEnded s t
