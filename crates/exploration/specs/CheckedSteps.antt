-- What the check notes of steps (this profile). It has an entry for each list of events and each thread: whether the thread can make a step after these
-- events, or none if the step is not checked.
use Rattle.std.specs.Prelude.{◌≡◌, ◌≢◌, ◌<◌, ◌≤◌, ◌+◌, ◌*◌, ℕ, Bool, true, List, Option, Some, length, slice_get}
use Rattle.interleaving_core.specs.simulation.cil_model.declared.events.Event.{Event}
use Rattle.interleaving_core.specs.simulation.cil_model.declared.limits.TheConstants.{MOST_THREADS}
use Rattle.interleaving_core.specs.simulation.cil_model.declared.reports.Report.TheVariants.{Blocked}
use Rattle.interleaving_core.specs.simulation.threads_monitors.Threads.{is_live_at}
use Rattle.interleaving_core.specs.simulation.MachineStates.{MachineState}
use Rattle.exploration.specs.Paths.{LeadsTo}
use Rattle.exploration.specs.Searches.{IsLedTo, LeadsInto}
use Rattle.exploration.specs.TerminalOutcomes.{CannotStep}

-- after the events, the step of the live thread leads to a machine state that lags behind this one; if `can` is true, it is not blocked
pub record IsStepInto (first : MachineState) (events : List Event) (t : ℕ) (target : MachineState) (can : Bool) : Type 0 where
  pub machine_state : MachineState
  pub leads : LeadsTo first events machine_state
  pub few : length machine_state.threads ≤ MOST_THREADS
  pub live : is_live_at machine_state.threads t ≡ true
  pub into : LeadsInto (λ c. c ≡ target) machine_state t
  pub not_blocked : can ≡ true → into.report ≢ Blocked

-- the list of events at this index leads to the machine state
abbrev pub IsLedToBy : MachineState → List (List Event) → ℕ → MachineState → Type 0
IsLedToBy first paths n c = (events : List Event) × (slice_get paths n ≡ Some events) × LeadsTo first events c

-- after the events, the step of the thread, if it is live, leads to a machine state of the set; if `can` is true, the thread can make it
abbrev pub IsStepChecked : MachineState → List (List Event) → List Event → ℕ → Bool → Type 0
IsStepChecked first paths events t can =
    (c : MachineState) × LeadsTo first events c × (length c.threads ≤ MOST_THREADS) × (is_live_at c.threads t ≡ true → LeadsInto (IsLedTo first paths) c t) × (can ≡ true → CannotStep c t → ⊥)

-- each entry says so of its step
abbrev pub AreEntries : MachineState → List (List Event) → List (Option Bool) → Type 0
AreEntries first paths entries = (n t : ℕ) → t < MOST_THREADS → (can : Bool) → slice_get entries (n * MOST_THREADS + t) ≡ Some (Some can)
    → (events : List Event) → slice_get paths n ≡ Some events → IsStepChecked first paths events t can

-- the steps of all threads after this list of events are checked
abbrev pub AreAllChecked : List (Option Bool) → ℕ → Type 0
AreAllChecked entries n = (t : ℕ) → t < MOST_THREADS → (can : Bool) × (slice_get entries (n * MOST_THREADS + t) ≡ Some (Some can))
