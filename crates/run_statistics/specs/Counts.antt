-- What is counted of a run (this profile).
use Rattle.std.specs.Prelude.{◌-◌, ◌^◌, ◌==◌, ℕ, Bool, true, false, List, min}
use Rattle.std.specs.List.{count_by, zip}
use Rattle.cil_model.specs.declared.events.Event.{Event}
use Rattle.cil_model.specs.declared.events.Event.TheVariants.{Step}
use Rattle.cil_model.specs.declared.reports.Report.{Report}
use Rattle.cil_model.specs.declared.reports.Report.TheVariants.{Blocked}
use Rattle.run_statistics.specs.declared.quantity.Quantity.{Quantity}
use Rattle.run_statistics.specs.declared.quantity.Quantity.TheVariants.{Events, Steps, BlockedSteps, Cycles, RefusedAllocations}
use Rattle.shared_machine.specs.simulation.Budgets.{made_step}
use Rattle.shared_machine.specs.simulation.reference_machine.Cycles.{ends_cycle}
use Rattle.shared_machine.specs.simulation.reference_machine.Runs.{is_refusal}

-- a step of a thread that waits
abbrev pub is_blocked_step : ℕ → Event → Report → Bool
is_blocked_step t (Step n) Blocked = n == t
is_blocked_step t _ _ = false

-- an event with this report is counted
abbrev pub is_counted : Quantity → Event → Report → Bool
is_counted Events event report = true
is_counted (Steps thread) event report = made_step thread event report
is_counted (BlockedSteps thread) event report = is_blocked_step thread event report
is_counted Cycles event report = ends_cycle event report
is_counted RefusedAllocations event report = is_refusal report

-- how many of the events of a run with their reports are counted, up to the largest number of 64 bits
abbrev pub number_of : Quantity → List Event → List Report → ℕ
number_of quantity events reports =
    min (count_by (λ (e : Event × Report). is_counted quantity e.0 e.1) (zip events reports)) (2 ^ 64 - 1)
