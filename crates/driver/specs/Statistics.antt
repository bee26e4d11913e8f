-- The numbers of a run, where they are asked for (this profile).
use Rattle.std.specs.Prelude.{[], ℕ, Bool, List, Option, if◌then◌else◌}
use Rattle.cil_model.specs.declared.events.Event.{Event}
use Rattle.cil_model.specs.declared.limits.Limits.{Limits}
use Rattle.cil_model.specs.declared.reports.Report.{Report}
use Rattle.run_statistics.specs.Lines.{statistics_text}
use Rattle.run_statistics.specs.MostWords.{IsMostInUse}
use Rattle.source_runs.specs.acceptance.Sources.{IsMade}
use Rattle.source_runs.specs.simulation.MachineStates.{MachineState}

-- the most words in use of a new machine of a source that performs these events with their reports
abbrev pub IsMostOfRun : List ℕ → Limits → List (Event × Report) → ℕ → Type 0
IsMostOfRun source limits events most = (initial last : MachineState) × IsMade source limits initial × IsMostInUse initial events last most

-- what is reported of the numbers of a run by these events with these reports, which leaves this machine state and had at most this number of words in use
abbrev pub stats_text : Bool → List Event → List Report → MachineState → Option ℕ → List ℕ
stats_text stats events reports c most = if stats then statistics_text events reports c most else []
