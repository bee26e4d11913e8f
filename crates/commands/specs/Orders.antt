-- What a command names (this profile).
use Rattle.std.specs.Prelude.{◌≡◌, ◌⊎◌, ℕ, Bool, true, false, List, Option, Some, None, option_map}
use Rattle.cil_model.specs.Sources.{is_too_long}
use Rattle.commands.specs.declared.order.Order.{Order}
use Rattle.commands.specs.declared.order.Order.TheVariants.{Check, Run, Trace, Picture, Explore, Flip}
use Rattle.commands.specs.declared.part.Part.{Part}
use Rattle.commands.specs.Parts.{count_in, last_in}
use Rattle.commands.specs.Runs.{record_file_of_kind, run_with_run_file, schedule_file_of_kind}
use Rattle.run_files.specs.declared.file.RunFile.{RunFile}

-- the name of the file that holds the source, where one does
abbrev pub file_of : Order → Option (List ℕ)
file_of (Check file explain) = Some file.now
file_of (Run run) = Some run.file.now
file_of (Trace file schedule limits expected explain) = Some file.now
file_of (Picture file schedule part limits expected explain) = Some file.now
file_of (Explore file extent kept limits explain) = Some file.now
file_of (Flip sizes) = None

-- the name of the file that holds the schedule's text, where one does
abbrev pub schedule_file_of : Order → Option (List ℕ)
schedule_file_of (Run run) = schedule_file_of_kind run.kind
schedule_file_of (Trace file schedule limits expected explain) = Some schedule.now
schedule_file_of (Picture file schedule part limits expected explain) = Some schedule.now
schedule_file_of _ = None

-- the numbers of a run are printed at its end
abbrev pub counts : Order → Bool
counts (Run run) = run.stats
counts _ = false

-- a replay, a trace or a picture of which it is known what the `.run` file says; another command stays
abbrev pub with_run_file : Order → RunFile → Order
with_run_file (Run run) known = Run (run_with_run_file run known)
with_run_file (Trace file schedule limits expected explain) known = Trace file schedule limits (Some known) explain
with_run_file (Picture file schedule part limits expected explain) known = Picture file schedule part limits (Some known) explain
with_run_file order known = order

-- the name of the file that the record of a run or the schedule of an outcome is to be written to, where one is asked for
abbrev pub record_file_of : Order → Option (List ℕ)
record_file_of (Run run) = record_file_of_kind run.kind
record_file_of (Explore file extent kept limits explain) = option_map (λ name. name.now) kept
record_file_of _ = None

-- a refusal is to be explained, and what threads wait for when a run has ended
abbrev pub is_explained : Order → Bool
is_explained (Check file explain) = explain
is_explained (Run run) = run.explain
is_explained (Trace file schedule limits expected explain) = explain
is_explained (Picture file schedule part limits expected explain) = explain
is_explained (Explore file extent kept limits explain) = explain
is_explained (Flip sizes) = false

-- the number of the last event of a part of a run of this number of events, and how many of them it has
abbrev pub last_of : Part → ℕ → ℕ
last_of part events = last_in part.last events

abbrev pub event_count : Part → ℕ → ℕ
event_count part events = count_in part.first part.last events

-- these bytes are the source that a file holds, or too long as that is too
abbrev pub Refines : List ℕ → List ℕ → Type 0
Refines bytes source =
    (bytes ≡ source) ⊎ ((is_too_long bytes ≡ true) × (is_too_long source ≡ true))
