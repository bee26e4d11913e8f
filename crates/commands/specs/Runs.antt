-- What a run names (this profile).
use Rattle.std.specs.Prelude.{ℕ, List, Option, Some, None, option_map}
use Rattle.commands.specs.declared.run.Run.{Run}
use Rattle.commands.specs.declared.run.RunKind.{RunKind}
use Rattle.commands.specs.declared.run.RunKind.TheVariants.{Schedule, Replay, Workers}
use Rattle.run_files.specs.declared.file.RunFile.{RunFile}

-- the name of the file that holds the schedule's text, where one does
abbrev pub schedule_file_of_kind : RunKind → Option (List ℕ)
schedule_file_of_kind (Replay schedule limits expected) = Some schedule.now
schedule_file_of_kind _ = None

-- the name of the file that the record is to be written to, where one is asked for
abbrev pub record_file_of_kind : RunKind → Option (List ℕ)
record_file_of_kind (Workers workers kept stop_at limits) = option_map (λ name. name.now) kept
record_file_of_kind _ = None

-- a replay of which it is known what the `.run` file says; another kind stays
abbrev pub kind_with_run_file : RunKind → RunFile → RunKind
kind_with_run_file (Replay schedule limits expected) file = Replay schedule limits (Some file)
kind_with_run_file kind file = kind

-- a run whose kind is that
abbrev pub run_with_run_file : Run → RunFile → Run
run_with_run_file run file = record run { kind = kind_with_run_file run.kind file }
