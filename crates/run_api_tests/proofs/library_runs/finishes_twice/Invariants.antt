use Rattle.std.specs.Prelude.{None}
use Rattle.run_api_tests.proofs.library_runs.finishes_twice.Given as goal

abbrev pub ghosts-finish_twice-M-Initial : goal.ghosts-finish_twice-M-Initial
ghosts-finish_twice-M-Initial a = record { initial_state = a.core; workers = 2; most_printed = None }

abbrev pub ghosts-finish_twice-M-TableName : goal.ghosts-finish_twice-M-TableName
ghosts-finish_twice-M-TableName a = record { table = a.blank }
