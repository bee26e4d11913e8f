use Rattle.std.specs.Prelude.{None}
use Rattle.run_api_tests.proofs.library_runs.keeps_its_mark.Given as goal

abbrev pub ghosts-keeps_the_mark-M-Initial : goal.ghosts-keeps_the_mark-M-Initial
ghosts-keeps_the_mark-M-Initial g a = record { initial_state = a.core; workers = 2; most_printed = None }

abbrev pub ghosts-keeps_the_mark-M-TableName : goal.ghosts-keeps_the_mark-M-TableName
ghosts-keeps_the_mark-M-TableName g a = record { table = a.blank }
