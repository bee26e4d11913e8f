use Rattle.std.specs.Prelude.{None}
use Rattle.run_api_tests.proofs.library_runs.acts_once.Given as goal

abbrev pub ghosts-run_both-M-Initial : goal.ghosts-run_both-M-Initial
ghosts-run_both-M-Initial g a = record { initial_state = a.core; workers = 2; most_printed = None }

abbrev pub ghosts-run_both-M-TableName : goal.ghosts-run_both-M-TableName
ghosts-run_both-M-TableName g a = record { table = a.blank }
