use Rattle.std.specs.Prelude.{None}
use Rattle.run_api_tests.proofs.loan_runs.answers.Given as goal

abbrev pub ghosts-is_so-M-Initial : goal.ghosts-is_so-M-Initial
ghosts-is_so-M-Initial g a = record { initial_state = a.core; workers = 1; most_printed = None }

abbrev pub ghosts-is_so-M-TableName : goal.ghosts-is_so-M-TableName
ghosts-is_so-M-TableName g a = record { table = a.blank }
