use Rattle.std.specs.Prelude.{None}
use Rattle.run_api_tests.proofs.loan_runs.does_on_loan.Given as goal

abbrev pub ghosts-run_on_loan-M-Initial : goal.ghosts-run_on_loan-M-Initial
ghosts-run_on_loan-M-Initial g a = record { initial_state = a.core; workers = 1; most_printed = None }

abbrev pub ghosts-run_on_loan-M-TableName : goal.ghosts-run_on_loan-M-TableName
ghosts-run_on_loan-M-TableName g a = record { table = a.blank }
