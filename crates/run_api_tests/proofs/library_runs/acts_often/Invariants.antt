use Rattle.std.specs.Prelude.{None}
use Rattle.run_api_tests.proofs.library_runs.acts_often.Given as goal

abbrev pub ghosts-act_many-M-Initial : goal.ghosts-act_many-M-Initial
ghosts-act_many-M-Initial g a = record { initial_state = a.core; workers = 2; most_printed = None }

abbrev pub ghosts-act_many-M-TableName : goal.ghosts-act_many-M-TableName
ghosts-act_many-M-TableName g a = record { table = a.blank }
