use Rattle.std.specs.Prelude.{None}
use Rattle.memory_tests.proofs.twins.run_twins.Given as goal

-- the machine that is opened, for one worker
abbrev pub ghosts-run_shared-M-Initial : goal.ghosts-run_shared-M-Initial
ghosts-run_shared-M-Initial g a = record { initial_state = a.core; workers = 1; most_printed = None }

abbrev pub ghosts-run_shared-M-TableName : goal.ghosts-run_shared-M-TableName
ghosts-run_shared-M-TableName g a = record { table = a.blank }
