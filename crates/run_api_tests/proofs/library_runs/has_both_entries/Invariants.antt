use Rattle.std.specs.Prelude.{None}
use Rattle.run_api_tests.proofs.library_runs.has_both_entries.Given as goal

abbrev pub ghosts-act_in_transition-M-Initial : goal.ghosts-act_in_transition-M-Initial
ghosts-act_in_transition-M-Initial g a = record { initial_state = a.core; workers = 2; most_printed = None }

abbrev pub ghosts-act_in_transition-M-TableName : goal.ghosts-act_in_transition-M-TableName
ghosts-act_in_transition-M-TableName g a = record { table = a.blank }
