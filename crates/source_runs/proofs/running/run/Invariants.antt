use Rattle.source_runs.proofs.running.run.Given as goal

-- the machine that is opened, for one worker
abbrev pub ghosts-run_alone-M-Initial : goal.ghosts-run_alone-M-Initial
ghosts-run_alone-M-Initial g a = record { initial_state = a.core; workers = 1; most_printed = a.most_printed }

abbrev pub ghosts-run_alone-M-TableName : goal.ghosts-run_alone-M-TableName
ghosts-run_alone-M-TableName g a = record { table = a.blank }
