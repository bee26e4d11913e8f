use Rattle.source_runs.proofs.threads.run.Given as goal

-- the machine that is opened, for that many workers
abbrev pub ghosts-run_together-M-Initial : goal.ghosts-run_together-M-Initial
ghosts-run_together-M-Initial g a = record { initial_state = a.core; workers = a.workers; most_printed = a.most_printed }

abbrev pub ghosts-run_together-M-TableName : goal.ghosts-run_together-M-TableName
ghosts-run_together-M-TableName g a = record { table = a.blank }
