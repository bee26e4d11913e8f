use Rattle.shared_machine.proofs.workers.pool.run_workers.Given as goal

-- the epochs of the seats
abbrev pub ghosts-run_pool : goal.ghosts-run_pool
ghosts-run_pool g a = record { table = a.epochs.now.table }
