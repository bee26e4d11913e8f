use Rattle.outcome_search.proofs.exploring.explore.Given as goal

-- what the first machine holds
abbrev pub ghosts-explore_machines : goal.ghosts-explore_machines
ghosts-explore_machines a = record { first = a.machine }
