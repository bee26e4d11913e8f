use Rattle.shared_machine.proofs.workers.seats.+acknowledge_last.Given as goal

abbrev pub decreases-acknowledge_last : goal.decreases-acknowledge_last
decreases-acknowledge_last l = l.most
