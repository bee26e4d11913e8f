use Rattle.std.proofs.Common.{length}
use Rattle.shared_machine.proofs.workers.pool.+send_all.Given as goal

abbrev pub decreases-send_all : goal.decreases-send_all
decreases-send_all g l = length l.pool.tickets.items
