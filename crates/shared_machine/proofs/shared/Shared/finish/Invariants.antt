use Rattle.std.proofs.Common.{ℕ, ◌<◌}
use Rattle.shared_machine.specs.Worlds.{HasTicket}
use Rattle.shared_machine.proofs.shared.Shared.finish.Given as goal

abbrev pub invariant-loop-worker : goal.invariant-loop-worker
invariant-loop-worker g l = (w : ℕ) → w < l.worker → HasTicket l.tickets.items w
