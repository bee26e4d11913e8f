use Rattle.std.proofs.Common.{◌≤◌}
use Rattle.shared_machine.proofs.workers.passes.idle_workers.Given as goal

abbrev pub invariant-loop-worker : goal.invariant-loop-worker
invariant-loop-worker l = l.idle ≤ l.worker
