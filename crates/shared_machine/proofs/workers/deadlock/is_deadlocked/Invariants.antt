use Rattle.std.proofs.Common.{ℕ, ◌<◌}
use Rattle.shared_machine.specs.Work.{IsHeldUp}
use Rattle.shared_machine.proofs.workers.deadlock.is_deadlocked.Given as goal

abbrev pub invariant-loop-thread : goal.invariant-loop-thread
invariant-loop-thread l = (t : ℕ) → t < l.thread → IsHeldUp l.machine t
