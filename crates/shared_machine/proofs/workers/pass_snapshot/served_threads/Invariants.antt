use Rattle.std.proofs.Common.{◌≡◌, ◌≤◌}
use Rattle.shared_machine.specs.Work.{served_below}
use Rattle.shared_machine.proofs.workers.pass_snapshot.served_threads.Given as goal

abbrev pub invariant-loop-thread : goal.invariant-loop-thread
invariant-loop-thread l = record {
  count : l.count ≡ served_below l.machine l.workers l.worker l.thread;
  few : l.count ≤ l.thread;
}
