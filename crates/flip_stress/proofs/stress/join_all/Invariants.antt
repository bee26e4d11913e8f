use Rattle.std.proofs.Common.{◌≡◌, ◌++◌, sum_by}
use Rattle.std.specs.Vec.Iter.{into_iter_items}
use Rattle.flip_stress.specs.Promises.{promised_by}
use Rattle.flip_stress.proofs.stress.join_all.Given as goal

abbrev pub invariant-loop-thread : goal.invariant-loop-thread
invariant-loop-thread g l = record {
  kept : l.kept ≡ sum_by promised_by l.yielded;
  rest : l.fn.threads.items ≡ l.yielded ++ into_iter_items l.thread-iterator;
}
