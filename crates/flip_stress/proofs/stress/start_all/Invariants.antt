use Rattle.std.proofs.Common.{◌≡◌, ◌≤◌, ◌++◌, ◌*◌, length, sum_by, vec_len, vec_capacity}
use Rattle.std.specs.Vec.Iter.{into_iter_items}
use Rattle.flip_stress.specs.Promises.{promised_by}
use Rattle.flip_stress.specs.Stress.{own_count}
use Rattle.flip_stress.proofs.stress.start_all.Given as goal

abbrev pub invariant-loop-writer : goal.invariant-loop-writer
invariant-loop-writer g l = record {
  promised : sum_by promised_by l.threads.items ≡ l.sizes.rounds * sum_by own_count l.yielded;
  rest : l.fn.writers.items ≡ l.yielded ++ into_iter_items l.writer-iterator;
  count : vec_len l.threads ≡ length l.yielded;
  room : length l.fn.writers.items ≤ vec_capacity l.threads;
}
