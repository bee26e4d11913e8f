use Rattle.std.proofs.Common.{◌≡◌, ◌*◌}
use Rattle.flip_stress.specs.Stress.{own_count, IsSameSeat}
use Rattle.flip_stress.proofs.seat.run_seat.Given as goal

abbrev pub invariant-loop-round : goal.invariant-loop-round
invariant-loop-round l = record {
  same_seat : IsSameSeat l.initial.writer l.writer;
  kept_so_far : l.kept ≡ l.round * own_count l.initial.writer;
}
