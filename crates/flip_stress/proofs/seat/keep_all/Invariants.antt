use Rattle.std.proofs.Common.{◌≡◌, ◌≤◌, count_by, nat_eq, take}
use Rattle.flip_stress.specs.Stress.{IsSameSeat}
use Rattle.flip_stress.proofs.seat.keep_all.Given as goal

abbrev pub invariant-loop-index : goal.invariant-loop-index
invariant-loop-index l = record {
  same_seat : IsSameSeat l.initial.writer l.writer;
  kept_so_far : l.kept ≡ count_by (nat_eq l.initial.writer.seat) (take l.index l.flip.plan.owners);
  few : l.kept ≤ l.index;
}
