use Rattle.std.proofs.Common.{◌≡◌, ℕ, ◌<◌, ◌%◌, slice_index, vec_len}
use Rattle.flip_stress.proofs.stress.owners.Given as goal

abbrev pub invariant-loop-index : goal.invariant-loop-index
invariant-loop-index l = record {
  count : vec_len l.owners ≡ l.index;
  dealt : (index : ℕ) → index < l.index → slice_index l.owners.items index ≡ index % l.sizes.seats;
}
