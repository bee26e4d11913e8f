use Rattle.std.proofs.Common.{◌≡◌, ℕ, Some, length, slice_get}
use Rattle.shared_machine.specs.Worlds.{fresh}
use Rattle.shared_machine.proofs.shared.deal_all.Given as goal

abbrev pub invariant-loop-worker : goal.invariant-loop-worker
invariant-loop-worker g l = record {
  dealt : l.tickets.items ≡ fresh l.worker;
  exact_count : length l.book ≡ l.worker;
  zeros : (w n : ℕ) → slice_get l.book w ≡ Some n → n ≡ 0;
}
