use Rattle.std.proofs.Common.{◌≡◌, ℕ, ◌<◌, false, true, slice_index_or}
use Rattle.word_flip.proofs.flip.Copier.is_all_copied.Given as goal

abbrev pub invariant-loop-copied : goal.invariant-loop-copied
invariant-loop-copied l = record {
  all_items : l.copied-items ≡ l.self.copied;
  copied_so_far : (k : ℕ) → k < l.copied-index → slice_index_or l.copied-items k false ≡ true;
}
