use Rattle.std.proofs.Common.{◌≡◌, ℕ, ◌+◌, ◌<◌, slice_index}
use Rattle.epoch_words.specs.Tokens.{FindsNoLess}
use Rattle.word_flip.proofs.flip.Flip.find_all.Given as goal

abbrev pub invariant-loop-seat : goal.invariant-loop-seat
invariant-loop-seat l = record {
  rest : l.copier ≡ record l.initial.copier { found = l.copier.found; looks = l.copier.looks; looked_at = l.copier.looked_at };
  no_less : FindsNoLess l.initial.copier.found l.copier.found;
  looks_so_far : l.copier.looks ≡ l.initial.copier.looks + l.seat;
  found_so_far : (j : ℕ) → j < l.seat → slice_index l.copier.found j ≡ l.stage;
}
