use Rattle.std.proofs.Common.{◌≡◌, ℕ, ◌+◌, ◌<◌, slice_index}
use Rattle.epoch_words.specs.Tokens.{FindsNoLess}
use Rattle.epoch_words.proofs.epochs.Epochs.post.Given as goal

abbrev pub invariant-loop-index : goal.invariant-loop-index
invariant-loop-index l = record {
  same_table : l.herald.table ≡ l.initial.herald.table;
  same_posted : l.herald.posted ≡ l.initial.herald.posted;
  no_less : FindsNoLess l.initial.herald.found l.herald.found;
  looks_so_far : l.herald.looks ≡ l.initial.herald.looks + l.index;
  found_so_far : (j : ℕ) → j < l.index → slice_index l.herald.found j ≡ l.initial.herald.posted;
}
