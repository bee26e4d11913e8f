use Rattle.std.proofs.Common.{◌≡◌, ◌≤◌, [], vec_len, vec_capacity}
use Rattle.epoch_words.specs.Tokens.{initial_seats}
use Rattle.epoch_words.specs.Rule.{dealt_herald}
use Rattle.epoch_words.specs.declared.word_table.View.TheVariants.{OfHerald}
use Rattle.epoch_words.proofs.epochs.Epochs.new.Given as goal

abbrev pub invariant-loop-index : goal.invariant-loop-index
invariant-loop-index l = record {
  same_table : l.token.table_id ≡ l.words.shared.table_id;
  dealt : l.token.me ≡ (OfHerald (dealt_herald l.workers l.index), []);
  seats : l.seats.items ≡ initial_seats l.words.shared.table_id l.index;
  count : vec_len l.seats ≡ l.index;
  room : l.workers ≤ vec_capacity l.seats;
}
