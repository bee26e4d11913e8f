use Rattle.std.proofs.Common.{◌≡◌, ◌+◌, ap, arith, rules, sym, ◌∙◌}
use Rattle.std.proofs.Math.Nat.{zero-add}
use Rattle.std.proofs.lemmas.List.FromFn.{map-range_with_len_more}
use Rattle.std.proofs.lemmas.Result.{IfOk-from_err}
use Rattle.epoch_words.specs.Tokens.{initial_seat, initial_seats}
use Rattle.epoch_words.proofs.epochs.Epochs.new.Goals as goal

pub loop-index-preserved : goal.loop-index-preserved
loop-index-preserved c = record {
  same_table = c.deal_seat.ensures.token.0 ∙ c.loop-index.invariant.same_table;
  dealt = c.deal_seat.ensures.token.1;
  seats = rw (c.push_reserved.ensures.items, c.loop-index.invariant.seats, c.deal_seat.ensures.seat, c.loop-index.invariant.same_table)
      (sym (map-range_with_len_more (initial_seat c.in_ok-words.words.shared.table_id) 0 c.loop-index.index c.loop-index.index (zero-add c.loop-index.index)));
  count = c.push_reserved.ensures.len ∙ ap (λ n. n + 1) c.loop-index.invariant.count;
  room = rw c.push_reserved.ensures.capacity c.loop-index.invariant.room;
}

pub returns-in_err-seats : goal.returns-in_err-seats
returns-in_err-seats c = search (rules, IfOk-from_err)

pub returns-in_err-words : goal.returns-in_err-words
returns-in_err-words c = search (rules, IfOk-from_err)

pub returns-clause-seats : goal.returns-clause-seats
returns-clause-seats c =
    let all : c.loop-index.index ≡ c.args.workers = omega arith in
    c.loop-index.invariant.seats ∙ ap (λ index. initial_seats c.in_ok-words.words.shared.table_id index) all

pub returns-clause-herald : goal.returns-clause-herald
returns-clause-herald c = rw (c.herald_of.ensures, c.loop-index.invariant.same_table)

pub deal_seat-requires-clause-words : goal.deal_seat-requires-clause-words
deal_seat-requires-clause-words c = (c.loop-index.invariant.same_table, c.in_ok-words.ensures.words.0, c.in_ok-words.ensures.words.1)

pub deal_seat-requires-clause-next : goal.deal_seat-requires-clause-next
deal_seat-requires-clause-next c = (c.loop-index.invariant.dealt, c.loop-index-test.true)
