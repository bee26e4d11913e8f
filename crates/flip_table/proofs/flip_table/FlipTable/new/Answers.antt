use Rattle.std.proofs.Common.{◌≡◌, ◌+◌, map, refl, ap, arith, rules, sym, ◌∙◌}
use Rattle.std.proofs.Math.Nat.{zero-add}
use Rattle.std.proofs.lemmas.List.FromFn.{map-range_with_len_more}
use Rattle.std.proofs.lemmas.Result.{IfOk-from_err}
use Rattle.std.specs.List.{range_with_len}
use Rattle.flip_table.specs.Plans.{plan_of}
use Rattle.flip_table.specs.Tokens.{initial_seat}
use Rattle.flip_table.proofs.InitialTables.{few_words, some_words}
use Rattle.flip_table.proofs.flip_table.FlipTable.new.Goals as goal

pub loop-index-preserved : goal.loop-index-preserved
loop-index-preserved c = record {
  same_table = c.deal_writer.ensures.token.0 ∙ c.loop-index.invariant.same_table;
  dealt = rw (← c.in_ok-words.ensures.words.1) c.deal_writer.ensures.token.1;
  writers = rw (c.push_reserved.ensures.items, c.loop-index.invariant.writers, c.deal_writer.ensures.writer, c.loop-index.invariant.same_table, c.in_ok-words.ensures.words.1)
      (sym (map-range_with_len_more (initial_seat c.in_ok-words.words.shared.table_id (plan_of c.args.plan)) 0 c.loop-index.index c.loop-index.index (zero-add c.loop-index.index)));
  count = c.push_reserved.ensures.len ∙ ap (λ n. n + 1) c.loop-index.invariant.count;
  room = rw c.push_reserved.ensures.capacity c.loop-index.invariant.room;
}

pub returns-in_err-writers : goal.returns-in_err-writers
returns-in_err-writers c = search (rules, IfOk-from_err)

pub returns-in_err-words : goal.returns-in_err-words
returns-in_err-words c = search (rules, IfOk-from_err)

pub deal_writer-requires-clause-words : goal.deal_writer-requires-clause-words
deal_writer-requires-clause-words c = (c.loop-index.invariant.same_table, rw c.in_ok-words.ensures.words.0 (some_words _))

pub deal_writer-requires-clause-next : goal.deal_writer-requires-clause-next
deal_writer-requires-clause-next c = rw c.in_ok-words.ensures.words.1 (c.loop-index.invariant.dealt, c.loop-index-test.true)

pub returns-clause-table : goal.returns-clause-table
returns-clause-table c = ap plan_of c.in_ok-words.ensures.words.1

pub returns-clause-copier : goal.returns-clause-copier
returns-clause-copier c = rw (c.copier_of.ensures, c.loop-index.invariant.same_table)

pub returns-clause-writers : goal.returns-clause-writers
returns-clause-writers c =
    let all : c.loop-index.index ≡ c.args.plan.seats = omega arith in
    c.loop-index.invariant.writers ∙ ap (λ index. map (initial_seat c.in_ok-words.words.shared.table_id (plan_of c.args.plan)) (range_with_len 0 index)) all

pub invariant_of-table : goal.invariant_of-table
invariant_of-table c =
    rw (c.in_ok-words.ensures.words.1, c.in_ok-words.ensures.words.0, c.len-slots.ensures) (c.args.plan.writer_of.ok.0, refl, refl, few_words _ _ c.requires.sizes, c.requires.limit.1)
