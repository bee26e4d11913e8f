use Rattle.std.proofs.Common.{is_some, refl, arith}
use Rattle.std.specs.HashMap.{get}
use Rattle.name_tables.proofs.FirstIndices.{one_more, all_known}
use Rattle.name_tables.proofs.key_indices.note_all.Goals as goal

pub loop-index-init : goal.loop-index-init
loop-index-init g c = (c.requires, refl, c.in_ok-numbers.ensures.items)

pub loop-index-preserved : goal.loop-index-preserved
loop-index-preserved g c =
    let eq = g.K.PartialEq.eq in
    one_more eq g.met.K.Eq.laws c.args.keys.now c.loop-index.index c.index-keys-index.result (get eq c.loop-index.firsts) (get eq c.note_first.new.firsts) c.in_ok-known.known
    (is_some c.loop-index.repeated) (is_some c.lesser-repeated.result) c.unwrap_or.result c.loop-index.numbers.items c.push.new.self.items (omega arith) c.index-keys-index.is
    c.in_ok-known.ensures.known c.in_ok-known.ensures.noted c.lesser-repeated.ensures c.unwrap_or.ensures c.in_ok-push.ensures.items c.loop-index.invariant

pub returns-clause-firsts : goal.returns-clause-firsts
returns-clause-firsts g c = (all_known g.K.PartialEq.eq c.args.keys.now c.loop-index.index c.loop-index-test.false c.loop-index.invariant).0

pub returns-clause-repeated : goal.returns-clause-repeated
returns-clause-repeated g c = (all_known g.K.PartialEq.eq c.args.keys.now c.loop-index.index c.loop-index-test.false c.loop-index.invariant).1

pub returns-clause-numbers : goal.returns-clause-numbers
returns-clause-numbers g c = (all_known g.K.PartialEq.eq c.args.keys.now c.loop-index.index c.loop-index-test.false c.loop-index.invariant).2
