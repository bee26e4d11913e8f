use Rattle.std.proofs.Common.{◌≡◌, length, vec_len, map, take, drop, ap, ◌∙◌, arith, rules}
use Rattle.name_tables.specs.KeyIds.{number_in}
use Rattle.name_tables.proofs.Lists.{at_end, one_more_row, own_within, own_first, others_after}
use Rattle.name_tables.proofs.inherited.own_numbers.Goals as goal

pub returns : goal.returns
returns g c = at_end (map (λ row. map (number_in g.K.PartialEq.eq c.args.keys.now) row.items)) c.args.rows.now c.loop-row.row-index c.loop-row-test.false c.loop-row.invariant.0

pub loop-row-init : goal.loop-row-init
loop-row-init g c = (ap (map (λ r. r.items)) c.in_ok-numbers.ensures.items, c.numbers-rest.ensures ∙ ap (map (number_in g.K.PartialEq.eq c.args.keys.now)) c.requires)

pub split_at-requires : goal.split_at-requires
split_at-requires g c =
    let fits : vec_len c.row-item.result ≡ length c.row-item.result.items = search rules in
    let within = own_within (λ row. row.items) (number_in g.K.PartialEq.eq c.args.keys.now) c.args.rows.now c.loop-row.row-index c.row-item.result c.loop-row.rest.now c.loop-row-test.true c.row-item.is c.loop-row.invariant.1 in
    omega (arith, c.len.ensures, fits, within)

pub loop-row-preserved : goal.loop-row-preserved
loop-row-preserved g c =
    let number = number_in g.K.PartialEq.eq c.args.keys.now in
    let rows = c.args.rows.now in
    let index = c.loop-row.row-index in
    let row = c.row-item.result in
    let fits : vec_len row ≡ length row.items = search rules in
    let whole = c.len.ensures ∙ fits in
    let own = c.in_ok-to_vec.ensures.items_if_clones_equal (λ x y same. same) ∙ c.split_at.ensures.front ∙ ap (λ n. take n c.loop-row.rest.now) whole ∙ own_first (λ row. row.items) number rows index row c.loop-row.rest.now c.loop-row-test.true c.row-item.is c.loop-row.invariant.1 in (
      one_more_row (λ r. r.items) (λ row. map number row.items) c.loop-row.numbers.items c.push.new.self.items rows index c.in_ok-to_vec.field-0 row c.loop-row-test.true c.row-item.is c.loop-row.invariant.0 c.in_ok-push.ensures.items own,
      c.split_at.ensures.back ∙ ap (λ n. drop n c.loop-row.rest.now) whole ∙ others_after (λ row. row.items) number rows index row c.loop-row.rest.now c.loop-row-test.true c.row-item.is c.loop-row.invariant.1,
    )
