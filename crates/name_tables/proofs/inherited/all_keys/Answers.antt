use Rattle.std.proofs.Common.{◌++◌, flat_map, take, ap, sym, ◌∙◌}
use Rattle.name_tables.proofs.Lists.{at_end, flat_map-take_more}
use Rattle.inheritance.proofs.Results.{if_ok}
use Rattle.name_tables.proofs.inherited.all_keys.Goals as goal

pub returns : goal.returns
returns g c =
    let all = at_end (flat_map (λ row. row.items)) c.args.rows.now c.loop-row.row-index c.loop-row-test.false c.loop-row.invariant in
    if_ok c.new.result c.new.ensures (λ indices made. made ∙ all)

pub loop-row-init : goal.loop-row-init
loop-row-init g c = c.new-keys.ensures.items

pub loop-row-preserved : goal.loop-row-preserved
loop-row-preserved g c =
    c.in_ok-extend_from_slice.ensures.items ∙ ap (λ keys. keys ++ c.as_slice.result.now) c.loop-row.invariant ∙ ap (λ own. flat_map (λ row. row.items) (take c.loop-row.row-index c.args.rows.now) ++ own) c.as_slice.ensures.value ∙
    sym (flat_map-take_more (λ row. row.items) c.args.rows.now c.loop-row.row-index c.row-item.result c.loop-row-test.true c.row-item.is)
