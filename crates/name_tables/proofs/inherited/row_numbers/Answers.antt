use Rattle.std.proofs.Common.{map}
use Rattle.name_tables.specs.KeyIds.{number_in}
use Rattle.name_tables.proofs.Lists.{at_end, one_more_item}
use Rattle.name_tables.proofs.inherited.row_numbers.Goals as goal

pub loop-index-init : goal.loop-index-init
loop-index-init g c = c.new-numbers.ensures.items

pub loop-index-preserved : goal.loop-index-preserved
loop-index-preserved g c =
    one_more_item (number_in g.K.PartialEq.eq c.args.keys.now) c.loop-index.numbers.items c.push.new.self.items c.args.row.now c.loop-index.index c.number_of.result c.index-row-index.result c.loop-index-test.true c.index-row-index.is
    c.loop-index.invariant c.in_ok-push.ensures.items c.number_of.ensures

pub returns : goal.returns
returns g c = at_end (map (number_in g.K.PartialEq.eq c.args.keys.now)) c.args.row.now c.loop-index.index c.loop-index-test.false c.loop-index.invariant
