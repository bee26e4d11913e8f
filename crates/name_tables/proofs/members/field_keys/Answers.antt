use Rattle.std.proofs.Common.{map, ap}
use Rattle.name_tables.specs.Keys.{field_of_key}
use Rattle.name_tables.proofs.Lists.{at_end, one_more_row}
use Rattle.name_tables.proofs.members.field_keys.Goals as goal

pub loop-field-init : goal.loop-field-init
loop-field-init c = ap (map field_of_key) c.in_ok-keys.ensures.items

pub loop-field-preserved : goal.loop-field-preserved
loop-field-preserved c =
    one_more_row field_of_key (λ f. f.now) c.loop-field.keys.items c.push.new.self.items c.args.fields.now c.loop-field.field-index c.of.result c.field-item.result c.loop-field-test.true c.field-item.is
    c.loop-field.invariant c.in_ok-push.ensures.items c.of.ensures

pub returns : goal.returns
returns c = at_end (map (λ f. f.now)) c.args.fields.now c.loop-field.field-index c.loop-field-test.false c.loop-field.invariant
