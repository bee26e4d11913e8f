use Rattle.std.proofs.Common.{map, ap}
use Rattle.name_tables.specs.Keys.{method_of_key}
use Rattle.name_tables.specs.Sameness.{identity_of}
use Rattle.name_tables.proofs.Lists.{at_end}
use Rattle.name_tables.proofs.class_tables.method_keys.Goals as goal

pub loop-method-init : goal.loop-method-init
loop-method-init c = ap (map method_of_key) c.new-keys.ensures.items

pub returns : goal.returns
returns c = at_end (λ methods. map identity_of (map (λ m. m.now) methods)) c.args.methods.now c.loop-method.method-index c.loop-method-test.false c.loop-method.invariant
