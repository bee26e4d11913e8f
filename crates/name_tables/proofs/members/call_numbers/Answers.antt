use Rattle.std.proofs.Common.{map}
use Rattle.name_tables.specs.Methods.{call_of}
use Rattle.name_tables.specs.Sameness.{call_identity_of}
use Rattle.name_tables.proofs.Lists.{at_end}
use Rattle.name_tables.proofs.members.call_numbers.Goals as goal

pub loop-index-init : goal.loop-index-init
loop-index-init c = λ number e. c.in_ok-keys.ensures.items

pub returns : goal.returns
returns c = λ number e. at_end (map (λ m. call_of number (call_identity_of m.now))) c.args.methods.now c.loop-index.index c.loop-index-test.false (c.loop-index.invariant number e)
