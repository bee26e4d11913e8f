use Rattle.std.proofs.Common.{ap, ◌∙◌}
use Rattle.flow_rules.specs.StackTypes.{types_named}
use Rattle.flow_rules.proofs.MemberLaws.{types_are_named}
use Rattle.verifier.proofs.search.find_typing.Goals as goal

pub returns : goal.returns
returns c = λ code is. c.typing_of_body-typing.ensures code is (ap (types_named c.args.types.now) c.as_slice.ensures ∙ types_are_named c.args.types.now c.args.body.now.locals code.locals is.locals)
