use Rattle.flow_rules.proofs.MemberLaws.{concrete_class}
use Rattle.flow_rules.proofs.members.is_concrete.Goals as goal

pub returns-in-Some : goal.returns-in-Some
returns-in-Some c = λ name at. concrete_class c.args.types.now c.class_of.ensures.legal c.args.id name c.in-Some.class.now c.in-Some.ensures.found at
