use Rattle.std.proofs.Common.{true, sym, subst, ◌∙◌}
use Rattle.cil_model.specs.FlowRules.{StackAfter}
use Rattle.flow_rules.specs.Flow.{IsAfter}
use Rattle.flow_rules.proofs.MemberLaws.{constructor_owner}
use Rattle.flow_rules.proofs.MemberRules.{new_is, new_refused}
use Rattle.flow_rules.proofs.members.new_object.Goals as goal

pub returns-in_err-constructor : goal.returns-in_err-constructor
returns-in_err-constructor c = λ name parameters is. absurd (c.in_err-constructor.ensures.absent true _ is)

pub returns-then-is_concrete : goal.returns-then-is_concrete
returns-then-is_concrete c = λ name parameters is.
    subst (λ (a : StackAfter). IsAfter c.args.method.now.types.now c.construct.result c.construct.new.stack a)
    (sym (new_is c.args.method.now name parameters (is.declared_in, is.found) c.type_of_class-object.result c.in_ok-constructor.constructor.now c.args.stack.now is.finds (sym (c.is_concrete.ensures name (constructor_owner c.args.method.now.types.now name parameters c.args.id is)) ∙ c.if-is_concrete.true)
    (c.type_of_class-object.ensures c.args.method.now.types.now name (constructor_owner c.args.method.now.types.now name parameters c.args.id is)) (c.in_ok-constructor.ensures.found true _ is).parameters)) c.construct.ensures

pub returns : goal.returns
returns c = λ name parameters is. new_refused c.args.method.now name parameters (is.declared_in, is.found) c.args.stack.now is.finds (sym (c.is_concrete.ensures name (constructor_owner c.args.method.now.types.now name parameters c.args.id is)) ∙ c.if-is_concrete.false)
