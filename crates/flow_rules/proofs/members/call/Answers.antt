use Rattle.std.proofs.Common.{sym, subst, ◌∙◌}
use Rattle.cil_model.specs.FlowRules.{StackAfter}
use Rattle.flow_rules.specs.Flow.{IsAfter}
use Rattle.flow_rules.proofs.MemberRules.{call_is, call_refused}
use Rattle.flow_rules.proofs.members.call.Goals as goal

pub returns-in_err-called : goal.returns-in_err-called
returns-in_err-called c = λ r owner is. absurd (c.in_err-called.ensures.absent c.args.is_instance r is)

pub returns-then-is_abstract : goal.returns-then-is_abstract
returns-then-is_abstract c = λ r owner is. call_refused c.args.method.now c.args.is_instance r (is.declared_in, is.found) c.args.stack.now is.finds (sym (c.in_ok-called.ensures.found c.args.is_instance r is).is_abstract ∙ sym c.is_abstract.ensures ∙ c.if-is_abstract.true)

pub returns : goal.returns
returns c = λ r owner is.
    subst (λ (a : StackAfter). IsAfter c.args.method.now.types.now c.call_found.result c.call_found.new.stack a)
    (sym (call_is c.args.method.now c.args.is_instance r (is.declared_in, is.found) c.owner_type.result c.in_ok-called.called.now c.args.stack.now is.finds (sym (c.in_ok-called.ensures.found c.args.is_instance r is).is_abstract ∙ sym c.is_abstract.ensures ∙ c.if-is_abstract.false) (c.owner_type.ensures c.args.method.now.types.now r.owner owner) (c.in_ok-called.ensures.found c.args.is_instance r is))) c.call_found.ensures
