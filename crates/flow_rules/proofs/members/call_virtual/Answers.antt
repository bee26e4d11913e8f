use Rattle.std.proofs.Common.{true, sym, subst}
use Rattle.cil_model.specs.FlowRules.{StackAfter}
use Rattle.flow_rules.specs.Flow.{IsAfter}
use Rattle.flow_rules.proofs.MemberRules.{virtual_is}
use Rattle.flow_rules.proofs.members.call_virtual.Goals as goal

pub returns-in_err-called : goal.returns-in_err-called
returns-in_err-called c = λ name text signature owner is. absurd (c.in_err-called.ensures.absent true _ is)

pub returns : goal.returns
returns c = λ name text signature owner is.
    subst (λ (a : StackAfter). IsAfter c.args.method.now.types.now c.call_found.result c.call_found.new.stack a)
    (sym (virtual_is c.args.method.now name text signature (is.declared_in, is.found) c.owner_type.result c.in_ok-called.called.now c.args.stack.now is.finds (c.owner_type.ensures c.args.method.now.types.now name owner) (c.in_ok-called.ensures.found true _ is))) c.call_found.ensures
