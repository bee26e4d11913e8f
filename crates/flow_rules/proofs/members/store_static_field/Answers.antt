use Rattle.std.proofs.Common.{true, sym, subst}
use Rattle.cil_model.specs.FlowRules.{StackAfter}
use Rattle.flow_rules.specs.Flow.{IsAfter}
use Rattle.flow_rules.proofs.MemberRules.{static_stored}
use Rattle.flow_rules.proofs.members.store_static_field.Goals as goal

pub returns-in_err-held : goal.returns-in_err-held
returns-in_err-held c = λ r is. absurd (c.in_err-held.ensures true r is)

pub returns : goal.returns
returns c = λ r is.
    subst (λ (a : StackAfter). IsAfter c.args.method.now.types.now c.take_fitting.result c.take_fitting.new.stack a)
    (sym (static_stored c.args.method.now r c.in_ok-held.held (is.declared_in, is.found) c.args.stack.now is.finds (c.in_ok-held.ensures true r is))) c.take_fitting.ensures
