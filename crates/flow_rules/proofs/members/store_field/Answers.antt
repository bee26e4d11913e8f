use Rattle.std.proofs.Common.{false, sym, subst}
use Rattle.cil_model.specs.FlowRules.{StackAfter}
use Rattle.flow_rules.specs.Flow.{IsAfter}
use Rattle.flow_rules.proofs.MemberRules.{field_stored}
use Rattle.flow_rules.proofs.members.store_field.Goals as goal

pub returns-in_err-held : goal.returns-in_err-held
returns-in_err-held c = λ r owner is. absurd (c.in_err-held.ensures false r is)

pub returns : goal.returns
returns c = λ r owner is.
    subst (λ (a : StackAfter). IsAfter c.args.method.now.types.now c.take_arguments.result c.take_arguments.new.stack a)
    (sym (field_stored c.args.method.now r c.in_ok-held.held c.type_of_class.result (is.declared_in, is.found) c.args.stack.now is.finds (c.in_ok-held.ensures false r is) (c.type_of_class.ensures c.args.method.now.types.now r.owner owner))) c.take_arguments.ensures
