use Rattle.std.proofs.Common.{false, List, ◌∷◌, option_map, sym, ap, subst, ◌∙◌}
use Rattle.cil_model.specs.FlowRules.{StackAfter}
use Rattle.cil_model.specs.TypeTree.{StackType}
use Rattle.cil_model.specs.TypeTree as OnStack
use Rattle.flow_rules.specs.StackTypes.{type_named}
use Rattle.flow_rules.specs.Flow.{IsAfter}
use Rattle.flow_rules.proofs.MemberRules.{field_loaded}
use Rattle.flow_rules.proofs.members.load_field.Goals as goal

pub returns-in_err-held : goal.returns-in_err-held
returns-in_err-held c = λ r owner is. absurd (c.in_err-held.ensures false r is)

pub returns : goal.returns
returns c = λ r owner is.
    subst (λ (a : StackAfter). IsAfter c.args.method.now.types.now c.put.result c.put.new.stack a)
    (sym (field_loaded c.args.method.now r c.in_ok-held.held c.type_of_class.result (is.declared_in, is.found) c.args.stack.now is.finds (c.in_ok-held.ensures false r is) (c.type_of_class.ensures c.args.method.now.types.now r.owner owner) ∙
    ap (option_map (λ (rest : List StackType). OnStack.Declared (type_named c.args.method.now.types.now c.in_ok-held.held) ∷ rest)) c.in_ok-take_fitting.ensures)) (c.put.ensures c.args.method.now.types.now)
