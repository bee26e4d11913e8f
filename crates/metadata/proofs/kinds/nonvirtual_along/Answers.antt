use Rattle.std.proofs.Common.{◌≡◌, ◌-◌, Some, None, not, option_map, sym, ap, ◌∙◌, arith}
use Rattle.std.specs.Option.{option_map_or}
use Rattle.cil_model.specs.declared.trees.Method.{Method}
use Rattle.cil_model.specs.Chains.{is_virtual}
use Rattle.inheritance.specs.Lines.{base_in, line_within}
use Rattle.inheritance.proofs.LineLaws.{line_of_none}
use Rattle.name_tables.specs.Keys.{method_of_key}
use Rattle.name_tables.specs.Members.{base_numbers}
use Rattle.name_tables.specs.Numbers.{method_found}
use Rattle.resolved_code.specs.VirtualSlots.{concrete_by_id}
use Rattle.metadata.proofs.MethodLaws.{nonvirtual_next}
use Rattle.metadata.proofs.kinds.nonvirtual_along.Goals as goal

pub returns-in-Some-method : goal.returns-in-Some-method
returns-in-Some-method c =
    let t = c.args.names.now.classes.tree.now in
    let k = method_of_key c.args.key in
    let bases = base_numbers t in
    let class = c.in-Some.class in
    let rest = concrete_by_id t k (line_within bases (c.loop-left.left - 1) (base_in bases class)) in
    let found : method_found t k class ≡ Some c.in-Some-method.method.now = sym c.method.ensures ∙ ap (option_map (λ m. m.now)) c.in-Some-method.is in
    c.unless_virtual.ensures ∙ sym (ap (λ f. option_map_or (λ (m : Method). not (is_virtual m.kind)) f rest) found) ∙
    sym (nonvirtual_next t k bases c.loop-left.left c.loop-left.next class c.in-Some.is (omega arith)) ∙ c.loop-left.invariant

pub loop-left-preserved : goal.loop-left-preserved
loop-left-preserved c =
    let t = c.args.names.now.classes.tree.now in
    let k = method_of_key c.args.key in
    let bases = base_numbers t in
    let left = c.loop-left.left in
    let class = c.in-Some.class in
    let rest = concrete_by_id t k (line_within bases (left - 1) (base_in bases class)) in
    let none : method_found t k class ≡ None = sym c.method.ensures ∙ ap (option_map (λ m. m.now)) c.in_default-method.is in
    ap (λ o. concrete_by_id t k (line_within bases (left - 1) o)) c.base-next.ensures ∙ sym (ap (λ f. option_map_or (λ (m : Method). not (is_virtual m.kind)) f rest) none) ∙
    sym (nonvirtual_next t k bases left c.loop-left.next class c.in-Some.is (omega arith)) ∙ c.loop-left.invariant

pub returns-in_default : goal.returns-in_default
returns-in_default c =
    let t = c.args.names.now.classes.tree.now in
    let k = method_of_key c.args.key in
    let bases = base_numbers t in
    let left = c.loop-left.left in
    sym (ap (λ o. concrete_by_id t k (line_within bases left o)) c.in_default.is ∙ ap (concrete_by_id t k) (line_of_none bases left)) ∙ c.loop-left.invariant
