use Rattle.std.proofs.Common.{ℕ, Bool, Option, Some, not, false, sym, ap, ◌∙◌}
use Rattle.std.specs.Option.{option_map_or}
use Rattle.cil_model.specs.declared.trees.Method.{Method}
use Rattle.cil_model.specs.Chains.{longest_chain, is_virtual}
use Rattle.inheritance.proofs.LineLaws.{line_of_none}
use Rattle.name_tables.specs.Keys.{method_of_key}
use Rattle.name_tables.specs.Members.{base_numbers}
use Rattle.name_tables.specs.Methods.{line_of}
use Rattle.name_tables.specs.Numbers.{method_found}
use Rattle.resolved_code.specs.VirtualSlots.{concrete_by_id}
use Rattle.metadata.proofs.MethodLaws.{of_pair, nonvirtual_tested, tested}
use Rattle.metadata.proofs.kinds.nonvirtual_base.Goals as goal

pub returns-in_default : goal.returns-in_default
returns-in_default c =
    let t = c.args.methods.now.names.now.classes.tree.now in
    let plain = concrete_by_id t (method_of_key c.args.key) in
    sym (ap (λ o. plain (line_of t o)) c.in_default.is ∙ ap plain (line_of_none (base_numbers t) (longest_chain t)))

pub returns-in-Err : goal.returns-in-Err
returns-in-Err c =
    let t = c.args.methods.now.names.now.classes.tree.now in
    c.nonvirtual_along.ensures ∙ ap (λ o. concrete_by_id t (method_of_key c.args.key) (line_of t o)) (sym c.in-Some.is)

pub returns-in-Ok : goal.returns-in-Ok
returns-in-Ok c =
    let t = c.args.methods.now.names.now.classes.tree.now in
    let k = method_of_key c.args.key in
    let plain : Method → Bool = λ m. not (is_virtual m.kind) in
    let at : ℕ → Bool = λ n. option_map_or plain (method_found t k n) false in
    c.nonvirtual_found.ensures ∙ of_pair at c.in-Ok.found ∙ ap (λ (o : Option (ℕ × ℕ)). option_map_or (λ (p : ℕ × ℕ). at p.0) o false) c.in-Ok.ensures.found ∙
    sym (tested t k plain (line_of t (Some c.in-Some.base))) ∙ sym (nonvirtual_tested t k (line_of t (Some c.in-Some.base))) ∙ ap (λ o. concrete_by_id t k (line_of t o)) (sym c.in-Some.is)
