use Rattle.std.proofs.Common.{ℕ, Bool, Option, Some, false, sym, ap, ◌∙◌}
use Rattle.std.specs.Option.{option_map_or}
use Rattle.cil_model.specs.declared.trees.Method.{Method}
use Rattle.cil_model.specs.Chains.{longest_chain, is_abstract_method}
use Rattle.inheritance.proofs.LineLaws.{line_of_none}
use Rattle.name_tables.specs.Keys.{method_of_key}
use Rattle.name_tables.specs.Members.{base_numbers}
use Rattle.name_tables.specs.Methods.{line_of}
use Rattle.name_tables.specs.Numbers.{method_found}
use Rattle.resolved_code.specs.VirtualSlots.{is_nearest_abstract}
use Rattle.metadata.proofs.MethodLaws.{of_pair, top_tested, tested}
use Rattle.metadata.proofs.open_slots.may_be_top.Goals as goal

pub returns-in_default : goal.returns-in_default
returns-in_default c = λ e.
    let t = c.args.methods.now.names.now.classes.tree.now in
    let top = is_nearest_abstract t (method_of_key c.args.key) in
    ap (λ o. top (line_of t o)) c.in_default.is ∙ ap top (line_of_none (base_numbers t) (longest_chain t))

pub returns-in-Ok : goal.returns-in-Ok
returns-in-Ok c = λ e.
    let t = c.args.methods.now.names.now.classes.tree.now in
    let k = method_of_key c.args.key in
    let is_abstract : Method → Bool = λ m. is_abstract_method m.kind in
    let at : ℕ → Bool = λ n. option_map_or is_abstract (method_found t k n) false in
    ap (λ o. is_nearest_abstract t k (line_of t o)) c.in-Some.is ∙ top_tested t k (line_of t (Some c.in-Some.class)) ∙ tested t k is_abstract (line_of t (Some c.in-Some.class)) ∙
    sym (ap (λ (o : Option (ℕ × ℕ)). option_map_or (λ (p : ℕ × ℕ). at p.0) o false) c.in-Ok.ensures.found) ∙ sym (of_pair at c.in-Ok.found) ∙ sym c.is_abstract_found.ensures ∙ e
