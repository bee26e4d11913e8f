use Rattle.std.proofs.Common.{Some, sym, ap, ◌∙◌}
use Rattle.std.specs.List.{list_any}
use Rattle.cil_model.specs.Chains.{longest_chain}
use Rattle.inheritance.proofs.LineLaws.{line_of_none}
use Rattle.name_tables.specs.Keys.{method_of_key}
use Rattle.name_tables.specs.Members.{base_numbers}
use Rattle.name_tables.specs.Methods.{line_of}
use Rattle.resolved_code.specs.VirtualSlots.{is_virtual_found}
use Rattle.metadata.proofs.MethodLaws.{virtual_on_line}
use Rattle.metadata.proofs.implemented.implements_method.Goals as goal

pub returns-in_default : goal.returns-in_default
returns-in_default c =
    let t = c.args.methods.now.names.now.classes.tree.now in
    let any = list_any (is_virtual_found t (method_of_key c.args.key)) in
    sym (ap (λ o. any (line_of t o)) c.in_default.is ∙ ap any (line_of_none (base_numbers t) (longest_chain t)))

pub returns-in-Ok : goal.returns-in-Ok
returns-in-Ok c =
    let t = c.args.methods.now.names.now.classes.tree.now in
    c.in-Ok.ensures.found ∙ virtual_on_line t (method_of_key c.args.key) (line_of t (Some c.in-Some.class)) ∙ ap (λ o. list_any (is_virtual_found t (method_of_key c.args.key)) (line_of t o)) (sym c.in-Some.is)

pub returns-in-Err : goal.returns-in-Err
returns-in-Err c =
    let t = c.args.methods.now.names.now.classes.tree.now in
    c.has_virtual_along.ensures ∙ ap (λ o. list_any (is_virtual_found t (method_of_key c.args.key)) (line_of t o)) (sym c.in-Some.is)
