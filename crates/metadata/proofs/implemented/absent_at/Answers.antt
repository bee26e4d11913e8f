use Rattle.std.proofs.Common.{Bool, Some, is_some, sym, ap, ◌∙◌}
use Rattle.std.specs.List.{list_any}
use Rattle.cil_model.specs.declared.trees.Method.{Method}
use Rattle.name_tables.specs.Methods.{virtual_index, line_of, methods_at}
use Rattle.name_tables.specs.Numbers.{nearest_number}
use Rattle.name_tables.specs.Sameness.{identity_of}
use Rattle.resolved_code.specs.VirtualSlots.{is_virtual_found}
use Rattle.resolved_code.proofs.ListLaws.Tests.{list_all_congr}
use Rattle.metadata.proofs.MethodLaws.{virtual_on_line}
use Rattle.metadata.proofs.implemented.absent_at.Goals as goal

pub returns-in-Ok : goal.returns-in-Ok
returns-in-Ok c =
    let t = c.args.methods.now.names.now.classes.tree.now in
    let line = line_of t (Some c.in-Some.first) in
    let found : Method → Bool = λ m. is_some (nearest_number (virtual_index t (identity_of m)) line) in
    let declared : Method → Bool = λ m. list_any (is_virtual_found t (identity_of m)) (line_of t c.args.class.now) in
    c.in-Ok.ensures.found ∙
    list_all_congr found declared (λ m. virtual_on_line t (identity_of m) line ∙ ap (λ o. list_any (is_virtual_found t (identity_of m)) (line_of t o)) (sym c.in-Some.is)) (methods_at t c.args.interface)
