use Rattle.std.proofs.Common.{Bool, List, Option, [], map, option_map, sym, ap, ◌∙◌}
use Rattle.std.specs.List.{list_any, list_all}
use Rattle.std.specs.Option.{option_map_or}
use Rattle.cil_model.specs.declared.types.ClassName.{ClassName}
use Rattle.cil_model.specs.declared.trees.Method.{Method}
use Rattle.cil_model.specs.Declarations.{Declaration}
use Rattle.name_tables.specs.Entries.{entry_of}
use Rattle.name_tables.specs.Methods.{line_of}
use Rattle.name_tables.specs.Sameness.{identity_of}
use Rattle.resolved_code.specs.VirtualSlots.{is_virtual_found}
use Rattle.metadata.proofs.implemented.absent_by_name.Goals as goal

pub returns-in-None : goal.returns-in-None
returns-in-None c =
    let t = c.args.methods.now.names.now.classes.tree.now in
    let all : Option (ClassName × Declaration) → Bool = λ o. list_all (λ (m : Method). list_any (is_virtual_found t (identity_of m)) (line_of t c.args.class.now)) (option_map_or (λ (e : ClassName × Declaration). e.1.methods) o []) in
    ap (λ o. all (option_map (λ d. entry_of d.now) o)) (sym c.in-None.is) ∙ ap all c.class.ensures

pub returns-in-Some : goal.returns-in-Some
returns-in-Some c =
    let t = c.args.methods.now.names.now.classes.tree.now in
    let every : List Method → Bool = list_all (λ (m : Method). list_any (is_virtual_found t (identity_of m)) (line_of t c.args.class.now)) in
    let all : Option (ClassName × Declaration) → Bool = λ o. every (option_map_or (λ (e : ClassName × Declaration). e.1.methods) o []) in
    c.absent_method.ensures ∙ ap (λ xs. every (map (λ m. m.now) xs)) c.as_slice.ensures.value ∙ ap (λ o. all (option_map (λ d. entry_of d.now) o)) (sym c.in-Some.is) ∙ ap all c.class.ensures
