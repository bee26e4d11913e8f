use Rattle.std.proofs.Common.{Bool, List, cond, not, ◌&&◌, ◌||◌, map, sym, ap, ◌∙◌}
use Rattle.std.specs.List.{list_any, list_all}
use Rattle.cil_model.specs.declared.trees.ClassKind.{ClassKind}
use Rattle.cil_model.specs.declared.trees.Method.{Method}
use Rattle.cil_model.specs.Declarations.{source_name, method_members, is_interface_kind, is_abstract_kind}
use Rattle.cil_model.specs.Chains.{is_abstract_method}
use Rattle.cil_model.specs.Legality.{is_interface_method, has_abstract_slot, overrides_no_virtual}
use Rattle.resolved_code.proofs.ListLaws.Repeats.{if_ok_then}
use Rattle.metadata.proofs.kinds.kind_fault.Goals as goal

pub returns : goal.returns
returns c =
    let t = c.args.slots.now.methods.now.names.now.classes.tree.now in
    let k = c.args.class.now in
    let complete : Bool → List Method → Bool = λ is_abstract ms.
    (is_abstract || (not (list_any (λ (m : Method). is_abstract_method m.kind) ms) && not (has_abstract_slot t (source_name k)))) && not (list_any (overrides_no_virtual t (source_name k)) ms) in
    let fits : ClassKind → Bool = λ x. cond (is_interface_kind x) (list_all is_interface_method (method_members k)) (complete (is_abstract_kind x) (method_members k)) in
    if_ok_then c.class_fault.result _ _
    (λ fault e. e ∙ ap (complete c.in-Class.is_abstract) (ap (map (λ m. m.now)) c.as_slice-in-Class.ensures.value ∙ c.in_ok-methods.ensures) ∙ sym (ap fits c.in-Class.is))
    c.class_fault.ensures
