use Rattle.std.proofs.Common.{◌≡◌, ℕ, [], List, Some, slice_get, ap, ◌∙◌}
use Rattle.std.specs.Prelude.{flat_map}
use Rattle.std.specs.Option.{option_map_or}
use Rattle.cil_model.specs.declared.types.ClassName.{ClassName}
use Rattle.cil_model.specs.Declarations.{Declaration}
use Rattle.resolved_code.proofs.ListLaws.Repeats.{if_ok_then}
use Rattle.name_tables.specs.Numbers.{chain_numbers, declarations}
use Rattle.class_layout.specs.ByClass.{by_class, interface_numbers, assignable_row, with_interfaces}
use Rattle.class_layout.proofs.AncestorLaws.{row_of_marks}
use Rattle.class_layout.proofs.ancestry.row.Goals as goal

pub returns : goal.returns
returns c =
    let s = c.args.classes.now in
    let t = s.program.now in
    let table = by_class t (interface_numbers t) in
    let are : (e : ClassName × Declaration) → slice_get (declarations t) c.args.class ≡ Some e → c.as_slice.result.now ≡ flat_map (with_interfaces table) (chain_numbers t e.0) =
    λ e there. c.as_slice.ensures.value ∙ c.in_ok-ancestors.ensures ∙ ap (λ (listed : List (List ℕ)). flat_map (with_interfaces listed) c.chain.result.now) s.listed_are ∙
    ap (flat_map (with_interfaces table)) (c.chain.ensures ∙ ap (λ o. option_map_or (λ (x : ClassName × Declaration). chain_numbers t x.0) o []) there) in
    if_ok_then c.marks.result _ (λ v. (e : ClassName × Declaration) → slice_get (declarations t) c.args.class ≡ Some e → v.items ≡ assignable_row t e.0)
    (λ v h. λ e there. row_of_marks t s.legal e.0 v.items c.count.result c.as_slice.result.now (are e there) c.count.ensures h.0 h.1) c.marks.ensures
