use Rattle.std.proofs.Common.{◌≡◌, ◌||◌, false, is_some, sym, ap, ◌∙◌}
use Rattle.cil_model.specs.declared.trees.Field.{Field}
use Rattle.cil_model.specs.Same.{same_text, same_class}
use Rattle.cil_model.specs.Declarations.{field_members, method_members, interfaces_named}
use Rattle.cil_model.specs.Legality.{has_repeat, same_method}
use Rattle.resolved_code.proofs.ListLaws.Repeats.{first_decides, none_before, if_ok_then}
use Rattle.metadata.proofs.duplicates.duplicate_in_class.Goals as goal

pub returns-in-Some : goal.returns-in-Some
returns-in-Some c = first_decides _ _ (first_decides _ _ (first_decides _ _ (sym (ap is_some c.in-Some.is) ∙ c.in_ok-fields.ensures)))

pub returns : goal.returns
returns c =
    let k = c.args.class.now in
    let two : has_repeat (λ (x y : Field). same_text x.name y.name) (field_members k) || has_repeat same_method (method_members k) ≡ false =
    none_before _ _ (sym c.in_ok-fields.ensures ∙ ap is_some c.in_default.is) ∙ sym c.in_ok-methods.ensures ∙ ap is_some c.in_default-2.is in
    let three : has_repeat (λ (x y : Field). same_text x.name y.name) (field_members k) || has_repeat same_method (method_members k) || has_repeat same_class (interfaces_named k.kind) ≡ false =
    none_before _ _ two ∙ ap (has_repeat same_class) (sym c.interfaces_named.ensures) ∙ sym c.in_ok-interfaces.ensures ∙ ap is_some c.in_default-3.is in
    if_ok_then c.duplicate_in_methods.result _ _ (λ v e. e ∙ sym (none_before _ _ three)) c.duplicate_in_methods.ensures
