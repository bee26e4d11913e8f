use Rattle.std.proofs.Common.{◌≡◌, ◌||◌, false, is_some, sym, ap, ◌∙◌}
use Rattle.std.specs.List.{list_any}
use Rattle.cil_model.specs.declared.trees.Class.{Class}
use Rattle.cil_model.specs.Same.{same_text}
use Rattle.cil_model.specs.Legality.{has_repeat, class_doubles}
use Rattle.resolved_code.proofs.ListLaws.Repeats.{first_decides, none_before, if_ok_then}
use Rattle.metadata.proofs.duplicates.duplicate_name.Goals as goal

pub returns-in-Some : goal.returns-in-Some
returns-in-Some c = first_decides _ _ (first_decides _ _ (sym (ap is_some c.in-Some.is) ∙ c.in_ok-externs.ensures ∙ ap (has_repeat same_text) c.as_slice.ensures))

pub returns-in-Some-2 : goal.returns-in-Some-2
returns-in-Some-2 c =
    let classes : is_some c.in_ok-classes.field-0 ≡ has_repeat (λ (x y : Class). same_text x.name y.name) c.args.tree.now.classes = c.in_ok-classes.ensures ∙ ap (has_repeat (λ (x y : Class). same_text x.name y.name)) c.as_slice-2.ensures in
    first_decides _ _ (sym (ap is_some c.in-Some-2.is) ∙ classes ∙ sym (none_before _ _ (sym (c.in_ok-externs.ensures ∙ ap (has_repeat same_text) c.as_slice.ensures) ∙ ap is_some c.in_default.is)))

pub returns : goal.returns
returns c =
    let t = c.args.tree.now in
    let classes : is_some c.in_ok-classes.field-0 ≡ has_repeat (λ (x y : Class). same_text x.name y.name) t.classes = c.in_ok-classes.ensures ∙ ap (has_repeat (λ (x y : Class). same_text x.name y.name)) c.as_slice-2.ensures in
    let two : has_repeat same_text t.externs || has_repeat (λ (x y : Class). same_text x.name y.name) t.classes ≡ false =
    none_before _ _ (sym (c.in_ok-externs.ensures ∙ ap (has_repeat same_text) c.as_slice.ensures) ∙ ap is_some c.in_default.is) ∙ sym classes ∙ ap is_some c.in_default-2.is in
    if_ok_then c.duplicate_in_classes.result _ _ (λ v e. e ∙ ap (list_any class_doubles) c.as_slice-3.ensures ∙ sym (none_before _ _ two)) c.duplicate_in_classes.ensures
