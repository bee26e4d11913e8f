use Rattle.std.proofs.Common.{◌≤◌, nat_le, length, List, is_some, is_none, arith, sym, ap, ◌∙◌}
use Rattle.std.specs.List.{sum_by}
use Rattle.cil_model.specs.declared.trees.Class.{Class}
use Rattle.cil_model.specs.declared.limits.TheConstants.{MOST_CLASSES, MOST_STATIC_FIELDS}
use Rattle.metadata.specs.Counts.{static_count}
use Rattle.metadata.proofs.CountLaws.{static_fail, classes_decide}
use Rattle.resolved_code.proofs.ListLaws.Repeats.{if_ok_then}
use Rattle.resolved_code.proofs.ListLaws.Tests.{not_not}
use Rattle.metadata.proofs.limits.exceeded_limit.Goals as goal

pub returns-in-Some : goal.returns-in-Some
returns-in-Some c =
    let t = c.args.names.now.classes.tree.now in
    static_fail t (sym (c.exceeded_by_static_fields.ensures ∙ ap (λ (cs : List Class). nat_le (sum_by (static_count t) cs) MOST_STATIC_FIELDS) c.as_slice-classes.ensures) ∙ ap is_none c.in-Some.is)

pub returns : goal.returns
returns c =
    let t = c.args.names.now.classes.tree.now in
    let few : length t.classes ≤ MOST_CLASSES = let e = ap length c.as_slice-classes.ensures in omega arith in
    if_ok_then c.exceeded_by_classes.result _ _ (λ v e. sym (not_not (is_some v)) ∙
    classes_decide t (is_none v) few (sym c.in_ok-has_few_methods.ensures ∙ c.if-not-branch.false) (sym (c.exceeded_by_static_fields.ensures ∙ ap (λ (cs : List Class). nat_le (sum_by (static_count t) cs) MOST_STATIC_FIELDS) c.as_slice-classes.ensures) ∙ ap is_none c.in_default.is)
    (sym c.in_ok-limit.ensures ∙ ap is_none c.in_default-2.is) e) c.exceeded_by_classes.ensures
