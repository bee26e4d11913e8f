use Rattle.std.proofs.Common.{Bool, is_none, refl, sym, ap, ◌∙◌, arith}
use Rattle.std.specs.List.{list_all}
use Rattle.std.proofs.lemmas.List.{at_drop_all}
use Rattle.cil_model.specs.declared.trees.Class.{Class}
use Rattle.cil_model.specs.Legality.{is_small_class}
use Rattle.resolved_code.proofs.ListLaws.Tests.{all_after}
use Rattle.metadata.proofs.WalkLaws.{all_fail}
use Rattle.metadata.proofs.limits.exceeded_by_classes.Goals as goal

pub loop-number-init : goal.loop-number-init
loop-number-init c = refl

pub loop-number-preserved : goal.loop-number-preserved
loop-number-preserved c =
    let t = c.args.names.now.classes.tree.now in
    let p : Class → Bool = is_small_class t in
    all_after p c.as_slice-class-items.result.now c.loop-number.number c.class-item.result (omega arith) c.class-item.is (sym c.in_ok-limit.ensures ∙ ap is_none c.in_default.is) ∙ c.loop-number.invariant

pub returns-in-Some : goal.returns-in-Some
returns-in-Some c =
    let t = c.args.names.now.classes.tree.now in
    let p : Class → Bool = is_small_class t in
    sym (all_fail p c.as_slice-class-items.result.now c.loop-number.number c.class-item.result (omega arith) c.class-item.is (sym c.in_ok-limit.ensures ∙ ap is_none c.in-Some.is)) ∙ c.loop-number.invariant ∙ ap (list_all p) c.as_slice-class-items.ensures

pub returns : goal.returns
returns c =
    let t = c.args.names.now.classes.tree.now in
    let p : Class → Bool = is_small_class t in
    sym (at_drop_all (list_all p) c.as_slice-class-items.result.now c.loop-number.number (omega arith)) ∙ c.loop-number.invariant ∙ ap (list_all p) c.as_slice-class-items.ensures
