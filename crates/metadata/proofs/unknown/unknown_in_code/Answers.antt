use Rattle.std.proofs.Common.{Bool, is_none, refl, sym, ap, ◌∙◌, arith}
use Rattle.std.specs.List.{list_all}
use Rattle.std.proofs.lemmas.List.{at_drop_all}
use Rattle.cil_model.specs.declared.trees.Class.{Class}
use Rattle.cil_model.specs.Declarations.{method_members}
use Rattle.metadata.specs.NameChecks.{knows_names}
use Rattle.resolved_code.proofs.ListLaws.Tests.{all_after}
use Rattle.metadata.proofs.WalkLaws.{all_fail}
use Rattle.metadata.proofs.unknown.unknown_in_code.Goals as goal

pub loop-class-init : goal.loop-class-init
loop-class-init c = refl

pub loop-class-preserved : goal.loop-class-preserved
loop-class-preserved c =
    let t = c.args.names.now.classes.tree.now in
    let p : Class → Bool = λ k. list_all (knows_names t) (method_members k) in
    all_after p c.as_slice-declared-items.result.now c.loop-class.class c.declared-item.result (omega arith) c.declared-item.is (sym c.in_ok-unknown.ensures ∙ ap is_none c.in_default.is) ∙ c.loop-class.invariant

pub returns-in-Some : goal.returns-in-Some
returns-in-Some c =
    let t = c.args.names.now.classes.tree.now in
    let p : Class → Bool = λ k. list_all (knows_names t) (method_members k) in
    sym (all_fail p c.as_slice-declared-items.result.now c.loop-class.class c.declared-item.result (omega arith) c.declared-item.is (sym c.in_ok-unknown.ensures ∙ ap is_none c.in-Some.is)) ∙ c.loop-class.invariant ∙ ap (list_all p) c.as_slice-declared-items.ensures

pub returns : goal.returns
returns c =
    let t = c.args.names.now.classes.tree.now in
    let p : Class → Bool = λ k. list_all (knows_names t) (method_members k) in
    sym (at_drop_all (list_all p) c.as_slice-declared-items.result.now c.loop-class.class (omega arith)) ∙ c.loop-class.invariant ∙ ap (list_all p) c.as_slice-declared-items.ensures
