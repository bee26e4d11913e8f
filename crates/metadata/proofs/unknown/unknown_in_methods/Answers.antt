use Rattle.std.proofs.Common.{Bool, is_none, refl, sym, ap, ◌∙◌, arith, Bor}
use Rattle.std.specs.List.{list_all}
use Rattle.cil_model.specs.declared.trees.Method.{Method}
use Rattle.metadata.specs.NameChecks.{knows_names}
use Rattle.metadata.proofs.WalkLaws.{all_fail_in, all_after_in, none_left_in}
use Rattle.metadata.proofs.unknown.unknown_in_methods.Goals as goal

pub loop-index-init : goal.loop-index-init
loop-index-init c = refl

pub loop-index-preserved : goal.loop-index-preserved
loop-index-preserved c =
    let t = c.args.names.now.classes.tree.now in
    let p : Method → Bool = knows_names t in
    all_after_in (λ (m : Bor Method). m.now) p c.args.methods.now c.loop-index.index c.index-methods-index.result (omega arith) c.index-methods-index.is (sym c.in_ok-unknown.ensures ∙ ap is_none c.in_default.is) ∙ c.loop-index.invariant

pub returns-in-Some : goal.returns-in-Some
returns-in-Some c =
    let t = c.args.names.now.classes.tree.now in
    let p : Method → Bool = knows_names t in
    sym (all_fail_in (λ (m : Bor Method). m.now) p c.args.methods.now c.loop-index.index c.index-methods-index.result (omega arith) c.index-methods-index.is (sym c.in_ok-unknown.ensures ∙ ap is_none c.in-Some.is)) ∙ c.loop-index.invariant

pub returns : goal.returns
returns c =
    let t = c.args.names.now.classes.tree.now in
    let p : Method → Bool = knows_names t in
    sym (none_left_in (λ (m : Bor Method). m.now) (list_all p) c.args.methods.now c.loop-index.index (omega arith)) ∙ c.loop-index.invariant
