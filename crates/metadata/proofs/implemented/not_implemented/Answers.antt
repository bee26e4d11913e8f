use Rattle.std.proofs.Common.{is_none, not, refl, sym, ap, ◌∙◌, arith}
use Rattle.std.specs.List.{list_all}
use Rattle.std.proofs.lemmas.List.{at_drop_all}
use Rattle.cil_model.specs.Legality.{implements_all}
use Rattle.resolved_code.proofs.ListLaws.Tests.{all_after}
use Rattle.metadata.proofs.WalkLaws.{all_fail}
use Rattle.metadata.proofs.implemented.not_implemented.Goals as goal

pub loop-class-init : goal.loop-class-init
loop-class-init c = refl

pub loop-class-preserved : goal.loop-class-preserved
loop-class-preserved c =
    all_after (implements_all c.args.methods.now.names.now.classes.tree.now) c.as_slice-classes.result.now c.loop-class.class c.index-classes-class.result (omega arith) c.index-classes-class.is
    (sym c.absent_in_class.ensures ∙ ap is_none c.in_default.is) ∙ c.loop-class.invariant

pub returns-in-Some : goal.returns-in-Some
returns-in-Some c =
    let t = c.args.methods.now.names.now.classes.tree.now in
    ap not (sym (all_fail (implements_all t) c.as_slice-classes.result.now c.loop-class.class c.index-classes-class.result (omega arith) c.index-classes-class.is
    (sym c.absent_in_class.ensures ∙ ap is_none c.in-Some.is)) ∙ c.loop-class.invariant ∙ ap (list_all (implements_all t)) c.as_slice-classes.ensures)

pub returns : goal.returns
returns c =
    let t = c.args.methods.now.names.now.classes.tree.now in
    ap not (sym (at_drop_all (list_all (implements_all t)) c.as_slice-classes.result.now c.loop-class.class (omega arith)) ∙ c.loop-class.invariant ∙ ap (list_all (implements_all t)) c.as_slice-classes.ensures)
