use Rattle.std.proofs.Common.{is_none, refl, sym, ap, ◌∙◌, arith}
use Rattle.std.specs.List.{list_all}
use Rattle.std.proofs.lemmas.List.{at_drop_all}
use Rattle.cil_model.specs.Legality.{kinds_fit}
use Rattle.resolved_code.proofs.ListLaws.Tests.{all_after}
use Rattle.metadata.proofs.WalkLaws.{all_fail}
use Rattle.metadata.proofs.kinds.first_kind_mismatch.Goals as goal

pub loop-class-init : goal.loop-class-init
loop-class-init c = refl

pub loop-class-preserved : goal.loop-class-preserved
loop-class-preserved c =
    all_after (kinds_fit c.args.slots.now.methods.now.names.now.classes.tree.now) c.args.classes.now c.loop-class.class c.index-classes-class.result (omega arith) c.index-classes-class.is
    (sym c.in_ok-fault.ensures ∙ ap is_none c.in_default.is) ∙ c.loop-class.invariant

pub returns-in-Some : goal.returns-in-Some
returns-in-Some c =
    sym (all_fail (kinds_fit c.args.slots.now.methods.now.names.now.classes.tree.now) c.args.classes.now c.loop-class.class c.index-classes-class.result (omega arith) c.index-classes-class.is
    (sym c.in_ok-fault.ensures ∙ ap is_none c.in-Some.is)) ∙ c.loop-class.invariant

pub returns : goal.returns
returns c = sym (at_drop_all (list_all (kinds_fit c.args.slots.now.methods.now.names.now.classes.tree.now)) c.args.classes.now c.loop-class.class (omega arith)) ∙ c.loop-class.invariant
