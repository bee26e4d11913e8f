use Rattle.std.proofs.Common.{◌++◌, ◌∙◌, ap, sym}
use Rattle.std.specs.List.{flat_map}
use Rattle.std.proofs.lemmas.List.{take_all}
use Rattle.std.proofs.lemmas.Result.{IfOk-from_err}
use Rattle.cil_model.specs.declared.trees.Class.{Class}
use Rattle.simulation.proofs.name_tables.Lists.{flat_map-take_more}
use Rattle.interleaving_core.specs.Statics.{declared_fields, zeros_of}
use Rattle.interleaving_core.proofs.initial_states.initial_statics.Goals as goal

pub returns-in_err-push_statics : goal.returns-in_err-push_statics
returns-in_err-push_statics c = IfOk-from_err c.from_residual.result _ c.from_residual.ensures.0

pub loop-class-init : goal.loop-class-init
loop-class-init c = c.new-statics.ensures.items

pub loop-class-preserved : goal.loop-class-preserved
loop-class-preserved c =
    let zeros = λ (class : Class). zeros_of (declared_fields class) in
    c.in_ok-push_statics.ensures ∙ ap (λ values. values ++ zeros c.class-item.result) c.loop-class.invariant
    ∙ sym (flat_map-take_more zeros c.args.classes.now c.loop-class.class-index c.class-item.result c.loop-class-test.true c.class-item.is)

pub returns : goal.returns
returns c = c.loop-class.invariant ∙ ap (flat_map (λ (class : Class). zeros_of (declared_fields class))) (take_all c.loop-class.class-index c.args.classes.now c.loop-class-test.false)
