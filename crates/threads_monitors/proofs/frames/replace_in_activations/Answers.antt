use Rattle.std.proofs.Common.{refl}
use Rattle.threads_monitors.specs.Activations.{with_constructed}
use Rattle.threads_monitors.proofs.ReplacedReferences.{no_activation, is_answered, may_be_asked, one_more, all_replaced}
use Rattle.threads_monitors.proofs.frames.replace_in_activations.Goals as goal

pub loop-activation-init : goal.loop-activation-init
loop-activation-init g c f all = refl

pub replace_in_activation-requires : goal.replace_in_activation-requires
replace_in_activation-requires g c =
    may_be_asked (with_constructed c.requires.0) c.args.activations.now c.loop-activation.activations c.loop-activation.activation-index no_activation c.loop-activation-test.true (c.loop-activation.invariant c.requires.0 c.requires.1)
    (λ x. x.constructed) (goal.F-pre g c.args.change.now) (goal.F-post g c.args.change.now) c.requires.0 c.requires.1

pub loop-activation-preserved : goal.loop-activation-preserved
loop-activation-preserved g c f all =
    let so_far = c.loop-activation.invariant f all in
    one_more (with_constructed f) c.args.activations.now c.loop-activation.activations c.loop-activation.activation-index no_activation c.loop-activation-test.true so_far c.replace_in_activation.result
    (c.replace_in_activation.ensures f (is_answered (with_constructed f) c.args.activations.now c.loop-activation.activations c.loop-activation.activation-index no_activation c.loop-activation-test.true so_far
    (λ x. x.constructed) (goal.F-pre g c.args.change.now) (goal.F-post g c.args.change.now) f all))

pub returns : goal.returns
returns g c f all = all_replaced (with_constructed f) c.args.activations.now c.loop-activation.activations c.loop-activation.activation-index c.loop-activation-test.false (c.loop-activation.invariant f all)
