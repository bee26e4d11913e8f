use Rattle.std.proofs.Common.{refl}
use Rattle.threads_monitors.specs.Roots.{reference_in, with_reference}
use Rattle.threads_monitors.proofs.ReplacedReferences.{no_value, is_answered, may_be_asked, one_more, all_replaced}
use Rattle.threads_monitors.proofs.frames.replace_in_values.Goals as goal

pub loop-value-init : goal.loop-value-init
loop-value-init g c f all = refl

pub replace_in_value-requires : goal.replace_in_value-requires
replace_in_value-requires g c =
    may_be_asked (with_reference c.requires.0) c.args.values.now c.loop-value.values c.loop-value.value-index no_value c.loop-value-test.true (c.loop-value.invariant c.requires.0 c.requires.1)
    reference_in (goal.F-pre g c.args.change.now) (goal.F-post g c.args.change.now) c.requires.0 c.requires.1

pub loop-value-preserved : goal.loop-value-preserved
loop-value-preserved g c f all =
    let so_far = c.loop-value.invariant f all in
    one_more (with_reference f) c.args.values.now c.loop-value.values c.loop-value.value-index no_value c.loop-value-test.true so_far c.replace_in_value.result
    (c.replace_in_value.ensures f (is_answered (with_reference f) c.args.values.now c.loop-value.values c.loop-value.value-index no_value c.loop-value-test.true so_far
    reference_in (goal.F-pre g c.args.change.now) (goal.F-post g c.args.change.now) f all))

pub returns : goal.returns
returns g c f all = all_replaced (with_reference f) c.args.values.now c.loop-value.values c.loop-value.value-index c.loop-value-test.false (c.loop-value.invariant f all)
