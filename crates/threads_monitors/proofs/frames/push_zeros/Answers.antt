use Rattle.std.proofs.Common.{arith, ◌∙◌}
use Rattle.threads_monitors.specs.Frames.{zero_value}
use Rattle.threads_monitors.proofs.ValueStacks.{one_made_more}
use Rattle.threads_monitors.proofs.frames.push_zeros.Goals as goal

pub loop-kind-preserved : goal.loop-kind-preserved
loop-kind-preserved c =
    let before = c.loop-kind.invariant in (
      one_made_more zero_value c.args.values.now.items _ _ c.args.kinds.now c.loop-kind.kind-index _ _ c.loop-kind-test.true before.0 c.zero_value.ensures c.push_reserved.ensures.items,
      omega (arith, c.push_reserved.ensures.len, before.1),
      c.push_reserved.ensures.capacity ∙ before.2,
    )
