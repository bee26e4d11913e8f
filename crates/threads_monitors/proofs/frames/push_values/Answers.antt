use Rattle.std.proofs.Common.{arith, ◌∙◌}
use Rattle.threads_monitors.proofs.ValueStacks.{one_more}
use Rattle.threads_monitors.proofs.frames.push_values.Goals as goal

pub loop-value-preserved : goal.loop-value-preserved
loop-value-preserved c =
    let before = c.loop-value.invariant in (
      one_more c.args.values.now.items _ _ c.args.more.now c.loop-value.value-index _ c.loop-value-test.true before.0 c.push_reserved.ensures.items,
      omega (arith, c.push_reserved.ensures.len, before.1),
      c.push_reserved.ensures.capacity ∙ before.2,
    )
