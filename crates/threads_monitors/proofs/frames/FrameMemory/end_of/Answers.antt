use Rattle.std.proofs.Common.{arith, ◌∙◌, ◌≡◌, ◌<◌, ◌+◌, length}
use Rattle.threads_monitors.proofs.Memories.{ends_at, count_below}
use Rattle.threads_monitors.proofs.frames.FrameMemory.end_of.Goals as goal

pub activation-requires : goal.activation-requires
activation-requires c =
    let less : c.args.frame < length c.self.inside.below.items = omega (arith, c.if-frame-len.true, c.len.ensures) in
    rw (← c.self.view_is) (omega (arith, less, count_below c.self.invariant))

pub returns-else-frame-len : goal.returns-else-frame-len
returns-else-frame-len c =
    let few = rw (← c.self.view_is) at c.requires in
    let last : c.args.frame + 1 ≡ length c.self.inside.below.items + 1 = omega (arith, few, c.if-frame-len.false, c.len.ensures, count_below c.self.invariant) in
    let long : c.len-else-frame-len.result ≡ length c.self.inside.values.items = omega (arith, c.len-else-frame-len.ensures) in
    rw (← c.self.view_is) (long ∙ ends_at c.self.invariant (c.args.frame + 1) last)
