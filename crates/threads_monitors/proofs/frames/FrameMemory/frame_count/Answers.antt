use Rattle.std.proofs.Common.{arith, ◌≡◌, length}
use Rattle.threads_monitors.proofs.Memories.{count_below}
use Rattle.threads_monitors.proofs.frames.FrameMemory.frame_count.Goals as goal

pub returns : goal.returns
returns c =
    let same : c.len.result ≡ length c.self.inside.below.items = omega (arith, c.len.ensures) in
    rw (← c.self.view_is, count_below c.self.invariant)
    (omega (arith, same))
