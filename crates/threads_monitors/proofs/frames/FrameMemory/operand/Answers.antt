use Rattle.std.proofs.Common.{arith, ◌≡◌, length}
use Rattle.threads_monitors.proofs.Memories.{operand_at}
use Rattle.threads_monitors.proofs.frames.FrameMemory.operand.Goals as goal

pub index-requires : goal.index-requires
index-requires c =
    let long : c.len.result ≡ length c.self.inside.values.items = omega (arith, c.len.ensures) in
    omega (arith, (operand_at c.self.invariant c.args.below (rw (← c.self.view_is) at c.requires)).inside, long)

pub returns : goal.returns
returns c =
    let long : c.len.result ≡ length c.self.inside.values.items = omega (arith, c.len.ensures) in
    rw (← c.self.view_is) ((operand_at c.self.invariant c.args.below (rw (← c.self.view_is) at c.requires)).read c.index.result.now (rw long at c.index.ensures))
