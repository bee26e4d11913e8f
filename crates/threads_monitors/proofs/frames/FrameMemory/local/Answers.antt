use Rattle.std.proofs.Common.{arith}
use Rattle.threads_monitors.proofs.Memories.{local_at}
use Rattle.threads_monitors.proofs.frames.FrameMemory.local.Goals as goal

pub index-requires : goal.index-requires
index-requires c = omega (arith, (local_at c.self.invariant c.args.index (rw (← c.self.view_is) at c.requires)).inside)

pub returns : goal.returns
returns c = rw (← c.self.view_is) ((local_at c.self.invariant c.args.index (rw (← c.self.view_is) at c.requires)).read c.index.result.now c.index.ensures)
