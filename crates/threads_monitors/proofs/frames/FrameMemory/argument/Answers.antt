use Rattle.std.proofs.Common.{arith}
use Rattle.threads_monitors.proofs.Memories.{argument_at}
use Rattle.threads_monitors.proofs.frames.FrameMemory.argument.Goals as goal

pub index-requires : goal.index-requires
index-requires c = omega (arith, (argument_at c.self.invariant c.args.index (rw (← c.self.view_is) at c.requires)).inside)

pub returns : goal.returns
returns c = rw (← c.self.view_is) ((argument_at c.self.invariant c.args.index (rw (← c.self.view_is) at c.requires)).read c.index.result.now c.index.ensures)
