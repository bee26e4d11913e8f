use Rattle.threads_monitors.proofs.Memories.{after_pc}
use Rattle.threads_monitors.proofs.frames.FrameMemory.set_pc.Goals as goal

pub invariant_of-self : goal.invariant_of-self
invariant_of-self c = (after_pc c.self.invariant c.args.pc).sound

pub returns : goal.returns
returns c = rw (← c.self.view_is) (after_pc c.self.invariant c.args.pc).view
