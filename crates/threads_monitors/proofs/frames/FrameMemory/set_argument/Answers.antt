use Rattle.threads_monitors.proofs.Memories.{after_argument}
use Rattle.threads_monitors.proofs.frames.FrameMemory.set_argument.Goals as goal

pub invariant_of-self : goal.invariant_of-self
invariant_of-self c = (after_argument c.self.invariant c.args.index c.args.value (rw (← c.self.view_is) at c.requires)).sound

pub returns : goal.returns
returns c = rw (← c.self.view_is) (after_argument c.self.invariant c.args.index c.args.value (rw (← c.self.view_is) at c.requires)).view
