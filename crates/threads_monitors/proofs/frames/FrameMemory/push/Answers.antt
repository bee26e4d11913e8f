use Rattle.std.proofs.Common.{arith}
use Rattle.threads_monitors.proofs.Memories.{has_room, after_push}
use Rattle.threads_monitors.proofs.frames.FrameMemory.push.Goals as goal

pub push_reserved-requires : goal.push_reserved-requires
push_reserved-requires c =
    let given = rw (← c.self.view_is) at c.requires in
    omega (arith, has_room c.self.invariant 1 (omega (arith, given)))

pub invariant_of-self : goal.invariant_of-self
invariant_of-self c = rw (c.push_reserved.ensures.items, c.push_reserved.ensures.capacity) (after_push c.self.invariant c.args.value (rw (← c.self.view_is) at c.requires)).sound

pub returns : goal.returns
returns c = rw (← c.self.view_is, c.push_reserved.ensures.items) (after_push c.self.invariant c.args.value (rw (← c.self.view_is) at c.requires)).view
