use Rattle.std.proofs.Common.{arith}
use Rattle.threads_monitors.proofs.Memories.{below_at, last_at, count_below}
use Rattle.threads_monitors.proofs.frames.FrameMemory.activation.Goals as goal

pub returns-in-Some : goal.returns-in-Some
returns-in-Some c =
    let found = rw c.deref.ensures.value at c.in-Some.ensures.lookup in
    let there = below_at c.self.invariant c.args.frame c.in-Some.activation.now found.3.0 found.1 in
    rw (← c.self.view_is) (record { begins = there.begins; constructed = there.constructed })

pub returns-in-None : goal.returns-in-None
returns-in-None c =
    let past = rw c.deref.ensures.value at c.in-None.ensures.lookup in
    let few = rw (← c.self.view_is) at c.requires in
    let count = count_below c.self.invariant in
    let there = last_at c.self.invariant c.args.frame (omega (arith, past.3, few, count)) in
    rw (← c.self.view_is) (record { begins = there.begins; constructed = there.constructed })
