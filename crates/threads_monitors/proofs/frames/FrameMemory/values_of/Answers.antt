use Rattle.threads_monitors.proofs.Memories.{part_at, part_within}
use Rattle.threads_monitors.proofs.frames.FrameMemory.values_of.Goals as goal

pub part-requires : goal.part-requires
part-requires c =
    let few = rw (← c.self.view_is) at c.requires in
    let within = part_within c.self.invariant c.args.frame few in
    let start = rw (← c.self.view_is) at c.activation.ensures.begins in
    let end = rw (← c.self.view_is) at c.end_of.ensures in
    rw (start, end, c.deref.ensures.value) (record { order = within.0; within = within.1 })

pub returns : goal.returns
returns c =
    let few = rw (← c.self.view_is) at c.requires in
    let start = rw (← c.self.view_is) at c.activation.ensures.begins in
    let end = rw (← c.self.view_is) at c.end_of.ensures in
    rw (c.part.ensures, start, end, c.deref.ensures.value, ← c.self.view_is) (part_at c.self.invariant c.args.frame few)
