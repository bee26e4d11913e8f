use Rattle.object_memory.proofs.Counts.{size_decoded}
use Rattle.object_memory.proofs.space.Space.size.Goals as goal

pub returns : goal.returns
returns c = size_decoded c.args.self.now c.args.address c.slots.result c.requires c.slots.ensures.slots
