use Rattle.object_memory.proofs.HeldBirths.{listed_in_cycle}
use Rattle.object_memory.proofs.heap.Heap.birth_in_cycle.Goals as goal

pub birth_in-requires : goal.birth_in-requires
birth_in-requires c = λ is. c.requires (listed_in_cycle c.args.phase c.is_open.result (rw (← c.of.ensures) is))
