use Rattle.object_memory.specs.Cells.{store_slot, store_monitor}
use Rattle.object_memory.proofs.TwoSpaces.TwoBlocks.{change-own}
use Rattle.object_memory.proofs.laws.stores_are_found.Goals as goal

pub returns-clause-slot : goal.returns-clause-slot
returns-clause-slot c m a x i w e = change-own (store_slot i w) m a x e

pub returns-clause-monitor : goal.returns-clause-monitor
returns-clause-monitor c m a x monitor e = change-own (store_monitor monitor) m a x e
