use Rattle.std.proofs.Common.{refl}
use Rattle.object_memory.specs.Cells.{store_slot, store_monitor}
use Rattle.object_memory.proofs.TwoSpaces.TwoBlocks.{change-other, slot_keeps}
use Rattle.object_memory.proofs.laws.stores_keep_others.Goals as goal

pub returns-clause-slot : goal.returns-clause-slot
returns-clause-slot c m a b i w ne = change-other (store_slot i w) (slot_keeps i w) m a b ne

pub returns-clause-monitor : goal.returns-clause-monitor
returns-clause-monitor c m a b x ne = change-other (store_monitor x) (λ y. refl) m a b ne
