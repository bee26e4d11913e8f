use Rattle.std.proofs.Math.ListN.{length-set}
use Rattle.std.proofs.Common.{refl}
use Rattle.object_memory.specs.Cells.{store_slot, store_monitor}
use Rattle.object_memory.proofs.Counts.{change-count}
use Rattle.object_memory.proofs.laws.stores_keep_counts.Goals as goal

pub returns-clause-slot : goal.returns-clause-slot
returns-clause-slot c m a b i w = change-count (store_slot i w) (λ x. length-set x.slots i w) m a b

pub returns-clause-monitor : goal.returns-clause-monitor
returns-clause-monitor c m a b x = change-count (store_monitor x) (λ y. refl) m a b
