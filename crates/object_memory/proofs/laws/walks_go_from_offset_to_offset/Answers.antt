use Rattle.std.proofs.Math.ListN.{length-set}
use Rattle.std.proofs.Common.{◌+◌, ap, refl}
use Rattle.object_memory.specs.Cells.{store_slot, store_monitor}
use Rattle.object_memory.proofs.Offsets.{IsOffset-start, IsOffset-last, IsOffset-change, offset-following, offset-last}
use Rattle.object_memory.proofs.laws.walks_go_from_offset_to_offset.Goals as goal

pub returns-clause-start : goal.returns-clause-start
returns-clause-start c s = IsOffset-start s

pub returns-clause-following : goal.returns-clause-following
returns-clause-following c s p d h e = offset-following s p d h e

pub returns-clause-end : goal.returns-clause-end
returns-clause-end c s p h e = offset-last s p h e

pub returns-clause-birth : goal.returns-clause-birth
returns-clause-birth c s d p h = IsOffset-last s d p h

pub returns-clause-slot : goal.returns-clause-slot
returns-clause-slot c s a i w p h = IsOffset-change (store_slot i w) (λ c. ap (λ n. 3 + n) (length-set c.slots i w)) s a p h

pub returns-clause-monitor : goal.returns-clause-monitor
returns-clause-monitor c s a m p h = IsOffset-change (store_monitor m) (λ c. refl) s a p h
