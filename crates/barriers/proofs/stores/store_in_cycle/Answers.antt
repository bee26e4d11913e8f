use Rattle.std.proofs.Common.{◌<◌, length, subst, sym}
use Rattle.object_memory.specs.Objects.{Objects, object_slots}
use Rattle.barriers.proofs.UnchangedObjects.{marked_slots}
use Rattle.barriers.proofs.stores.store_in_cycle.Goals as goal

pub set_slot-requires-in-Mark : goal.set_slot-requires-in-Mark
set_slot-requires-in-Mark c =
    subst (λ (x : Objects). c.args.slot < length (object_slots x c.args.object)) (sym c.mark.ensures)
    (marked_slots c.args.heap.now c.args.value c.args.object c.args.slot c.requires.inside)
