use Rattle.barriers.proofs.UnchangedObjects.{other_slot}
use Rattle.std.proofs.Common.{◌∙◌, ap}
use Rattle.std.specs.Prelude.{Some}
use Rattle.barriers.proofs.stores.set_both_slots.Goals as goal

pub set_slot-requires-in-Some : goal.set_slot-requires-in-Some
set_slot-requires-in-Some c =
    other_slot c.args.heap.now c.set_slot.new.self c.args.object c.in-Some.other c.args.slot c.args.old c.set_slot.ensures c.requires.copies (c.other-copy.ensures ∙ ap Some c.in-Some.is)

pub set_slot-requires-in-Some-copy : goal.set_slot-requires-in-Some-copy
set_slot-requires-in-Some-copy c =
    other_slot c.args.heap.now c.set_slot-else-is_old.new.self c.args.object c.in-Some-copy.other c.args.slot c.args.new c.set_slot-else-is_old.ensures c.requires.copies (c.other-copy.ensures ∙ ap Some c.in-Some-copy.is)
