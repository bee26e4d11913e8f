use Rattle.std.proofs.Common.{length, arith, refl, ap, ◌∙◌}
use Rattle.cil_model.specs.declared.phases.Phase.TheVariants.{Mark}
use Rattle.collector.specs.Phases.{is_live}
use Rattle.collector.proofs.Addresses.ObjectsInHeaps.{old_slots, readable}
use Rattle.collector.proofs.Marks.MarkSteps.{none_scanned, object_done, oldest_there, slot_done}
use Rattle.collector.proofs.marker.mark_step.Goals as goal
use Rattle.collector.proofs.ThreadReferences.LiveValues.{live_is_there}

pub returns-in_default : goal.returns-in_default
returns-in_default c = λ tree layout_is. none_scanned tree c.args.progress.now c.args.heap.now c.in_default.ensures

pub scan_slot-requires-clause-readable : goal.scan_slot-requires-clause-readable
scan_slot-requires-clause-readable c =
    let o = c.args.heap.now in
    let sound = c.requires.sound in
    let oldest = oldest_there o.spaces c.in-Some.oldest (sound.marks refl).listed c.in-Some.ensures in
    let count = c.slots.ensures ∙ ap length (old_slots o.spaces c.in-Some.oldest oldest.0 oldest.1) in
    readable c.args.layout.now c.requires.tree o (is_live Mark o.spaces) c.requires.layout_is c.in-Some.oldest oldest.0 c.args.progress.now.scanned_slots oldest.1 (omega (arith, count, c.if-slot-slots.true))
    (live_is_there Mark o) (sound.copies.old_references c.in-Some.oldest oldest.0 oldest.1 refl)

pub returns-then-slot-slots : goal.returns-then-slot-slots
returns-then-slot-slots c = λ tree layout_is.
    let o = c.args.heap.now in
    let p = c.args.progress.now in
    let oldest = oldest_there o.spaces c.in-Some.oldest (c.requires.sound.marks refl).listed c.in-Some.ensures in
    let count = c.slots.ensures ∙ ap length (old_slots o.spaces c.in-Some.oldest oldest.0 oldest.1) in
    rw (c.scan_slot.ensures tree layout_is oldest.0 oldest.1) (slot_done tree p o c.in-Some.oldest oldest.0 oldest.1 c.in-Some.ensures (omega (arith, count, c.if-slot-slots.true)))

pub returns-else-slot-slots : goal.returns-else-slot-slots
returns-else-slot-slots c = λ tree layout_is.
    let o = c.args.heap.now in
    let p = c.args.progress.now in
    let oldest = oldest_there o.spaces c.in-Some.oldest (c.requires.sound.marks refl).listed c.in-Some.ensures in
    let count = c.slots.ensures ∙ ap length (old_slots o.spaces c.in-Some.oldest oldest.0 oldest.1) in
    rw c.take_grey.ensures (object_done tree p o c.in-Some.oldest oldest.0 oldest.1 c.in-Some.ensures (omega (arith, count, c.if-slot-slots.false)))
