use Rattle.std.proofs.Common.{arith, inr, refl, sym, ◌∙◌}
use Rattle.object_memory.specs.Cells.{size}
use Rattle.object_memory.specs.Spaces.{cell_at}
use Rattle.object_memory.proofs.TwoSpaces.TwoBlocks.{old_is_cell}
use Rattle.collector.proofs.Addresses.ObjectsInHeaps.{begun, decoded, walk_fits}
use Rattle.collector.proofs.Copies.CopiesStepByStep.{room_for_shell}
use Rattle.collector.proofs.copier.shell_step.Goals as goal

pub overflow_add-progress : goal.overflow_add-progress
overflow_add-progress c =
    let m = c.args.heap.now.spaces in
    let at = begun m.old c.args.progress.now.cursor c.in-Some.object (sym c.in-Some.ensures) in
    let long = decoded size (cell_at m c.in-Some.object) at.0 c.size.result (old_is_cell m c.in-Some.object at.0 at.1) c.size.ensures in
    let fits = walk_fits m.old c.args.progress.now.cursor c.in-Some.object at.0 c.requires.sound.blocks.spaces.old at.2 at.1 in
    record { fits = omega (arith, long, fits) }

pub shell-requires-clause-room : goal.shell-requires-clause-room
shell-requires-clause-room c =
    let m = c.args.heap.now.spaces in
    let at = begun m.old c.args.progress.now.cursor c.in-Some.object (sym c.in-Some.ensures) in
    room_for_shell m c.requires.sound.blocks.spaces (c.requires.sound.copies.room (inr refl)) c.in-Some.object at.0 at.1 (sym (c.needs_copy.ensures at.0 at.1) ∙ c.if-needs_copy.true)
