use Rattle.std.proofs.Common.{arith, ap}
use Rattle.object_memory.specs.Cells.{size}
use Rattle.object_memory.specs.Spaces.{cell_at}
use Rattle.object_memory.proofs.TwoSpaces.TwoBlocks.{old_is_cell}
use Rattle.collector.specs.declared.walks.FoundObject.{FoundObject}
use Rattle.collector.proofs.Addresses.ObjectsInHeaps.{decoded, cell_there, ends_within}
use Rattle.collector.proofs.copier.pass_word.Goals as goal

pub overflow_add-progress-else-progress-slots : goal.overflow_add-progress-else-progress-slots
overflow_add-progress-else-progress-slots c =
    let m = c.args.heap.now.spaces in
    let at = cell_there m.old c.args.next.object c.requires.there in
    let long = decoded size (cell_at m c.args.next.object) at.0 c.size.result (old_is_cell m c.args.next.object at.0 at.1) c.size.ensures in
    let offset = ap (λ (f : FoundObject). f.offset) c.requires.offset in
    record { fits = omega (arith, long, offset, ends_within m.old c.args.next.object at.0 c.requires.spaces.old at.1) }
