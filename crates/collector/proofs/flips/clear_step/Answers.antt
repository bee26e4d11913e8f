use Rattle.std.proofs.Common.{◌+◌, ap, arith}
use Rattle.object_memory.specs.Cells.{size}
use Rattle.object_memory.specs.Spaces.{cell_at, found_in, is_noted}
use Rattle.object_memory.proofs.TwoSpaces.TwoBlocks.{new_is_cell}
use Rattle.collector.specs.declared.walks.FoundObject.{FoundObject}
use Rattle.collector.proofs.Addresses.ObjectsInHeaps.{cell_there, ends_within, decoded}
use Rattle.collector.proofs.BlockWalks.Walks.{cleared_done, found_is}
use Rattle.collector.proofs.flips.clear_step.Goals as goal

pub overflow_add-progress : goal.overflow_add-progress
overflow_add-progress c =
    let m = c.args.heap.now.spaces in
    let spaces = c.requires.sound.blocks.spaces in
    let cell = cell_there m.new c.in-Some.next.object c.in-Some.ensures.there in
    let long = decoded size (cell_at m c.in-Some.next.object) cell.0 c.size.result (new_is_cell m spaces c.in-Some.next.object cell.0 cell.1) c.size.ensures in
    let offset = ap (λ (f : FoundObject). f.offset) (found_is m.new c.in-Some.next (found_in is_noted m.new (m.new.start + c.args.progress.now.cursor)) c.in-Some.ensures.found) in
    record { fits = omega (arith, long, offset, ends_within m.new c.in-Some.next.object cell.0 spaces.new cell.1) }

pub returns : goal.returns
returns c =
    let m = c.args.heap.now.spaces in
    let cell = cell_there m.new c.in-Some.next.object c.in-Some.ensures.there in
    let long = decoded size (cell_at m c.in-Some.next.object) cell.0 c.size.result (new_is_cell m c.requires.sound.blocks.spaces c.in-Some.next.object cell.0 cell.1) c.size.ensures in
    rw (c.clear.ensures, long) (cleared_done c.args.progress.now c.args.heap.now c.in-Some.next cell.0 c.in-Some.ensures.found cell.1)
