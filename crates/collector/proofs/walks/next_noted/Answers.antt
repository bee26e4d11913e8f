use Rattle.std.proofs.Common.{sym, ◌∙◌, arith}
use Rattle.object_memory.specs.Cells.{size}
use Rattle.object_memory.specs.Spaces.{cell_at, is_noted}
use Rattle.object_memory.proofs.TwoSpaces.TwoBlocks.{new_is_cell}
use Rattle.collector.proofs.Addresses.ObjectsInHeaps.{begun, ends_below, decoded, walk_fits}
use Rattle.collector.proofs.BlockWalks.Walks.{found_none, found_now, passed}
use Rattle.collector.proofs.walks.next_noted.Goals as goal

pub returns-then-is_noted-clause-found : goal.returns-then-is_noted-clause-found
returns-then-is_noted-clause-found c =
    let m = c.args.heap.now.spaces in
    let at = begun m.new c.loop-object.at c.in-Some.object (sym c.in-Some.ensures) in
    found_now is_noted m.new c.args.offset c.loop-object.at c.loop-object.invariant c.in-Some.object at.0 at.2 at.1 (sym (c.is_noted.ensures at.0 at.1) ∙ c.if-is_noted.true)

pub overflow_add-at : goal.overflow_add-at
overflow_add-at c =
    let m = c.args.heap.now.spaces in
    let at = begun m.new c.loop-object.at c.in-Some.object (sym c.in-Some.ensures) in
    let long = decoded size (cell_at m c.in-Some.object) at.0 c.size-at.result (new_is_cell m c.requires.spaces c.in-Some.object at.0 at.1) c.size-at.ensures in
    record { fits = omega (arith, long, walk_fits m.new c.loop-object.at c.in-Some.object at.0 c.requires.spaces.new at.2 at.1) }

pub loop-object-smaller : goal.loop-object-smaller
loop-object-smaller c =
    let m = c.args.heap.now.spaces in
    let at = begun m.new c.loop-object.at c.in-Some.object (sym c.in-Some.ensures) in
    let long = decoded size (cell_at m c.in-Some.object) at.0 c.size-at.result (new_is_cell m c.requires.spaces c.in-Some.object at.0 at.1) c.size-at.ensures in
    omega (arith, long, ends_below m.new c.loop-object.at c.in-Some.object at.0 at.2 at.1)

pub loop-object-preserved : goal.loop-object-preserved
loop-object-preserved c =
    let m = c.args.heap.now.spaces in
    let at = begun m.new c.loop-object.at c.in-Some.object (sym c.in-Some.ensures) in
    let long = decoded size (cell_at m c.in-Some.object) at.0 c.size-at.result (new_is_cell m c.requires.spaces c.in-Some.object at.0 at.1) c.size-at.ensures in
    rw long
    (passed is_noted m.new c.args.offset c.loop-object.at c.loop-object.invariant c.in-Some.object at.0 at.2 at.1 (sym (c.is_noted.ensures at.0 at.1) ∙ c.if-is_noted.false))

pub returns-clause-found : goal.returns-clause-found
returns-clause-found c = found_none is_noted c.args.heap.now.spaces.new c.args.offset c.loop-object.at c.loop-object.invariant (sym c.in_default.ensures)
