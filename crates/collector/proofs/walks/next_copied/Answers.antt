use Rattle.std.proofs.Common.{sym, ap, ◌∙◌, arith}
use Rattle.std.specs.Prelude.{is_some}
use Rattle.object_memory.specs.Cells.{Cell, size}
use Rattle.object_memory.specs.Spaces.{cell_at, has_other}
use Rattle.object_memory.proofs.TwoSpaces.TwoBlocks.{old_is_cell}
use Rattle.collector.proofs.Addresses.ObjectsInHeaps.{begun, ends_below, decoded, walk_fits}
use Rattle.collector.proofs.BlockWalks.Walks.{found_none, found_now, passed}
use Rattle.collector.proofs.walks.next_copied.Goals as goal

pub returns-in-Some-other-clause-found : goal.returns-in-Some-other-clause-found
returns-in-Some-other-clause-found c =
    let m = c.args.heap.now.spaces in
    let at = begun m.old c.loop-object.at c.in-Some.object (sym c.in-Some.ensures) in
    let other = decoded (λ (x : Cell). x.other) (cell_at m c.in-Some.object) at.0 c.other.result (old_is_cell m c.in-Some.object at.0 at.1) c.other.ensures in
    found_now has_other m.old c.args.offset c.loop-object.at c.loop-object.invariant c.in-Some.object at.0 at.2 at.1 (ap is_some (sym other ∙ c.in-Some-other.is))

pub overflow_add-at : goal.overflow_add-at
overflow_add-at c =
    let m = c.args.heap.now.spaces in
    let at = begun m.old c.loop-object.at c.in-Some.object (sym c.in-Some.ensures) in
    let long = decoded size (cell_at m c.in-Some.object) at.0 c.size-at.result (old_is_cell m c.in-Some.object at.0 at.1) c.size-at.ensures in
    record { fits = omega (arith, long, walk_fits m.old c.loop-object.at c.in-Some.object at.0 c.requires.spaces.old at.2 at.1) }

pub loop-object-smaller : goal.loop-object-smaller
loop-object-smaller c =
    let m = c.args.heap.now.spaces in
    let at = begun m.old c.loop-object.at c.in-Some.object (sym c.in-Some.ensures) in
    let long = decoded size (cell_at m c.in-Some.object) at.0 c.size-at.result (old_is_cell m c.in-Some.object at.0 at.1) c.size-at.ensures in
    omega (arith, long, ends_below m.old c.loop-object.at c.in-Some.object at.0 at.2 at.1)

pub loop-object-preserved : goal.loop-object-preserved
loop-object-preserved c =
    let m = c.args.heap.now.spaces in
    let at = begun m.old c.loop-object.at c.in-Some.object (sym c.in-Some.ensures) in
    let other = decoded (λ (x : Cell). x.other) (cell_at m c.in-Some.object) at.0 c.other.result (old_is_cell m c.in-Some.object at.0 at.1) c.other.ensures in
    let long = decoded size (cell_at m c.in-Some.object) at.0 c.size-at.result (old_is_cell m c.in-Some.object at.0 at.1) c.size-at.ensures in
    rw long
    (passed has_other m.old c.args.offset c.loop-object.at c.loop-object.invariant c.in-Some.object at.0 at.2 at.1 (ap is_some (sym other ∙ c.in_default-other.is)))

pub returns-clause-found : goal.returns-clause-found
returns-clause-found c = found_none has_other c.args.heap.now.spaces.old c.args.offset c.loop-object.at c.loop-object.invariant (sym c.in_default.ensures)
