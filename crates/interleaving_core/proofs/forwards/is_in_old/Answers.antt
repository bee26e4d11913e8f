use Rattle.std.proofs.Common.{sym, ◌∙◌, arith}
use Rattle.object_memory.specs.Cells.{size}
use Rattle.object_memory.specs.Spaces.{cell_at}
use Rattle.object_memory.proofs.TwoSpaces.TwoBlocks.{old_is_cell}
use Rattle.simulation.proofs.collector.Addresses.ObjectsInHeaps.{begun, ends_below, decoded, walk_fits}
use Rattle.interleaving_core.proofs.CollectorTransitions.AddressWalks.{ahead_first, ahead_last, ahead_on, found_here}
use Rattle.interleaving_core.proofs.forwards.is_in_old.Goals as goal

pub loop-object-init : goal.loop-object-init
loop-object-init c = ahead_first c.args.heap.now.spaces.old c.args.address

pub returns-then-eq : goal.returns-then-eq
returns-then-eq c =
    let m = c.args.heap.now.spaces in
    let at = begun m.old c.loop-object.offset c.in-Some.object (sym c.in-Some.ensures) in
    found_here m.old c.in-Some.object c.args.address at.0 at.1 (sym c.eq.ensures ∙ c.if-eq.true)

pub overflow_add-offset : goal.overflow_add-offset
overflow_add-offset c =
    let m = c.args.heap.now.spaces in
    let at = begun m.old c.loop-object.offset c.in-Some.object (sym c.in-Some.ensures) in
    let long = decoded size (cell_at m c.in-Some.object) at.0 c.size-offset.result (old_is_cell m c.in-Some.object at.0 at.1) c.size-offset.ensures in
    record { fits = omega (arith, long, walk_fits m.old c.loop-object.offset c.in-Some.object at.0 c.requires.old at.2 at.1) }

pub loop-object-smaller : goal.loop-object-smaller
loop-object-smaller c =
    let m = c.args.heap.now.spaces in
    let at = begun m.old c.loop-object.offset c.in-Some.object (sym c.in-Some.ensures) in
    let long = decoded size (cell_at m c.in-Some.object) at.0 c.size-offset.result (old_is_cell m c.in-Some.object at.0 at.1) c.size-offset.ensures in
    omega (arith, long, ends_below m.old c.loop-object.offset c.in-Some.object at.0 at.2 at.1)

pub loop-object-preserved : goal.loop-object-preserved
loop-object-preserved c =
    let m = c.args.heap.now.spaces in
    let at = begun m.old c.loop-object.offset c.in-Some.object (sym c.in-Some.ensures) in
    let long = decoded size (cell_at m c.in-Some.object) at.0 c.size-offset.result (old_is_cell m c.in-Some.object at.0 at.1) c.size-offset.ensures in
    rw long
    (ahead_on m.old c.args.address c.loop-object.offset c.loop-object.invariant c.in-Some.object at.0 at.2 at.1 (sym c.eq.ensures ∙ c.if-eq.false))

pub returns : goal.returns
returns c = sym (ahead_last c.args.heap.now.spaces.old c.args.address c.loop-object.offset c.loop-object.invariant (sym c.in_default.ensures))
