use Rattle.std.proofs.Common.{◌∙◌, ap}
use Rattle.std.specs.Prelude.{Some, None}
use Rattle.object_memory.specs.Objects.{object_cell}
use Rattle.barriers.proofs.UnchangedObjects.{both_stored, one_stored, other_decoded, other_there}
use Rattle.barriers.proofs.stores.set_both_monitors.Goals as goal

pub set_cell_monitor-requires-in-Some : goal.set_cell_monitor-requires-in-Some
set_cell_monitor-requires-in-Some c =
    other_there c.args.heap.now c.set_cell_monitor.new.self c.args.object c.in-Some.other c.args.monitor c.set_cell_monitor.ensures c.requires.copies (c.other-copy.ensures ∙ ap Some c.in-Some.is)

pub returns-in-Some : goal.returns-in-Some
returns-in-Some c =
    let other = other_decoded (object_cell c.args.heap.now c.args.object) (Some c.in-Some.other) (c.other-copy.ensures ∙ ap Some c.in-Some.is) in
    both_stored c.args.heap.now c.set_cell_monitor.new.self c.args.object c.args.monitor c.set_cell_monitor.ensures c.set_cell_monitor-in-Some.new.self c.in-Some.other c.set_cell_monitor-in-Some.ensures other

pub returns-in_default : goal.returns-in_default
returns-in_default c =
    let other = other_decoded (object_cell c.args.heap.now c.args.object) None (c.other-copy.ensures ∙ ap Some c.in_default.is) in
    one_stored c.args.heap.now c.set_cell_monitor.new.self c.args.object c.args.monitor c.set_cell_monitor.ensures other
