use Rattle.std.proofs.Common.{List, ◌++◌, replicate}
use Rattle.cil_model.specs.declared.events.Event.{Event}
use Rattle.shared_machine.specs.Worlds.{HasCounted}
use Rattle.shared_machine.proofs.alone.act_item.Given as goal

-- the ticket has counted that many of the item's events
abbrev pub invariant-loop-time : goal.invariant-loop-time
invariant-loop-time g l = (before : List Event) → HasCounted before l.fn.ticket → HasCounted (before ++ replicate l._time l.item.event) l.ticket
