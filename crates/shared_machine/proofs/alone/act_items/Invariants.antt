use Rattle.std.proofs.Common.{take}
use Rattle.schedule_text.specs.Items.{events_of as events_in}
use Rattle.shared_machine.specs.Worlds.{HasCounted}
use Rattle.shared_machine.proofs.alone.act_items.Given as goal

-- the ticket has counted the events of the items so far
abbrev pub invariant-loop-item : goal.invariant-loop-item
invariant-loop-item g l = HasCounted (events_in (take l.item-index l.items)) l.ticket
