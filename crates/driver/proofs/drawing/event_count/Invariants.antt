use Rattle.std.proofs.Common.{◌≡◌, length, take}
use Rattle.schedule_text.specs.Items.{events_of}
use Rattle.driver.proofs.drawing.event_count.Given as goal

-- the events of the items so far
abbrev pub invariant-loop-item : goal.invariant-loop-item
invariant-loop-item l = l.events ≡ length (events_of (take l.item-index l.items))
