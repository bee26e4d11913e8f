use Rattle.std.proofs.Common.{◌≡◌, ◌+◌, length, take}
use Rattle.schedule_text.specs.Items.{events_of}
use Rattle.schedule_text.proofs.inserting.room_after.Given as goal

-- `room` events may follow those of the items so far
abbrev pub invariant-loop-item : goal.invariant-loop-item
invariant-loop-item l = l.room + length (events_of (take l.item-index l.items)) ≡ l.most
