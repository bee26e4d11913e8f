use Rattle.std.proofs.Common.{◌≡◌, ◌-◌, ◌++◌, length, take, drop}
use Rattle.schedule_text.specs.Items.{events_of}
use Rattle.schedule_text.proofs.inserting.append_rest.Given as goal

-- the events of the items so far, and how many of the first are left
abbrev pub invariant-loop-item : goal.invariant-loop-item
invariant-loop-item l =
    (events_of l.all.items ≡ events_of l.fn.all.items ++ drop l.at (events_of (take l.item-index l.items)))
    × (l.left ≡ l.at - length (events_of (take l.item-index l.items)))
