use Rattle.std.proofs.Common.{◌≡◌, length, take}
use Rattle.schedule_text.specs.Items.{events_of}
use Rattle.cilvm_c.proofs.EventsDone.{HasTurned}
use Rattle.cilvm_c.proofs.running.run_items.Given as goal

-- the events of the items so far are done, and counted
abbrev pub invariant-loop-item : goal.invariant-loop-item
invariant-loop-item l = record {
  turned : HasTurned l.fn.machine (events_of (take l.item-index l.items)) l.machine;
  counted : l.done ≡ length (events_of (take l.item-index l.items));
}
