use Rattle.std.proofs.Common.{◌≡◌, take}
use Rattle.schedule_text.specs.Items.{events_of as events_in}
use Rattle.shared_machine.specs.Histories.{events_of, plain}
use Rattle.shared_machine.proofs.record.items_of.Given as goal

abbrev pub invariant-loop-run : goal.invariant-loop-run
invariant-loop-run l = events_in l.items.items ≡ events_of (plain (take l.run-index l.runs))
