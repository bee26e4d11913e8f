use Rattle.std.proofs.Common.{◌≡◌, take}
use Rattle.schedule_text.specs.Items.{events_of}
use Rattle.outcome_text.proofs.outcomes.items_of.Given as goal

-- the items represent the events so far
abbrev pub invariant-loop-event : goal.invariant-loop-event
invariant-loop-event l = events_of l.items.items ≡ take l.event-index l.events
