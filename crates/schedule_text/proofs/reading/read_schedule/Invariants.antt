use Rattle.std.proofs.Common.{◌≡◌, ◌≤◌, length, map}
use Rattle.schedule_text.specs.Items.{events_of}
use Rattle.schedule_text.specs.Readings.{AreRead}
use Rattle.schedule_text.specs.declared.errors.TheConstants.{MOST_EVENTS}
use Rattle.schedule_text.proofs.reading.read_schedule.Given as goal

-- the words so far are read, and represent this number of events
abbrev pub invariant-loop-word : goal.invariant-loop-word
invariant-loop-word l = record {
  read : AreRead (map (λ word. word.now) l.yielded) (events_of l.items.items);
  many : l.events ≡ length (events_of l.items.items);
  few : l.events ≤ MOST_EVENTS;
}
