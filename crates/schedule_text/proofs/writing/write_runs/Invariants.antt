use Rattle.std.proofs.Common.{◌+◌, ◌≤◌, ◌++◌, List, drop, length, replicate, string_bytes}
use Rattle.schedule_text.specs.Items.{events_of}
use Rattle.schedule_text.specs.Writings.{AreRuns, IsTextOf}
use Rattle.schedule_text.specs.declared.errors.TheConstants.{MOST_EVENTS}
use Rattle.schedule_text.specs.declared.items.Item.{Item}
use Rattle.schedule_text.proofs.WritingLemmas.{joined}
use Rattle.schedule_text.proofs.writing.write_runs.Given as goal

-- with the runs of the last run and of what is left, the text becomes the text of the whole list
abbrev pub invariant-loop-item : goal.invariant-loop-item
invariant-loop-item l = record {
  written : (runs : List Item) → AreRuns (replicate l.run.count l.run.event ++ events_of (drop l.item-index l.items)) runs → IsTextOf (events_of l.items) (joined (string_bytes l.text) runs);
  few : l.run.count + length (events_of (drop l.item-index l.items)) ≤ MOST_EVENTS;
}
