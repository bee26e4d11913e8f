use Rattle.std.proofs.Common.{◌≡◌, true, None, length}
use Rattle.inheritance.specs.Changes.{is_ordered, latest_known}
use Rattle.inheritance.proofs.changes.latest.Given as goal

abbrev pub invariant-loop-earlier : goal.invariant-loop-earlier
invariant-loop-earlier l = (latest_known l.found l.time l.rest ≡ latest_known None l.time l.changes) × (is_ordered l.rest ≡ true)

abbrev pub decreases-loop-earlier : goal.decreases-loop-earlier
decreases-loop-earlier l = length l.rest
