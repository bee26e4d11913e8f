use Rattle.std.proofs.Common.{◌≤◌}
use Rattle.metadata.proofs.entry.count_methods.Given as goal

abbrev pub invariant-loop-member : goal.invariant-loop-member
invariant-loop-member l = l.count ≤ l.member-index
