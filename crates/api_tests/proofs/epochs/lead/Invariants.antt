use Rattle.std.proofs.Common.{◌≡◌, ◌≤◌}
use Rattle.api_tests.proofs.epochs.lead.Given as goal

abbrev pub invariant-loop : goal.invariant-loop
invariant-loop l = (l.herald.table ≡ l.initial.herald.table) × (l.posted ≤ l.last)
