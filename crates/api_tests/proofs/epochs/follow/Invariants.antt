use Rattle.std.proofs.Common.{◌≡◌}
use Rattle.api_tests.proofs.epochs.follow.Given as goal

abbrev pub invariant-loop : goal.invariant-loop
invariant-loop l = l.seat.table ≡ l.initial.seat.table
