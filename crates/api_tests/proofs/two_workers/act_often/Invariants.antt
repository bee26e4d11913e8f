use Rattle.std.proofs.Common.{◌≡◌}
use Rattle.api_tests.proofs.two_workers.act_often.Given as goal

abbrev pub invariant-loop-time : goal.invariant-loop-time
invariant-loop-time g l = l.ticket.worker ≡ l.fn.ticket.worker
