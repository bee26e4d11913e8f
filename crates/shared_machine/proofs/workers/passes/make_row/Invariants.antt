use Rattle.std.proofs.Common.{◌≡◌}
use Rattle.shared_machine.specs.Work.{HasWorked}
use Rattle.shared_machine.proofs.workers.passes.make_row.Given as goal

abbrev pub invariant-loop-pass : goal.invariant-loop-pass
invariant-loop-pass g l = l.fn.ticket.worker ≡ 0 → HasWorked 1 l.fn.ticket l.ticket
