use Rattle.shared_machine.proofs.TicketCounts.{worked_both}
use Rattle.shared_machine.proofs.workers.passes.step_and_collect.Goals as goal
use Rattle.shared_machine.proofs.workers.passes.step_and_collect.Goals.{then-lasts, else-lasts}

pub returns : goal.returns
returns g c = elim c.if-lasts.branch [
  | then-lasts w ↦ rw w.ticket-is (worked_both _ _ _ _ c.step_each-steps.ensures (w.collect-collector.ensures c.args.plan.workers))
  | else-lasts w ↦ rw w.ticket-is c.step_each-steps.ensures
]
