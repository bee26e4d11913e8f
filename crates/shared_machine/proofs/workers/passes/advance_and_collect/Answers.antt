use Rattle.shared_machine.proofs.TicketCounts.{worked_both}
use Rattle.shared_machine.proofs.workers.passes.advance_and_collect.Goals as goal
use Rattle.shared_machine.proofs.workers.passes.advance_and_collect.Goals.{then-lasts, else-lasts}

pub returns : goal.returns
returns g c = λ workers own. elim c.if-lasts.branch [
  | then-lasts w ↦ rw w.ticket-is (worked_both workers _ _ _ (c.advance_in_place-steps.ensures workers own) (w.collect-collector.ensures workers))
  | else-lasts w ↦ rw w.ticket-is (c.advance_in_place-steps.ensures workers own)
]
