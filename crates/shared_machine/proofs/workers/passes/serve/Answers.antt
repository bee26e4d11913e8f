use Rattle.shared_machine.proofs.TicketCounts.{worked_both}
use Rattle.shared_machine.proofs.workers.passes.serve.Goals as goal
use Rattle.shared_machine.proofs.workers.passes.serve.Goals.{then-lasts, else-lasts}

pub returns-clause-worked : goal.returns-clause-worked
returns-clause-worked g c =
    let first = c.acknowledge_news-progress.ensures.worked in
    elim c.if-lasts.branch [
      | then-lasts w ↦ rw w.worker-is (worked_both _ _ _ _ first w.ask_for_events.ensures.worked)
      | else-lasts w ↦ rw w.worker-is first
    ]
