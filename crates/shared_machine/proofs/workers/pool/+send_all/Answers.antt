use Rattle.std.proofs.Common.{subst, sym}
use Rattle.shared_machine.specs.Work.{HasWorked}
use Rattle.shared_machine.proofs.TicketCounts.{have_worked_more, worked_as}
use Rattle.shared_machine.proofs.workers.pool.+send_all.Goals.{in-Ok, in-Err}
use Rattle.shared_machine.proofs.workers.pool.+send_all.Goals as goal

pub returns-clause-worked : goal.returns-clause-worked
returns-clause-worked g t c =
    have_worked_more c.args.plan.workers _ _ _ _ c.in-Some.ticket c.match-sent.ticket c.in-Some.ensures.items c.push_reserved.ensures.items c.send_all-tickets.ensures.worked (elim c.match-sent.branch [
      | in-Ok w ↦ subst (HasWorked c.args.plan.workers c.in-Some.ticket) (sym w.ticket-is) (worked_as c.args.plan.workers _ c.in-Some.ticket _ w.join-ticket.result w.in-Ok.ensures.sent.0 w.in-Ok.ensures.sent.1 w.join-ticket.ensures)
      | in-Err w ↦ subst (HasWorked c.args.plan.workers c.in-Some.ticket) (sym w.ticket-is) w.in-Err.ensures.back
    ])
