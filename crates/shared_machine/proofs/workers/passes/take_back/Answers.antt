use Rattle.std.proofs.Common.{subst, sym}
use Rattle.cil_model.specs.declared.reports.Report.TheVariants.{Ran}
use Rattle.shared_machine.specs.Counts.{Count}
use Rattle.shared_machine.specs.Work.{HasWorked}
use Rattle.shared_machine.proofs.TicketCounts.{worked_nothing, worked_times}
use Rattle.shared_machine.proofs.workers.passes.take_back.Goals as goal
use Rattle.shared_machine.proofs.workers.passes.take_back.Goals.{in-Ok, in-Err}

pub returns : goal.returns
returns g c = λ workers own. elim c.match-check_in.branch [
  | in-Ok w ↦ worked_times workers c.args.ticket.now c.check_in.new.ticket w.in-Ok.field-0 c.args.lent.thread c.args.thread Ran c.requires w.in-Ok.ensures.done.counted own.0 own
  | in-Err w ↦ subst (λ (t : Count). HasWorked workers c.args.ticket.now t) (sym w.in-Err.ensures.back.2) (worked_nothing workers c.args.ticket.now)
]
