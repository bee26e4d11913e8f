use Rattle.shared_machine.proofs.TicketCounts.{worked_then}
use Rattle.shared_machine.proofs.workers.passes.advance.Goals as goal

pub returns : goal.returns
returns g c = λ workers own. worked_then workers c.args.ticket.now c.advance_in_place-progress.new.ticket c.run_apart.new.ticket c.args.thread own (c.advance_in_place-progress.ensures workers own) c.run_apart.ensures
