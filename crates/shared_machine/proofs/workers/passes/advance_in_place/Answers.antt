use Rattle.shared_machine.proofs.TicketCounts.{worked_then}
use Rattle.shared_machine.proofs.workers.passes.advance_in_place.Goals as goal

pub returns-in-Ok-eq0 : goal.returns-in-Ok-eq0
returns-in-Ok-eq0 g c = λ workers own. worked_then workers c.args.ticket.now c.step_in_place.new.ticket c.ask.new.ticket c.args.thread own (c.step_in_place.ensures workers own) c.ask.ensures
