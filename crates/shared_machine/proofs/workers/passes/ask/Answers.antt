use Rattle.shared_machine.proofs.TicketCounts.{second_if, worked_once}
use Rattle.shared_machine.proofs.workers.passes.ask.Goals as goal

pub returns : goal.returns
returns g c = λ workers own. worked_once workers _ _ _ _ c.perform.ensures.counted (second_if c.perform.result _ _ c.perform.ensures.same) c.perform.ensures.small own
