use Rattle.shared_machine.specs.Work.{HasWorked}
use Rattle.shared_machine.proofs.workers.passes.step_each.Given as goal

abbrev pub invariant-loop-thread : goal.invariant-loop-thread
invariant-loop-thread g l = HasWorked l.plan.workers l.fn.ticket l.ticket
