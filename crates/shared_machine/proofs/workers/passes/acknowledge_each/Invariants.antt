use Rattle.shared_machine.specs.Work.{HasWorked}
use Rattle.shared_machine.proofs.workers.passes.acknowledge_each.Given as goal

abbrev pub invariant-loop-thread : goal.invariant-loop-thread
invariant-loop-thread g l = HasWorked l.workers l.fn.ticket l.ticket
