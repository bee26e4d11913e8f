use Rattle.interleaving_core.proofs.Runs.RepresentedStates.{can_continue}
use Rattle.interleaving_core.proofs.machine.Machine.wait_of.Goals as goal

pub wait_of-requires-clause-ready : goal.wait_of-requires-clause-ready
wait_of-requires-clause-ready c = can_continue c.self.inside.engine c.self.invariant
