use Rattle.interleaving_core.proofs.Runs.RepresentedStates.{can_continue}
use Rattle.interleaving_core.proofs.machine.Machine.position_of.Goals as goal

pub position_of-requires : goal.position_of-requires
position_of-requires c = record { ready = can_continue c.self.inside.engine c.self.invariant }
