use Rattle.interleaving_core.proofs.Runs.RepresentedStates.{can_continue}
use Rattle.interleaving_core.proofs.machine.Machine.monitor_of.Goals as goal

pub monitor_of-requires : goal.monitor_of-requires
monitor_of-requires c = record { ready = can_continue c.self.inside.engine c.self.invariant }
