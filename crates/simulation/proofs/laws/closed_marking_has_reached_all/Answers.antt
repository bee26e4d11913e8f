use Rattle.simulation.proofs.CollectorEvents.ClosedMarking.{reached_is_marked}
use Rattle.simulation.proofs.laws.closed_marking_has_reached_all.Goals as goal

pub returns : goal.returns
returns c = reached_is_marked
