use Rattle.simulation.proofs.Runs.EventCorrespondence.{step_is_refused}
use Rattle.simulation.proofs.laws.births_are_refused_beyond_the_room.Goals as goal

pub returns : goal.returns
returns c = step_is_refused
