use Rattle.simulation.proofs.Runs.EventCorrespondence.{initial_is_represented}
use Rattle.simulation.proofs.laws.initial_states_represent.Goals as goal

pub returns : goal.returns
returns c = initial_is_represented
