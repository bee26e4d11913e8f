use Rattle.simulation.proofs.MonitorCounts.InitialStates.{initial_counted}
use Rattle.simulation.proofs.counts.initial_states_are_counted.Goals as goal

pub returns : goal.returns
returns c = initial_counted
