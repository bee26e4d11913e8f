use Rattle.simulation.proofs.Runs.EventCorrespondence.{thread_is_ready}
use Rattle.simulation.proofs.laws.live_threads_are_ready.Goals as goal

pub returns : goal.returns
returns c = thread_is_ready
