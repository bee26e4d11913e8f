use Rattle.simulation.proofs.Runs.EventCorrespondence.{step_is_followed}
use Rattle.simulation.proofs.laws.steps_follow_the_reference_machine.Goals as goal

pub returns : goal.returns
returns c = step_is_followed
