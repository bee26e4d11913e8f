use Rattle.simulation.proofs.Runs.EventCorrespondence.{asked_is_answerable}
use Rattle.simulation.proofs.laws.what_is_asked_can_be_answered.Goals as goal

pub returns : goal.returns
returns c = asked_is_answerable
