use Rattle.exploration.proofs.LaggingSteps.{stays_lagging}
use Rattle.exploration.proofs.laws.a_lagging_machine_stays_lagging.Goals as goal

pub returns : goal.returns
returns c = stays_lagging
