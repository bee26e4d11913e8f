use Rattle.simulation.proofs.Runs.RunsWithoutCollection.{steps_refuse}
use Rattle.simulation.proofs.Runs.EventCorrespondence.{each_alike}
use Rattle.simulation.proofs.laws.steps_alone_refuse_beyond_all_births.Goals as goal

pub returns : goal.returns
returns c = λ tree accepted limits in_range events reports s steps h. steps_refuse tree limits each_alike accepted in_range events reports s steps h
