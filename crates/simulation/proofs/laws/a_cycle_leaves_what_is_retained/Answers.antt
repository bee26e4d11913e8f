use Rattle.simulation.proofs.RetainedWords.CycleEnds.{leaves_retained}
use Rattle.simulation.proofs.Runs.EventCorrespondence.{each_alike}
use Rattle.simulation.proofs.laws.a_cycle_leaves_what_is_retained.Goals as goal

pub returns : goal.returns
returns c = λ tree accepted limits in_range events reports machine_state refines. leaves_retained each_alike tree accepted limits in_range events reports machine_state refines
