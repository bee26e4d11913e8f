use Rattle.simulation.proofs.CycleBounds.BoundedCycles.{cycles_bounded}
use Rattle.simulation.proofs.laws.cycles_are_bounded.Goals as goal

pub returns : goal.returns
returns c = λ tree accepted limits in_range events reports s h done rest split. cycles_bounded tree limits accepted in_range events reports s h done rest split
