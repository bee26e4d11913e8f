use Rattle.simulation.proofs.ProgramSizes.Methods.{literals_few}
use Rattle.simulation.proofs.sizes.literals_are_few.Goals as goal

pub returns : goal.returns
returns c = literals_few
