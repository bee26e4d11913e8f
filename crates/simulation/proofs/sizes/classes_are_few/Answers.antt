use Rattle.simulation.proofs.ProgramSizes.ClassesAndFields.{class_number_small}
use Rattle.simulation.proofs.sizes.classes_are_few.Goals as goal

pub returns : goal.returns
returns c = class_number_small
