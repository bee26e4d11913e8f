use Rattle.simulation.proofs.ProgramSizes.Methods.{arguments_few, instructions_few, locals_few, stack_low, arrays_shallow}
use Rattle.simulation.proofs.sizes.methods_are_small.Goals as goal

pub returns-clause-arguments : goal.returns-clause-arguments
returns-clause-arguments c = arguments_few

pub returns-clause-instructions : goal.returns-clause-instructions
returns-clause-instructions c = instructions_few

pub returns-clause-locals : goal.returns-clause-locals
returns-clause-locals c = locals_few

pub returns-clause-stack : goal.returns-clause-stack
returns-clause-stack c = stack_low

pub returns-clause-arrays : goal.returns-clause-arrays
returns-clause-arrays c = arrays_shallow
