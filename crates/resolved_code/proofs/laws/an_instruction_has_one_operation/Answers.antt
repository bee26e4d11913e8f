use Rattle.resolved_code.proofs.InstructionOperations.UniqueOperations.{one_operation}
use Rattle.resolved_code.proofs.laws.an_instruction_has_one_operation.Goals as goal

pub returns : goal.returns
returns c = one_operation
