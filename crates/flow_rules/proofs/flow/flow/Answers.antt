use Rattle.cil_model.specs.declared.instructions.Instruction.{Instruction}
use Rattle.flow_rules.specs.Flow.{IsAfter, flow_of}
use Rattle.flow_rules.proofs.OperationLaws.{of_this}
use Rattle.flow_rules.proofs.flow.flow.Goals as goal

pub returns : goal.returns
returns c = λ lines i is. of_this c.args.method.now.types.now lines (λ (j : Instruction). IsAfter c.args.method.now.types.now c.step.result c.step.new.stack (flow_of c.args.method.now j c.args.stack.now)) i c.args.operation.now is c.step.ensures
