use Rattle.std.proofs.Common.{sym, subst}
use Rattle.cil_model.specs.declared.instructions.Instruction.{Instruction}
use Rattle.resolved_code.specs.declared.operations.Operation.{Operation}
use Rattle.flow_rules.specs.Flow.{IsAfter, flow_of}
use Rattle.flow_rules.specs.Operations.{OfEach}
use Rattle.flow_rules.proofs.flow.step.Goals as goal

pub returns-in-Binary : goal.returns-in-Binary
returns-in-Binary c =
    subst (λ (op : Operation). OfEach c.args.method.now.types.now (λ (i : Instruction). IsAfter c.args.method.now.types.now c.binary.result c.binary.new.stack (flow_of c.args.method.now i c.args.stack.now)) op)
    (sym c.in-Binary.is) (c.binary.ensures c.args.method.now c.in-Binary.field-0)

pub returns-in-Unary : goal.returns-in-Unary
returns-in-Unary c =
    subst (λ (op : Operation). OfEach c.args.method.now.types.now (λ (i : Instruction). IsAfter c.args.method.now.types.now c.unary.result c.unary.new.stack (flow_of c.args.method.now i c.args.stack.now)) op)
    (sym c.in-Unary.is) (c.unary.ensures c.args.method.now c.in-Unary.field-0)

pub returns-in-Shift : goal.returns-in-Shift
returns-in-Shift c =
    subst (λ (op : Operation). OfEach c.args.method.now.types.now (λ (i : Instruction). IsAfter c.args.method.now.types.now c.shift.result c.shift.new.stack (flow_of c.args.method.now i c.args.stack.now)) op)
    (sym c.in-Shift.is) (c.shift.ensures c.args.method.now c.in-Shift.field-0)

pub returns-in-Branch : goal.returns-in-Branch
returns-in-Branch c =
    subst (λ (op : Operation). OfEach c.args.method.now.types.now (λ (i : Instruction). IsAfter c.args.method.now.types.now c.branch_on_condition.result c.branch_on_condition.new.stack (flow_of c.args.method.now i c.args.stack.now)) op)
    (sym c.in-Branch.is) (λ label. c.branch_on_condition.ensures c.args.method.now label)

pub returns-in-Switch : goal.returns-in-Switch
returns-in-Switch c =
    subst (λ (op : Operation). OfEach c.args.method.now.types.now (λ (i : Instruction). IsAfter c.args.method.now.types.now c.switch.result c.switch.new.stack (flow_of c.args.method.now i c.args.stack.now)) op)
    (sym c.in-Switch.is) (λ label. c.switch.ensures c.args.method.now label)
