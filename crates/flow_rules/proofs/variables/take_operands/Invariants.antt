use Rattle.std.proofs.Common.{◌≡◌, take}
use Rattle.cil_model.specs.FlowRules.{take_operands}
use Rattle.flow_rules.specs.StackTypes.{stack_types, types_named}
use Rattle.flow_rules.proofs.variables.take_operands.Given as goal

abbrev pub invariant-loop-index : goal.invariant-loop-index
invariant-loop-index l = take_operands l.types (types_named l.types (take l.index l.required)) (stack_types l.types l.stack) ≡ take_operands l.types (types_named l.types l.required) (stack_types l.types l.fn.stack)
