-- What the flow rule says of the types that numbers represent.
use Rattle.std.specs.Prelude.{◌≡◌, List, Some, None, option_map, Result, Ok, Err}
use Rattle.cil_model.specs.declared.instructions.Instruction.{Instruction}
use Rattle.cil_model.specs.declared.trees.Tree.{Tree}
use Rattle.cil_model.specs.FlowRules.{StackAfter, flow}
use Rattle.flow_rules.specs.StackTypes.{type_named, types_named, stack_types}
use Rattle.flow_rules.specs.declared.entries.StackEntry.{StackEntry}
use Rattle.flow_rules.specs.declared.mismatches.FlowError.{FlowError}
use Rattle.flow_rules.specs.declared.mismatches.FlowError.TheVariants.{Mismatch, OutOfMemory}
use Rattle.flow_rules.specs.declared.method_types.MethodTypes.{MethodTypes}

-- the rule's result for a method's instruction on a stack (III.1.8)
abbrev pub flow_of : MethodTypes → Instruction → List StackEntry → StackAfter
flow_of m i stack = flow m.types.now (types_named m.types.now m.arguments.now) (types_named m.types.now m.locals.now) (option_map (type_named m.types.now) m.return_type) i (stack_types m.types.now stack)

-- The stack is what the rule says; a mismatch is reported where the rule has no result. Out of memory says nothing of the stack.
abbrev pub IsAfter : {T : Type 0} → Tree → Result T FlowError → List StackEntry → StackAfter → Type 0
IsAfter tree (Ok done) stack after = after ≡ Some (stack_types tree stack)
IsAfter tree (Err (Mismatch reason)) stack after = after ≡ None
IsAfter tree (Err OutOfMemory) stack after = Unit {0}
