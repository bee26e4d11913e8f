-- The types that resolved ones represent. A number that is no class's, which no resolved code has, represents System.Object's.
use Rattle.std.specs.Prelude.{Bool, true, List, is_some, map}
use Rattle.cil_model.specs.declared.trees.Tree.{Tree}
use Rattle.cil_model.specs.TypeTree.{StackType}
use Rattle.cil_model.specs.TypeTree as OnStack
use Rattle.resolved_code.specs.ById.{class_name}
pub use Rattle.resolved_code.specs.ById.{class_named, element_named, type_named, types_named}
use Rattle.resolved_code.specs.declared.types.ResolvedElement.{ResolvedElement}
use Rattle.resolved_code.specs.declared.types.ResolvedElement.TheVariants.{Class}
use Rattle.flow_rules.specs.declared.entries.StackEntry.{StackEntry}
use Rattle.flow_rules.specs.declared.entries.StackEntry.TheVariants.{Declared, NativeInt, Null}

-- the number is a class's
abbrev pub is_known : Tree → ResolvedElement → Bool
is_known tree (Class n) = is_some (class_name tree n)
is_known tree _ = true

-- what an entry says of a value on the stack (III.1.8.1.2.1)
abbrev pub stack_type : Tree → StackEntry → StackType
stack_type tree (Declared t) = OnStack.Declared (type_named tree t)
stack_type tree NativeInt = OnStack.NativeInt
stack_type tree Null = OnStack.Null

-- what the entries of a stack say, the top first
abbrev pub stack_types : Tree → List StackEntry → List StackType
stack_types tree entries = map (stack_type tree) entries
