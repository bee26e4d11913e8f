use Rattle.std.proofs.Common.{◌≡◌, map, take}
use Rattle.cil_model.specs.declared.trees.Tree.{Tree}
use Rattle.cil_model.specs.ValueKinds.{kind_of_type}
use Rattle.resolved_code.specs.ById.{types_named}
use Rattle.loaded_program.proofs.methods.local_kinds.Given as goal

abbrev pub invariant-loop-resolved : goal.invariant-loop-resolved
invariant-loop-resolved l = (tree : Tree) → l.kinds.items ≡ map kind_of_type (types_named tree (take l.resolved-index l.types))
