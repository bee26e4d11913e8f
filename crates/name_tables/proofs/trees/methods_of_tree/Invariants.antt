use Rattle.std.proofs.Common.{◌≡◌, map, take}
use Rattle.std.specs.Prelude.{flat_map}
use Rattle.cil_model.specs.Declarations.{method_members}
use Rattle.name_tables.proofs.trees.methods_of_tree.Given as goal

abbrev pub invariant-loop-class : goal.invariant-loop-class
invariant-loop-class l = map (λ m. m.now) l.all.items ≡ flat_map method_members (take l.class-index l.class-items)
