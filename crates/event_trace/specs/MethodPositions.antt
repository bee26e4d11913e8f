-- Methods of a program by their ids.
use Rattle.std.specs.Prelude.{◌≡◌, ◌+◌, ◌∷◌, [], ℕ, List, map, Option, Vec, option_map, option_and_then, slice_get}
use Rattle.std.specs.Global.{Global}
use Rattle.cil_model.specs.declared.types.ClassName.{ClassName}
use Rattle.cil_model.specs.declared.trees.Member.{Member}
use Rattle.cil_model.specs.declared.trees.Member.TheVariants as Members
use Rattle.cil_model.specs.declared.trees.Tree.{Tree}
use Rattle.cil_model.specs.declared.trees.Class.{Class}
use Rattle.cil_model.specs.declared.trees.Method.{Method}
use Rattle.cil_model.specs.Declarations.{Declaration, as_method, built_ins, source_name}
use Rattle.name_tables.specs.BuiltInTable.{built_in_entry}
use Rattle.event_trace.specs.declared.owned_methods.Owner.{Owner}
use Rattle.event_trace.specs.declared.owned_methods.Owner.TheVariants.{BuiltIn as BuiltInOwner, Source as SourceOwner}
use Rattle.event_trace.specs.declared.owned_methods.OwnedMethod.{OwnedMethod}
use Rattle.event_trace.specs.declared.method_positions.MethodPositions.{MethodPositions}

-- ---- methods with the classes that declare them

abbrev pub owner_name : Owner → ClassName
owner_name (BuiltInOwner name) = name.now
owner_name (SourceOwner class) = source_name class.now

abbrev pub class_and_method : OwnedMethod → ClassName × Method
class_and_method found = (owner_name found.owner, found.method.now)

-- ---- where methods are declared

-- the method at an index of a built-in class
abbrev pub built_in_method : ℕ → ClassName × Declaration → Option (ClassName × Method)
built_in_method n e = option_map (λ (m : Method). (e.0, m)) (slice_get e.1.methods n)

-- the method at an index among the members of a class of the source
abbrev pub source_method : ℕ → Class → Option (ClassName × Method)
source_method n c = option_map (λ (m : Method). (source_name c, m)) (option_and_then as_method (slice_get c.members n))

-- the indices of the methods among members, of which the first has this index
abbrev pub method_indices : ℕ → List Member → List ℕ
method_indices n [] = []
method_indices n (Members.Field f ∷ ms) = method_indices (n + 1) ms
method_indices n (Members.Method m ∷ ms) = n ∷ method_indices (n + 1) ms

-- the built-in classes, and for each class of the tree the indices of its methods
pub record ArePositionsOf (tree : Tree) (p : MethodPositions) : Type 0 where
  pub built_ins : map built_in_entry p.built_ins ≡ built_ins
  pub source : map (λ (row : Vec ℕ Global). row.items) p.source.items ≡ map (λ (c : Class). method_indices 0 c.members) tree.classes
