use Rattle.std.proofs.Common.{◌≡◌, ◌++◌, drop, map, Some, slice_get}
use Rattle.cil_model.specs.declared.trees.Tree.{Tree}
use Rattle.cil_model.specs.declared.trees.Class.{Class}
use Rattle.cil_model.specs.Declarations.{source_name, method_members}
use Rattle.name_tables.specs.Numbers.{declarations, source_entry}
use Rattle.verifier.specs.Members.{methods_at, own_methods}
use Rattle.verifier.proofs.members.add_ids.Given as goal

-- the methods of the numbers so far, and then those that are left
abbrev pub invariant-loop-index : goal.invariant-loop-index
invariant-loop-index l = (tree : Tree) (c : Class) → slice_get (declarations tree) l.class ≡ Some (source_entry c) → map (λ m. m.now) l.methods ≡ method_members c →
    methods_at tree l.members.items ++ map Some (map (λ m. (source_name c, m)) (map (λ m. m.now) (drop l.index l.methods))) ≡ methods_at tree l.initial.members.items ++ map Some (own_methods c)
