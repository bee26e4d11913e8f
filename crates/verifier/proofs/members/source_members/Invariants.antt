use Rattle.std.proofs.Common.{◌≡◌, ◌++◌, drop, map, Some}
use Rattle.std.specs.List.{flat_map}
use Rattle.cil_model.specs.Bodies.{source_methods}
use Rattle.verifier.specs.Members.{methods_at, own_methods}
use Rattle.verifier.proofs.members.source_members.Given as goal

-- the methods of the numbers so far, and then those of the classes that are left
abbrev pub invariant-loop-index : goal.invariant-loop-index
invariant-loop-index l = methods_at l.tree l.members.items ++ map Some (flat_map own_methods (drop l.index l.tree.classes)) ≡ map Some (source_methods l.tree)
