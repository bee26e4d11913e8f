use Rattle.std.proofs.Common.{◌≡◌, ◌++◌, map, take}
use Rattle.std.specs.Prelude.{flat_map}
use Rattle.cil_model.specs.Declarations.{field_members, method_members}
use Rattle.cil_model.specs.Mentions.{types_of_method}
use Rattle.metadata.proofs.mentions.types_of_tree.Given as goal

abbrev pub invariant-loop-class : goal.invariant-loop-class
invariant-loop-class l = map (λ t. t.declared.now) l.types.items ≡ flat_map (λ c. map (λ f. f.field_type) (field_members c)) (take l.class l.declared-items)

abbrev pub invariant-loop-class-2 : goal.invariant-loop-class-2
invariant-loop-class-2 l = map (λ t. t.declared.now) l.types.items ≡ map (λ t. t.declared.now) l.initial.types.items ++ flat_map (λ c. flat_map types_of_method (method_members c)) (take l.class l.declared-items)
