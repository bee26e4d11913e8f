use Rattle.std.proofs.Common.{◌≡◌, ◌++◌, map, take}
use Rattle.std.specs.Prelude.{flat_map}
use Rattle.cil_model.specs.Mentions.{types_of_method}
use Rattle.metadata.proofs.mentions.add_types_of_methods.Given as goal

abbrev pub invariant-loop-index : goal.invariant-loop-index
invariant-loop-index l = map (λ t. t.declared.now) l.types.items ≡ map (λ t. t.declared.now) l.fn.types.items ++ flat_map types_of_method (map (λ m. m.now) (take l.index l.method-items))
