use Rattle.std.proofs.Common.{◌≡◌, ◌++◌, map, take}
use Rattle.metadata.proofs.mentions.add_types_of_fields.Given as goal

abbrev pub invariant-loop-index : goal.invariant-loop-index
invariant-loop-index l = map (λ t. t.declared.now) l.types.items ≡ map (λ t. t.declared.now) l.fn.types.items ++ map (λ f. f.field_type) (map (λ f. f.now) (take l.index l.field-items))
