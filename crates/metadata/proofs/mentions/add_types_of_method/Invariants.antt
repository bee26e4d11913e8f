use Rattle.std.proofs.Common.{◌≡◌, ◌++◌, map, take}
use Rattle.std.specs.Prelude.{flat_map}
use Rattle.cil_model.specs.Mentions.{types_of_instruction}
use Rattle.metadata.proofs.mentions.add_types_of_method.Given as goal

abbrev pub invariant-loop-line : goal.invariant-loop-line
invariant-loop-line l = map (λ t. t.declared.now) l.types.items ≡ map (λ t. t.declared.now) l.initial.types.items ++ flat_map (λ x. types_of_instruction x.instruction) (take l.line l.code-items)
