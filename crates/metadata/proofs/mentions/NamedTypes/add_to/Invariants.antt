use Rattle.std.proofs.Common.{◌≡◌, ◌++◌, map, take}
use Rattle.metadata.proofs.mentions.NamedTypes.add_to.Given as goal

abbrev pub invariant-loop-index : goal.invariant-loop-index
invariant-loop-index l = map (λ t. t.declared.now) l.types.items ≡ map (λ t. t.declared.now) l.fn.types.items ++ take l.index l.declared-items
