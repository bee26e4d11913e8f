use Rattle.std.proofs.Common.{◌≡◌, ◌++◌, map, take}
use Rattle.std.specs.Prelude.{flat_map}
use Rattle.name_tables.specs.Keys.{text_of_key}
use Rattle.name_tables.proofs.bodies.label_keys.Given as goal

abbrev pub invariant-loop-line : goal.invariant-loop-line
invariant-loop-line l = map text_of_key l.keys.items ≡ flat_map (λ x. x.labels) (take l.line-index l.line-items)

abbrev pub invariant-loop-label : goal.invariant-loop-label
invariant-loop-label l = map text_of_key l.keys.items ≡ flat_map (λ x. x.labels) (take l.line-index l.line-items) ++ take l.label-index l.label-items
