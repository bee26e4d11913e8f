use Rattle.std.proofs.Common.{◌≡◌, map, take}
use Rattle.name_tables.specs.Keys.{field_of_key}
use Rattle.name_tables.proofs.members.field_keys.Given as goal

abbrev pub invariant-loop-field : goal.invariant-loop-field
invariant-loop-field l = map field_of_key l.keys.items ≡ map (λ f. f.now) (take l.field-index l.fields)
