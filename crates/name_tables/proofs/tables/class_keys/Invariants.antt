use Rattle.std.proofs.Common.{◌≡◌, map, take}
use Rattle.name_tables.specs.Keys.{class_of_key}
use Rattle.name_tables.proofs.tables.class_keys.Given as goal

abbrev pub invariant-loop-class : goal.invariant-loop-class
invariant-loop-class l = map class_of_key l.keys.items ≡ map (λ t. class_of_key t.class.name) (take l.class-index l.classes)
