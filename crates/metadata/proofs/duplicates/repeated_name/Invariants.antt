use Rattle.std.proofs.Common.{◌≡◌, map, take}
use Rattle.name_tables.specs.Keys.{class_of_key}
use Rattle.metadata.proofs.duplicates.repeated_name.Given as goal

abbrev pub invariant-loop-item : goal.invariant-loop-item
invariant-loop-item g l = map class_of_key l.keys.items ≡ map g.T.Named.name_of (take l.item-index l.items)
