use Rattle.std.proofs.Common.{◌≡◌, map, take}
use Rattle.name_tables.specs.BuiltInTable.{built_in_entry, row_entry}
use Rattle.name_tables.proofs.built_in.classes_of.Given as goal

abbrev pub invariant-loop-index : goal.invariant-loop-index
invariant-loop-index l = map built_in_entry l.classes.items ≡ map row_entry (take l.index l.table)
