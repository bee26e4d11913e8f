use Rattle.std.proofs.Common.{◌≡◌, ◌++◌, map, take}
use Rattle.name_tables.specs.BuiltInTable.{built_in_entry}
use Rattle.name_tables.specs.Entries.{entry_of}
use Rattle.name_tables.specs.Numbers.{source_entry}
use Rattle.name_tables.proofs.tables.class_tables.Given as goal

abbrev pub invariant-loop-class : goal.invariant-loop-class
invariant-loop-class l = map (λ t. entry_of t.class) l.classes.items ≡ map built_in_entry (take l.class-index l.table)

abbrev pub invariant-loop-class-2 : goal.invariant-loop-class-2
invariant-loop-class-2 l = map (λ t. entry_of t.class) l.classes.items ≡ map built_in_entry l.table ++ map source_entry (take l.class-index l.class-items)
