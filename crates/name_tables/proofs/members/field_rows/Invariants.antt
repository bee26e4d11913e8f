use Rattle.std.proofs.Common.{◌≡◌, map, take}
use Rattle.name_tables.specs.Entries.{declaration_in}
use Rattle.name_tables.specs.Keys.{field_of_key}
use Rattle.name_tables.proofs.members.field_rows.Given as goal

abbrev pub invariant-loop-table : goal.invariant-loop-table
invariant-loop-table l = map (λ row. map field_of_key row.items) l.rows.items ≡ map (λ t. (declaration_in t.class).fields) (take l.table-index l.tables)
