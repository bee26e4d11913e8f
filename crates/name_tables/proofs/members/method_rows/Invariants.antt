use Rattle.std.proofs.Common.{◌≡◌, map, take}
use Rattle.name_tables.specs.Entries.{declaration_in}
use Rattle.name_tables.specs.Keys.{method_of_key}
use Rattle.name_tables.specs.Sameness.{identity_of}
use Rattle.name_tables.proofs.members.method_rows.Given as goal

abbrev pub invariant-loop-table : goal.invariant-loop-table
invariant-loop-table l = map (λ row. map method_of_key row.items) l.rows.items ≡ map (λ t. map identity_of (declaration_in t.class).methods) (take l.table-index l.tables)
