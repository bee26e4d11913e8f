use Rattle.std.proofs.Common.{◌≡◌, map, take}
use Rattle.cil_model.specs.Chains.{is_abstract_method}
use Rattle.name_tables.specs.Entries.{declaration_in}
use Rattle.metadata.proofs.open_slots.abstract_marks.Given as goal

abbrev pub invariant-loop-table : goal.invariant-loop-table
invariant-loop-table l = map (λ row. row.items) l.rows.items ≡ map (λ t. map (λ m. is_abstract_method m.kind) (declaration_in t.class).methods) (take l.table-index l.table-items)
