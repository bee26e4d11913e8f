use Rattle.std.proofs.Common.{map, ap, ◌∙◌}
use Rattle.name_tables.specs.declared.class_tables.ClassTable.{ClassTable}
use Rattle.name_tables.specs.Entries.{declaration_in}
use Rattle.name_tables.specs.Keys.{method_of_key}
use Rattle.name_tables.specs.Sameness.{identity_of}
use Rattle.name_tables.proofs.Lists.{at_end, one_more_row}
use Rattle.name_tables.proofs.members.method_rows.Goals as goal

pub loop-table-init : goal.loop-table-init
loop-table-init c = ap (map (λ row. map method_of_key row.items)) c.in_ok-rows.ensures.items

pub loop-table-preserved : goal.loop-table-preserved
loop-table-preserved c =
    one_more_row (λ row. map method_of_key row.items) (λ (t : ClassTable). map identity_of (declaration_in t.class).methods) c.loop-table.rows.items c.push.new.self.items c.args.tables.now c.loop-table.table-index c.in_ok-method_keys.field-0 c.table-item.result
    c.loop-table-test.true c.table-item.is c.loop-table.invariant c.in_ok-push.ensures.items (c.in_ok-method_keys.ensures ∙ ap (λ ms. map identity_of (map (λ m. m.now) ms)) c.as_slice.ensures.value)

pub returns : goal.returns
returns c = at_end (map (λ (t : ClassTable). map identity_of (declaration_in t.class).methods)) c.args.tables.now c.loop-table.table-index c.loop-table-test.false c.loop-table.invariant
