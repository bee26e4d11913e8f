use Rattle.std.proofs.Common.{length, map, ap, ◌∙◌, arith}
use Rattle.name_tables.specs.declared.class_tables.ClassTable.{ClassTable}
use Rattle.name_tables.specs.Entries.{declaration_in}
use Rattle.name_tables.specs.Methods.{virtuals_of}
use Rattle.name_tables.specs.Sameness.{identity_of}
use Rattle.name_tables.proofs.Lists.{same_count, alike_at, one_more_row, at_end}
use Rattle.name_tables.proofs.methods.virtual_rows.Goals as goal

pub virtual_numbers-requires : goal.virtual_numbers-requires
virtual_numbers-requires c =
    ap length c.as_slice-own.ensures.value ∙
    alike_at (λ r. length r.items) (λ (t : ClassTable). length (declaration_in t.class).methods) c.args.numbers.now c.args.tables.now c.loop-index.index c.index-numbers-index.result c.index-tables-index.result c.requires (omega arith) c.index-numbers-index.is c.index-tables-index.is

pub loop-index-preserved : goal.loop-index-preserved
loop-index-preserved c = λ number e.
    let own =
    c.as_slice-own.ensures.value ∙
    alike_at (λ r. r.items) (λ (t : ClassTable). map (λ m. number (identity_of m)) (declaration_in t.class).methods) c.args.numbers.now c.args.tables.now c.loop-index.index c.index-numbers-index.result c.index-tables-index.result e (omega arith) c.index-numbers-index.is c.index-tables-index.is in
    one_more_row (λ r. r.items) (λ (t : ClassTable). map number (virtuals_of (declaration_in t.class))) c.loop-index.rows.items c.push.new.self.items c.args.tables.now c.loop-index.index c.in_ok-virtual_numbers.field-0 c.index-tables-index.result
    (omega arith) c.index-tables-index.is (c.loop-index.invariant number e) c.in_ok-push.ensures.items (c.in_ok-virtual_numbers.ensures number own)

pub loop-index-init : goal.loop-index-init
loop-index-init c = λ number e. ap (map (λ r. r.items)) c.in_ok-rows.ensures.items

pub returns : goal.returns
returns c = λ number e. at_end (map (λ (t : ClassTable). map number (virtuals_of (declaration_in t.class)))) c.args.tables.now c.loop-index.index c.loop-index-test.false (c.loop-index.invariant number e)

pub bounds-numbers-index : goal.bounds-numbers-index
bounds-numbers-index c = omega (arith, c.loop-index-test.true, same_count (λ r. length r.items) (λ (t : ClassTable). length (declaration_in t.class).methods) c.args.numbers.now c.args.tables.now c.requires)
