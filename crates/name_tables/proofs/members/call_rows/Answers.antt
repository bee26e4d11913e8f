use Rattle.std.proofs.Common.{◌≡◌, Bor, length, map, sym, ap, ◌∙◌, arith}
use Rattle.std.proofs.lemmas.List.{length-map}
use Rattle.cil_model.specs.declared.trees.Method.{Method}
use Rattle.name_tables.specs.declared.class_tables.ClassTable.{ClassTable}
use Rattle.name_tables.specs.Entries.{declaration_in}
use Rattle.name_tables.specs.Methods.{call_of}
use Rattle.name_tables.specs.Sameness.{identity_of, call_identity_of}
use Rattle.name_tables.proofs.Lists.{same_count, alike_at, one_more_row, map_of_map, at_end}
use Rattle.name_tables.proofs.members.call_rows.Goals as goal

pub call_numbers-requires : goal.call_numbers-requires
call_numbers-requires c =
    let ms = c.index-tables-index.result.class.methods.items in
    let here : ms ≡ c.as_slice-methods.result.now = ap (λ t. t.class.methods.items) c.index-tables-index.is ∙ sym c.as_slice-methods.ensures.value in
    ap length c.as_slice.ensures.value ∙
    alike_at (λ r. length r.items) (λ (t : ClassTable). length (declaration_in t.class).methods) c.args.numbers.now c.args.tables.now c.loop-index.index c.index-numbers-index.result c.index-tables-index.result c.requires (omega arith) c.index-numbers-index.is c.index-tables-index.is ∙
    length-map ms (λ (m : Bor Method). m.now) ∙ ap length here

pub loop-index-preserved : goal.loop-index-preserved
loop-index-preserved c = λ number e.
    let ms = c.index-tables-index.result.class.methods.items in
    let here : ms ≡ c.as_slice-methods.result.now = ap (λ t. t.class.methods.items) c.index-tables-index.is ∙ sym c.as_slice-methods.ensures.value in
    let own =
    c.as_slice.ensures.value ∙
    alike_at (λ r. r.items) (λ (t : ClassTable). map (λ m. number (identity_of m)) (declaration_in t.class).methods) c.args.numbers.now c.args.tables.now c.loop-index.index c.index-numbers-index.result c.index-tables-index.result e (omega arith) c.index-numbers-index.is c.index-tables-index.is ∙
    map_of_map (λ (m : Bor Method). m.now) (λ m. number (identity_of m)) ms ∙ ap (map (λ m. number (identity_of m.now))) here in
    let calls = c.in_ok-call_numbers.ensures number own ∙ sym (ap (map (λ m. call_of number (call_identity_of m.now))) here) ∙ sym (map_of_map (λ (m : Bor Method). m.now) (λ m. call_of number (call_identity_of m)) ms) in
    one_more_row (λ r. r.items) (λ (t : ClassTable). map (λ m. call_of number (call_identity_of m)) (declaration_in t.class).methods) c.loop-index.rows.items c.push.new.self.items c.args.tables.now c.loop-index.index c.in_ok-call_numbers.field-0 c.index-tables-index.result
    (omega arith) c.index-tables-index.is (c.loop-index.invariant number e) c.in_ok-push.ensures.items calls

pub loop-index-init : goal.loop-index-init
loop-index-init c = λ number e. ap (map (λ r. r.items)) c.in_ok-rows.ensures.items

pub returns : goal.returns
returns c = λ number e. at_end (map (λ (t : ClassTable). map (λ m. call_of number (call_identity_of m)) (declaration_in t.class).methods)) c.args.tables.now c.loop-index.index c.loop-index-test.false (c.loop-index.invariant number e)

pub bounds-numbers-index : goal.bounds-numbers-index
bounds-numbers-index c = omega (arith, c.loop-index-test.true, same_count (λ r. length r.items) (λ (t : ClassTable). length (declaration_in t.class).methods) c.args.numbers.now c.args.tables.now c.requires)
