use Rattle.std.proofs.Common.{◌≡◌, ◌++◌, map, take, sym, ap, ◌∙◌}
use Rattle.std.proofs.Math.Seq.{take_all}
use Rattle.std.proofs.lemmas.List.{map-append}
use Rattle.std.specs.List.{flat_map}
use Rattle.name_tables.specs.declared.class_tables.ClassTable.{ClassTable}
use Rattle.name_tables.specs.Entries.{declaration_in}
use Rattle.name_tables.specs.Keys.{method_of_key}
use Rattle.name_tables.specs.Sameness.{identity_of}
use Rattle.name_tables.proofs.Lists.{flat_map-take_more}
use Rattle.resolved_code.proofs.identities.all_keys.Goals as goal

pub loop-table-init : goal.loop-table-init
loop-table-init c = ap (map method_of_key) c.new-keys.ensures.items

pub loop-table-preserved : goal.loop-table-preserved
loop-table-preserved c =
    let own = c.in_ok-own.own.items in
    let before = flat_map (λ (t : ClassTable). map identity_of (declaration_in t.class).methods) (take c.loop-table.table-index c.args.tables.now) in
    let added : map method_of_key own ≡ map identity_of (declaration_in c.table-item.result.class).methods = c.in_ok-own.ensures ∙ ap (λ ms. map identity_of (map (λ m. m.now) ms)) c.as_slice.ensures.value in
    ap (map method_of_key) c.in_ok-append.ensures.items ∙ map-append method_of_key c.loop-table.keys.items own ∙ ap (λ ks. ks ++ map method_of_key own) c.loop-table.invariant ∙ ap (λ ks. before ++ ks) added ∙
    sym (flat_map-take_more (λ (t : ClassTable). map identity_of (declaration_in t.class).methods) c.args.tables.now c.loop-table.table-index c.table-item.result c.loop-table-test.true c.table-item.is)

pub returns : goal.returns
returns c = c.loop-table.invariant ∙ ap (flat_map (λ (t : ClassTable). map identity_of (declaration_in t.class).methods)) (take_all c.loop-table.table-index c.args.tables.now c.loop-table-test.false)
