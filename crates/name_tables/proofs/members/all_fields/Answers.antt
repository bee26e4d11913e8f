use Rattle.std.proofs.Common.{◌≡◌, map, sym, ap, ◌∙◌}
use Rattle.cil_model.specs.declared.types.ClassName.{ClassName}
use Rattle.cil_model.specs.Declarations.{Declaration}
use Rattle.name_tables.specs.declared.class_tables.ClassTable.{ClassTable}
use Rattle.name_tables.specs.Entries.{entry_of}
use Rattle.name_tables.specs.Keys.{field_of_key}
use Rattle.name_tables.specs.Numbers.{declarations}
use Rattle.name_tables.specs.Sameness.{same_field}
use Rattle.name_tables.proofs.Lists.{map_of_map}
use Rattle.name_tables.proofs.MemberLaws.{index_of_row}
use Rattle.inheritance.proofs.Results.{if_three}
use Rattle.name_tables.proofs.members.all_fields.Goals as goal

pub returns : goal.returns
returns c =
    let rows = map (λ row. row.items) c.as_slice.result.now in
    let parts : map (map field_of_key) rows ≡ map (λ (e : ClassName × Declaration). e.1.fields) (declarations c.args.classes.now.tree.now) =
    ap (map (map field_of_key)) (ap (map (λ row. row.items)) c.as_slice.ensures.value) ∙
    map_of_map (λ row. row.items) (map field_of_key) c.in_ok-rows.rows.items ∙ c.in_ok-rows.ensures ∙
    sym (map_of_map (λ (t : ClassTable). entry_of t.class) (λ (e : ClassName × Declaration). e.1.fields) c.all.result.now) ∙ ap (map (λ (e : ClassName × Declaration). e.1.fields)) c.all.ensures in
    let made = c.new.ensures in
    if_three c.new.result made.bases made.most made.indices (λ t bases most indices. record {
      bases = bases ∙ c.requires;
      most = most ∙ c.longest_chain.ensures;
      indices = λ key class. indices key class ∙ index_of_row field_of_key (λ (e : ClassName × Declaration). e.1.fields) (same_field (field_of_key key)) rows (declarations c.args.classes.now.tree.now) parts class;
    })
