use Rattle.std.proofs.Common.{◌≡◌, sym, ap, ◌∙◌, option_map}
use Rattle.cil_model.specs.declared.trees.Field.{Field}
use Rattle.name_tables.specs.declared.ids.FieldId.{FieldId}
use Rattle.name_tables.specs.Numbers.{nearest_number, index_in, chain_numbers, field_at, field_number}
use Rattle.name_tables.specs.Sameness.{same_field}
use Rattle.name_tables.proofs.Lists.{option_map_of_map}
use Rattle.name_tables.proofs.NumberLaws.{field_has_id}
use Rattle.name_tables.proofs.lookups.NameTables.find_field.Goals as goal

pub returns : goal.returns
returns c =
    let t = c.args.self.now.classes.tree.now in
    let f : Field = record { is_static = c.args.is_static; field_type = c.args.reference.now.field_type; name = c.args.reference.now.name } in
    let e : option_map (λ (m : FieldId). (m.class, m.index)) c.nearest_field.result ≡ field_number t c.args.is_static c.args.reference.now =
    c.nearest_field.ensures ∙ ap (nearest_number (index_in (λ d. d.fields) (same_field f) t)) (ap (chain_numbers t) c.of.ensures) in
    record {
      number = e;
      member = sym (option_map_of_map (λ (m : FieldId). (m.class, m.index)) (field_at t) c.nearest_field.result) ∙ ap (option_map (field_at t)) e ∙ field_has_id t c.args.is_static c.args.reference.now;
    }
