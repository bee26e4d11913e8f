use Rattle.std.proofs.Common.{[], Bool, if◌then◌else◌, map, slice_get, unwrap_or, ap, ◌∙◌}
use Rattle.cil_model.specs.Fields.{instance_slot, static_slot}
use Rattle.class_layout.proofs.SlotLaws.{slot_found}
use Rattle.class_layout.proofs.layout.Layout.slot.Goals as goal

pub returns-clause-instance : goal.returns-clause-instance
returns-clause-instance c = λ tree is name f found flag.
    c.number_at.ensures ∙ ap (λ row. slice_get row c.args.field.index) (c.row_at.ensures ∙ ap (λ rows. unwrap_or (slice_get (map (λ row. row.items) rows) c.args.field.class) []) c.as_slice.ensures.value ∙ ap (λ rows. unwrap_or (slice_get rows c.args.field.class) []) is.fields) ∙
    slot_found tree is.legal c.args.field.class c.args.field.index name f found ∙
    ap (λ (b : Bool). if b then static_slot tree (record { declared_in = name; name = f.name }) else instance_slot tree (record { declared_in = name; name = f.name })) flag

pub returns-clause-static_field : goal.returns-clause-static_field
returns-clause-static_field c = λ tree is name f found flag.
    c.number_at.ensures ∙ ap (λ row. slice_get row c.args.field.index) (c.row_at.ensures ∙ ap (λ rows. unwrap_or (slice_get (map (λ row. row.items) rows) c.args.field.class) []) c.as_slice.ensures.value ∙ ap (λ rows. unwrap_or (slice_get rows c.args.field.class) []) is.fields) ∙
    slot_found tree is.legal c.args.field.class c.args.field.index name f found ∙
    ap (λ (b : Bool). if b then static_slot tree (record { declared_in = name; name = f.name }) else instance_slot tree (record { declared_in = name; name = f.name })) flag
