use Rattle.std.proofs.Common.{◌<◌, length, arith}
use Rattle.resolved_code.specs.declared.classes.ResolvedField.{ResolvedField}
use Rattle.class_layout.proofs.CountLaws.{static_fits, slot_fits, one_by_id, one_static, one_slot}
use Rattle.class_layout.proofs.slots.field_row.Goals as goal

pub number_after-next_static-requires : goal.number_after-next_static-requires
number_after-next_static-requires c =
    let fields = c.args.fields.now in
    let inside : c.loop-field.field-index < length fields = omega arith in
    static_fits (λ f. f.is_static) fields c.loop-field.field-index _ inside c.loop-field.next_static _ c.loop-field.invariant.statics c.requires.statics

pub slot_after-next_slot-requires : goal.slot_after-next_slot-requires
slot_after-next_slot-requires c =
    let fields = c.args.fields.now in
    let inside : c.loop-field.field-index < length fields = omega arith in
    slot_fits (λ f. f.is_static) fields c.loop-field.field-index _ inside c.loop-field.next_slot _ c.loop-field.invariant.slots c.requires.slots

pub loop-field-preserved : goal.loop-field-preserved
loop-field-preserved c =
    let fields = c.args.fields.now in
    let index = c.loop-field.field-index in
    let inside : index < length fields = c.loop-field-test.true in
    let next = c.number_after-next_static.ensures in
    let slot = c.slot_after-next_slot.ensures in
    record {
      has_id = one_by_id (λ (f : ResolvedField). f.is_static) fields index _ inside c.loop-field.next_static c.loop-field.next_slot c.number_after-next_static.result c.slot_after-next_slot.result c.own_number.result c.loop-field.numbers.items c.push.new.self.items _
          c.own_number.ensures next slot c.in_ok-push.ensures.items c.loop-field.invariant.has_id;
      statics = one_static (λ (f : ResolvedField). f.is_static) fields index _ inside c.loop-field.next_static c.number_after-next_static.result _ next c.loop-field.invariant.statics;
      slots = one_slot (λ (f : ResolvedField). f.is_static) fields index _ inside c.loop-field.next_slot c.slot_after-next_slot.result _ slot c.loop-field.invariant.slots;
    }
