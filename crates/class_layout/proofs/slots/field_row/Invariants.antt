use Rattle.std.proofs.Common.{◌≡◌, ◌++◌, map, drop}
use Rattle.class_layout.specs.FieldSlots.{static_by_id, statics_by_flag, slots_by_flag}
use Rattle.class_layout.proofs.slots.field_row.Given as goal

abbrev pub invariant-loop-field : goal.invariant-loop-field
invariant-loop-field l = record {
  has_id : l.numbers.items ++ static_by_id l.next_static l.next_slot (map (λ f. f.is_static) (drop l.field-index l.fields)) ≡ static_by_id l.first_static l.first_slot (map (λ f. f.is_static) l.fields);
  statics : statics_by_flag l.next_static (map (λ f. f.is_static) (drop l.field-index l.fields)) ≡ statics_by_flag l.first_static (map (λ f. f.is_static) l.fields);
  slots : slots_by_flag l.next_slot (map (λ f. f.is_static) (drop l.field-index l.fields)) ≡ slots_by_flag l.first_slot (map (λ f. f.is_static) l.fields);
}
