use Rattle.std.proofs.Common.{◌≡◌, map, drop}
use Rattle.class_layout.specs.FieldSlots.{statics_by_flag}
use Rattle.class_layout.proofs.slots.statics_after.Given as goal

abbrev pub invariant-loop-field : goal.invariant-loop-field
invariant-loop-field l = statics_by_flag l.next (map (λ f. f.is_static) (drop l.field-index l.fields)) ≡ statics_by_flag l.first (map (λ f. f.is_static) l.fields)
