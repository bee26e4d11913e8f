use Rattle.std.proofs.Common.{◌≡◌, ◌++◌, map, drop}
use Rattle.class_layout.specs.FieldSlots.{field_rows, class_names}
use Rattle.class_layout.proofs.CountLaws.{statics_of}
use Rattle.class_layout.proofs.slots.all_fields.Given as goal

abbrev pub invariant-loop-class : goal.invariant-loop-class
invariant-loop-class l = record {
  has_id : map (λ row. row.items) l.rows.items ++ field_rows l.classes.program.now l.next (drop l.class (class_names l.classes.program.now)) ≡ field_rows l.classes.program.now 0 (class_names l.classes.program.now);
  counted : statics_of l.classes.program.now l.next (drop l.class (class_names l.classes.program.now)) ≡ statics_of l.classes.program.now 0 (class_names l.classes.program.now);
}
