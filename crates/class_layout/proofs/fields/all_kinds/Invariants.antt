use Rattle.std.proofs.Common.{◌≡◌, map, take}
use Rattle.name_tables.specs.Numbers.{declarations}
use Rattle.class_layout.specs.Kinds.{slot_kinds}
use Rattle.class_layout.proofs.fields.all_kinds.Given as goal

abbrev pub invariant-loop-class : goal.invariant-loop-class
invariant-loop-class l = map (λ row. row.items) l.rows.items ≡ map (λ e. slot_kinds l.classes.program.now e.0) (take l.class (declarations l.classes.program.now))
