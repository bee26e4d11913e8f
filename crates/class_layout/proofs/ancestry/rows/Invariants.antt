use Rattle.std.proofs.Common.{◌≡◌, map, take}
use Rattle.name_tables.specs.Numbers.{declarations}
use Rattle.class_layout.specs.ByClass.{assignable_row}
use Rattle.class_layout.proofs.ancestry.rows.Given as goal

abbrev pub invariant-loop-class : goal.invariant-loop-class
invariant-loop-class l = map (λ row. row.items) l.rows.items ≡ map (λ e. assignable_row l.classes.program.now e.0) (take l.class (declarations l.classes.program.now))
