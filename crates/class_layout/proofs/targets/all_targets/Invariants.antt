use Rattle.std.proofs.Common.{◌≡◌, map, take}
use Rattle.name_tables.specs.Numbers.{declarations}
use Rattle.class_layout.specs.Targets.{target_rows, targets_of}
use Rattle.class_layout.proofs.targets.all_targets.Given as goal

abbrev pub invariant-loop-class : goal.invariant-loop-class
invariant-loop-class l = map (λ row. map targets_of row.items) l.rows.items ≡ map (λ e. target_rows l.classes.program.now e.0) (take l.class (declarations l.classes.program.now))
