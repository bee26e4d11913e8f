use Rattle.std.proofs.Common.{◌≡◌, Some, map, take, slice_get}
use Rattle.cil_model.specs.declared.types.ClassName.{ClassName}
use Rattle.cil_model.specs.Declarations.{Declaration}
use Rattle.name_tables.specs.Numbers.{declarations}
use Rattle.resolved_code.specs.ResolvedPrograms.{AllAlike, IsResolvedMethod}
use Rattle.class_layout.specs.Targets.{target_row, targets_of}
use Rattle.class_layout.proofs.targets.rows_of.Given as goal

abbrev pub invariant-loop-index : goal.invariant-loop-index
invariant-loop-index l =
    (e : ClassName × Declaration) → slice_get (declarations l.classes.program.now) l.class ≡ Some e → AllAlike (IsResolvedMethod l.classes.program.now) e.1.methods l.methods →
    map targets_of l.rows.items ≡ map (target_row l.classes.program.now e.0) (take l.index e.1.methods)
