use Rattle.std.proofs.Common.{◌≡◌, ◌+◌, take}
use Rattle.std.specs.List.{sum_by}
use Rattle.cil_model.specs.declared.limits.TheConstants.{MOST_STATIC_FIELDS}
use Rattle.metadata.specs.Counts.{static_count}
use Rattle.metadata.proofs.limits.exceeded_by_static_fields.Given as goal

abbrev pub invariant-loop-class : goal.invariant-loop-class
invariant-loop-class l = sum_by (static_count l.names.classes.tree.now) (take l.class l.classes) + l.left ≡ MOST_STATIC_FIELDS
