use Rattle.std.proofs.Common.{◌≡◌, ◌+◌, take}
use Rattle.std.specs.List.{sum_by}
use Rattle.cil_model.specs.declared.limits.TheConstants.{MOST_INSTANCE_FIELDS}
use Rattle.metadata.specs.Counts.{instance_count}
use Rattle.metadata.proofs.limits.has_few_instance_fields.Given as goal

abbrev pub invariant-loop-class : goal.invariant-loop-class
invariant-loop-class l = sum_by (instance_count l.names.classes.tree.now) (take l.class-index l.chain) + l.left ≡ MOST_INSTANCE_FIELDS
