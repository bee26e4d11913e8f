use Rattle.std.proofs.Common.{◌≡◌, drop}
use Rattle.std.specs.List.{list_all}
use Rattle.cil_model.specs.Legality.{is_small_class}
use Rattle.metadata.proofs.limits.exceeded_by_classes.Given as goal

abbrev pub invariant-loop-number : goal.invariant-loop-number
invariant-loop-number l = list_all (is_small_class l.names.classes.tree.now) (drop l.number l.class-items) ≡ list_all (is_small_class l.names.classes.tree.now) l.class-items
