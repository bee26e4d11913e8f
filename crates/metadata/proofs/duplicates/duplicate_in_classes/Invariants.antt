use Rattle.std.proofs.Common.{◌≡◌, drop}
use Rattle.std.specs.List.{list_any}
use Rattle.cil_model.specs.Legality.{class_doubles}
use Rattle.metadata.proofs.duplicates.duplicate_in_classes.Given as goal

abbrev pub invariant-loop-class : goal.invariant-loop-class
invariant-loop-class l = list_any class_doubles (drop l.class l.classes) ≡ list_any class_doubles l.classes
