use Rattle.std.proofs.Common.{◌≡◌, drop}
use Rattle.std.specs.List.{list_all}
use Rattle.cil_model.specs.Legality.{kinds_fit}
use Rattle.metadata.proofs.kinds.first_kind_mismatch.Given as goal

abbrev pub invariant-loop-class : goal.invariant-loop-class
invariant-loop-class l = list_all (kinds_fit l.slots.methods.now.names.now.classes.tree.now) (drop l.class l.classes) ≡ list_all (kinds_fit l.slots.methods.now.names.now.classes.tree.now) l.classes
