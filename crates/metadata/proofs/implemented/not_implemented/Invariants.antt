use Rattle.std.proofs.Common.{◌≡◌, drop}
use Rattle.std.specs.List.{list_all}
use Rattle.cil_model.specs.Legality.{implements_all}
use Rattle.metadata.proofs.implemented.not_implemented.Given as goal

abbrev pub invariant-loop-class : goal.invariant-loop-class
invariant-loop-class l = list_all (implements_all l.methods.names.now.classes.tree.now) (drop l.class l.classes) ≡ list_all (implements_all l.methods.names.now.classes.tree.now) l.classes
