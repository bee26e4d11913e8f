use Rattle.std.proofs.Common.{◌≡◌, ◌&&◌, drop}
use Rattle.std.specs.List.{list_all}
use Rattle.cil_model.specs.Legality.{is_resolved, is_source_interface}
use Rattle.metadata.proofs.unknown.unknown_interface.Given as goal

abbrev pub invariant-loop-entry : goal.invariant-loop-entry
invariant-loop-entry l = list_all (λ i. is_resolved l.names.classes.tree.now i && is_source_interface l.names.classes.tree.now i) (drop l.entry l.interfaces) ≡ list_all (λ i. is_resolved l.names.classes.tree.now i && is_source_interface l.names.classes.tree.now i) l.interfaces
