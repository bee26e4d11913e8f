use Rattle.std.proofs.Common.{◌≡◌, drop}
use Rattle.std.specs.List.{list_any}
use Rattle.cil_model.specs.Declarations.{source_name}
use Rattle.cil_model.specs.Legality.{is_own_base}
use Rattle.metadata.proofs.cycles.first_cyclic_base.Given as goal

abbrev pub invariant-loop-class : goal.invariant-loop-class
invariant-loop-class l = list_any (λ c. is_own_base l.names.classes.tree.now (source_name c)) (drop l.class l.classes) ≡ list_any (λ c. is_own_base l.names.classes.tree.now (source_name c)) l.classes
