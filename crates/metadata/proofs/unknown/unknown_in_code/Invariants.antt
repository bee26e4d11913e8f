use Rattle.std.proofs.Common.{◌≡◌, drop}
use Rattle.std.specs.List.{list_all}
use Rattle.cil_model.specs.Declarations.{method_members}
use Rattle.metadata.specs.NameChecks.{knows_names}
use Rattle.metadata.proofs.unknown.unknown_in_code.Given as goal

abbrev pub invariant-loop-class : goal.invariant-loop-class
invariant-loop-class l = list_all (λ c. list_all (knows_names l.names.classes.tree.now) (method_members c)) (drop l.class l.declared-items) ≡ list_all (λ c. list_all (knows_names l.names.classes.tree.now) (method_members c)) l.declared-items
