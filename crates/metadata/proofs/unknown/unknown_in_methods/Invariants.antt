use Rattle.std.proofs.Common.{◌≡◌, map, drop}
use Rattle.std.specs.List.{list_all}
use Rattle.metadata.specs.NameChecks.{knows_names}
use Rattle.metadata.proofs.unknown.unknown_in_methods.Given as goal

abbrev pub invariant-loop-index : goal.invariant-loop-index
invariant-loop-index l = list_all (knows_names l.names.classes.tree.now) (map (λ m. m.now) (drop l.index l.methods)) ≡ list_all (knows_names l.names.classes.tree.now) (map (λ m. m.now) l.methods)
