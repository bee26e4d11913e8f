use Rattle.std.proofs.Common.{◌≡◌, map, drop}
use Rattle.std.specs.List.{list_all}
use Rattle.metadata.proofs.UnknownLaws.{is_type}
use Rattle.metadata.proofs.unknown.unknown_among_types.Given as goal

abbrev pub invariant-loop-sited : goal.invariant-loop-sited
invariant-loop-sited l = list_all (is_type l.names.classes.tree.now) (map (λ x. x.declared.now) (drop l.sited-index l.types)) ≡ list_all (is_type l.names.classes.tree.now) (map (λ x. x.declared.now) l.types)
