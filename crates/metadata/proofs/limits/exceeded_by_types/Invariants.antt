use Rattle.std.proofs.Common.{◌≡◌, map, drop, nat_le}
use Rattle.std.specs.List.{list_all}
use Rattle.cil_model.specs.declared.limits.TheConstants.{MOST_BRACKETS}
use Rattle.metadata.proofs.limits.exceeded_by_types.Given as goal

abbrev pub invariant-loop-sited : goal.invariant-loop-sited
invariant-loop-sited l = list_all (λ t. nat_le t.brackets MOST_BRACKETS) (map (λ t. t.declared.now) (drop l.sited-index l.types)) ≡ list_all (λ t. nat_le t.brackets MOST_BRACKETS) (map (λ t. t.declared.now) l.types)
