use Rattle.std.proofs.Common.{◌≡◌, map, take, Some}
use Rattle.resolved_code.specs.Rules.{all_some}
use Rattle.resolved_code.proofs.items.resolve_all.Given as goal

abbrev pub invariant-loop-item : goal.invariant-loop-item
invariant-loop-item g l = all_some (map (g.R.Resolve.rule l.resolver) (take l.item-index l.items)) ≡ Some l.resolved.items
