use Rattle.std.proofs.Common.{◌≡◌, Some}
use Rattle.inheritance.specs.ScopedTables.{nearest_from}
use Rattle.inheritance.proofs.forests.Forest.nearest_along.Given as goal

abbrev pub invariant-loop-left : goal.invariant-loop-left
invariant-loop-left l = nearest_from l.self l.key l.left l.next ≡ nearest_from l.self l.key l.self.most (Some l.fn.first)

abbrev pub decreases-loop-left : goal.decreases-loop-left
decreases-loop-left l = l.left
