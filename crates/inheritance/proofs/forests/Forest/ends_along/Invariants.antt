use Rattle.std.proofs.Common.{◌↔◌}
use Rattle.inheritance.specs.Lines.{Ends}
use Rattle.inheritance.proofs.LineLaws.{EndsFrom}
use Rattle.inheritance.proofs.forests.Forest.ends_along.Given as goal

abbrev pub invariant-loop-left : goal.invariant-loop-left
invariant-loop-left l = EndsFrom l.self.bases.items l.left l.next ↔ Ends l.self.bases.items l.self.most l.fn.first

abbrev pub decreases-loop-left : goal.decreases-loop-left
decreases-loop-left l = l.left
