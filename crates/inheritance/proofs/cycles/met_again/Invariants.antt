use Rattle.std.specs.List.{sum_by}
use Rattle.inheritance.proofs.WalkLaws.{IsWalking, unmarked}
use Rattle.inheritance.proofs.cycles.met_again.Given as goal

abbrev pub invariant-loop-class : goal.invariant-loop-class
invariant-loop-class l = IsWalking l.bases l.fn.walks l.first l.walk l.walks l.class

abbrev pub decreases-loop-class : goal.decreases-loop-class
decreases-loop-class l = sum_by unmarked l.walks
