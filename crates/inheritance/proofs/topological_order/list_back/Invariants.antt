use Rattle.inheritance.proofs.TopologicalOrderLaws.{IsListing}
use Rattle.inheritance.proofs.topological_order.list_back.Given as goal

abbrev pub invariant-loop-class : goal.invariant-loop-class
invariant-loop-class l = IsListing l.fn.listed l.fn.path.items l.fn.classes.items l.listed l.path.items l.classes.items

abbrev pub decreases-loop-class : goal.decreases-loop-class
decreases-loop-class l = goal.left-loop-class l
