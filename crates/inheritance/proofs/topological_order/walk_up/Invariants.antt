use Rattle.std.specs.List.{sum_by}
use Rattle.inheritance.specs.TopologicalOrder.{HasMet}
use Rattle.inheritance.proofs.TopologicalOrderLaws.{unmet}
use Rattle.inheritance.proofs.topological_order.walk_up.Given as goal

abbrev pub invariant-loop-class : goal.invariant-loop-class
invariant-loop-class l = HasMet l.bases l.fn.met l.first l.met l.path.items l.next

abbrev pub decreases-loop-class : goal.decreases-loop-class
decreases-loop-class l = sum_by unmet l.met
