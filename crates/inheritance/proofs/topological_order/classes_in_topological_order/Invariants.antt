use Rattle.std.proofs.Common.{◌≡◌, []}
use Rattle.inheritance.proofs.TopologicalOrderFound.{HaveListed}
use Rattle.inheritance.proofs.topological_order.classes_in_topological_order.Given as goal

abbrev pub invariant-loop-start : goal.invariant-loop-start
invariant-loop-start l = HaveListed l.bases l.met.items l.listed.items l.classes.items l.start × (l.path.items ≡ [])
