use Rattle.inheritance.specs.CutCycles.{AreParts}
use Rattle.inheritance.proofs.cut_cycles.parts_of.Given as goal

abbrev pub invariant-loop-class : goal.invariant-loop-class
invariant-loop-class l = AreParts l.bases l.parts.items
