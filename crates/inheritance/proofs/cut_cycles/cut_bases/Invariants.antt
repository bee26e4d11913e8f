use Rattle.inheritance.specs.CutCycles.{HasBasesOf}
use Rattle.inheritance.proofs.cut_cycles.cut_bases.Given as goal

abbrev pub invariant-loop-index : goal.invariant-loop-index
invariant-loop-index l = HasBasesOf l.bases l.cut.items
