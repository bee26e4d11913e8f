use Rattle.flip_stress.specs.Stress.{IsSameCopier}
use Rattle.flip_stress.proofs.collector.copy_all.Given as goal

abbrev pub invariant-loop-index : goal.invariant-loop-index
invariant-loop-index l = IsSameCopier l.initial.copier l.copier
