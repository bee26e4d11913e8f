use Rattle.flip_stress.specs.Stress.{IsSameCopier}
use Rattle.flip_stress.proofs.collector.retire_slot.Given as goal

abbrev pub invariant-loop-transition : goal.invariant-loop-transition
invariant-loop-transition l = IsSameCopier l.initial.copier l.copier
