use Rattle.std.proofs.Common.{◌≡◌}
use Rattle.flip_stress.specs.Stress.{IsSameCopier}
use Rattle.flip_stress.proofs.collector.retire_all.Given as goal

abbrev pub invariant-loop-index : goal.invariant-loop-index
invariant-loop-index l = record {
  same_copier : IsSameCopier l.initial.copier l.copier;
  retired_so_far : l.retired ≡ l.index;
}
