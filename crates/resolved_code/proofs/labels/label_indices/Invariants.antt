use Rattle.std.proofs.Common.{◌≡◌, take}
use Rattle.resolved_code.specs.LabelIndices.{label_indices}
use Rattle.resolved_code.proofs.labels.label_indices.Given as goal

abbrev pub invariant-loop-index : goal.invariant-loop-index
invariant-loop-index l = l.indices.items ≡ label_indices 0 (take l.index l.lines)
