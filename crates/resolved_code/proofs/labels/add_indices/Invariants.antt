use Rattle.std.proofs.Common.{◌≡◌, ◌++◌, map, take}
use Rattle.resolved_code.proofs.labels.add_indices.Given as goal

abbrev pub invariant-loop-label : goal.invariant-loop-label
invariant-loop-label l = l.indices.items ≡ l.fn.indices.items ++ map (λ x. l.index) (take l._label-index l._label-items)
