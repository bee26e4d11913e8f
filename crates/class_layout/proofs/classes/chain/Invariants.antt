use Rattle.std.proofs.Common.{◌≡◌, ◌++◌, Some, map}
use Rattle.class_layout.specs.ByClass.{chain_by}
use Rattle.class_layout.proofs.classes.chain.Given as goal

abbrev pub invariant-loop-left : goal.invariant-loop-left
invariant-loop-left l = l.chain.items ++ chain_by (map (λ r. r.base) l.classes) l.left l.next ≡ chain_by (map (λ r. r.base) l.classes) l.fn.longest (Some l.fn.class)

abbrev pub decreases-loop-left : goal.decreases-loop-left
decreases-loop-left l = l.left
