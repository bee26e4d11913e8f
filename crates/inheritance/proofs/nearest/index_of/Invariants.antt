use Rattle.std.proofs.Common.{◌≡◌, ◌==◌, drop}
use Rattle.std.specs.List.{position_from}
use Rattle.inheritance.proofs.nearest.index_of.Given as goal

abbrev pub invariant-loop-index : goal.invariant-loop-index
invariant-loop-index l = position_from (λ k. l.key == k) l.index (drop l.index l.keys) ≡ position_from (λ k. l.key == k) 0 l.keys
