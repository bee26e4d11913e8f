use Rattle.std.proofs.Common.{map, drop}
use Rattle.inheritance.specs.Changes.{AddsChanges, AreUpTo}
use Rattle.inheritance.proofs.changes.record_all.Given as goal

abbrev pub invariant-loop-index : goal.invariant-loop-index
invariant-loop-index l =
    AddsChanges (map (λ v. v.items) l.initial.changes.items) (map (λ v. v.items) l.changes.items) (drop l.index l.keys) l.index l.source l.time ×
    AreUpTo l.time (map (λ v. v.items) l.changes.items)
