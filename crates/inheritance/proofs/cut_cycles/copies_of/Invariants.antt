use Rattle.std.proofs.Common.{◌≡◌, map, take}
use Rattle.inheritance.proofs.cut_cycles.copies_of.Given as goal

abbrev pub invariant-loop-row : goal.invariant-loop-row
invariant-loop-row l = map (λ v. v.items) l.copies.items ≡ map (λ v. v.items) (take l.row-index l.rows)
