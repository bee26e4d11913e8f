use Rattle.std.proofs.Common.{◌≡◌, [], map, replicate}
use Rattle.inheritance.proofs.scoped_tables.empty_rows.Given as goal

abbrev pub invariant-loop : goal.invariant-loop
invariant-loop l = map (λ v. v.items) l.rows.items ≡ replicate l.counter []
