use Rattle.std.proofs.Common.{◌≡◌, [], replicate}
use Rattle.run_picture.proofs.rows.Rows.new.Given as goal

-- the rows so far draw nothing
abbrev pub invariant-loop-row : goal.invariant-loop-row
invariant-loop-row l = l.rows.items ≡ replicate l._row []
