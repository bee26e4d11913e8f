use Rattle.run_picture.proofs.PathLaws.{HasPathsBefore}
use Rattle.run_picture.proofs.plots.rows.Given as goal

-- the content has the paths of the first rows
abbrev pub invariant-loop-number : goal.invariant-loop-number
invariant-loop-number l = HasPathsBefore l.content l.rows.rows.items l.number
