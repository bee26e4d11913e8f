use Rattle.std.proofs.Common.{◌≡◌, replicate, None}
use Rattle.verifier.proofs.search.unmapped_stacks.Given as goal

abbrev pub invariant-loop-pc : goal.invariant-loop-pc
invariant-loop-pc l = l.rows.items ≡ replicate l.pc None
