use Rattle.std.proofs.Common.{◌≡◌, [], replicate}
use Rattle.end_explanations.proofs.progress.no_callers.Given as goal

-- an entry without callers for each thread so far
abbrev pub invariant-loop-thread : goal.invariant-loop-thread
invariant-loop-thread l = l.callers.items ≡ replicate l._thread []
