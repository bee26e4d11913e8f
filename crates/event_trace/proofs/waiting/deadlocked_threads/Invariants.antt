use Rattle.event_trace.proofs.Greatest.{RoundsSoFar}
use Rattle.event_trace.proofs.waiting.deadlocked_threads.Given as goal

-- the rounds so far were made
abbrev pub invariant-loop-round : goal.invariant-loop-round
invariant-loop-round l = RoundsSoFar l.machine l._round l.set.items
