use Rattle.std.proofs.Common.{◌≡◌, take}
use Rattle.event_trace.proofs.Names.{restrict, stays}
use Rattle.event_trace.proofs.waiting.after_round.Given as goal

-- the entries so far
abbrev pub invariant-loop-thread : goal.invariant-loop-thread
invariant-loop-thread l = l.next.items ≡ restrict (stays l.machine l.set) 0 (take l.thread l.set)
