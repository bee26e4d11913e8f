use Rattle.std.proofs.Common.{replicate}
use Rattle.cilvm_c.proofs.EventsDone.{HasTurned}
use Rattle.cilvm_c.proofs.running.repeat.Given as goal

-- the event is done once in each iteration so far
abbrev pub invariant-loop-time : goal.invariant-loop-time
invariant-loop-time l = HasTurned l.fn.machine (replicate l.time l.item.event) l.machine
