use Rattle.std.proofs.Common.{◌<◌, ℕ}
use Rattle.exploration.proofs.Names.{CannotStepAt}
use Rattle.exploration.proofs.checking.is_terminal.Given as goal

-- the threads so far
abbrev pub invariant-loop-thread : goal.invariant-loop-thread
invariant-loop-thread g l = (t : ℕ) → t < l.thread → CannotStepAt g.M.First.first l.fn.events t
