use Rattle.cilvm_c.proofs.EventsDone.{HaveRun}
use Rattle.cilvm_c.proofs.running.make_steps.Given as goal

-- a step is made in each iteration so far, and all ran
abbrev pub invariant-loop-time : goal.invariant-loop-time
invariant-loop-time l = HaveRun l.fn.machine l.thread l.time l.machine
