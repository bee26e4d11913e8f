use Rattle.std.proofs.Common.{take}
use Rattle.driver.proofs.Names.{Takes, lines_from}
use Rattle.driver.proofs.showing.write_ends.Given as goal

-- the lines of the threads so far are written
abbrev pub invariant-loop-thread : goal.invariant-loop-thread
invariant-loop-thread g l = Takes (g.E.Out.taken l.initial.err) (g.E.Out.taken l.err) (lines_from 0 (take l.thread l.ends))
