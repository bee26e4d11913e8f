use Rattle.std.proofs.Common.{◌≡◌, take}
use Rattle.shared_machine.specs.Histories.{plain}
use Rattle.run_statistics.proofs.CountLemmas.{capped, counted}
use Rattle.run_statistics.proofs.counting.count.Given as goal

-- what is counted in the runs so far
abbrev pub invariant-loop-run : goal.invariant-loop-run
invariant-loop-run l = l.number ≡ capped (counted l.quantity (plain (take l.run-index l.runs)))
