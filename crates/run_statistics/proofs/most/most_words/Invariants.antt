use Rattle.std.proofs.Common.{take}
use Rattle.shared_machine.specs.Histories.{plain}
use Rattle.run_statistics.specs.MostWords.{IsMostInUse}
use Rattle.run_statistics.proofs.MostLemmas.{pairs_of}
use Rattle.run_statistics.proofs.most.most_words.Given as goal

-- the most words in use through the events of the runs so far
abbrev pub invariant-loop-run : goal.invariant-loop-run
invariant-loop-run l = IsMostInUse l.fn.machine (pairs_of (plain (take l.run-index l.runs))) l.machine l.most
