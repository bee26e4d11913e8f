use Rattle.std.specs.List.{zip}
use Rattle.std.specs.Prelude.{replicate}
use Rattle.run_statistics.specs.MostWords.{IsMostInUse}
use Rattle.run_statistics.proofs.most.most_words_of_run.Given as goal

-- the most words in use while the event was performed n times
abbrev pub invariant-loop-time : goal.invariant-loop-time
invariant-loop-time l = IsMostInUse l.fn.machine (zip (replicate l._time l.run.entry.event) (replicate l._time l.run.entry.report)) l.machine l.most
