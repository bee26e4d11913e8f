use Rattle.std.proofs.Common.{take, pos}
use Rattle.verifier.specs.Answers.{IsRisen}
use Rattle.verifier.proofs.search.Search.raise_all.Given as goal

abbrev pub invariant-loop-index : goal.invariant-loop-index
invariant-loop-index l = IsRisen l.types (pos l.most) l.after (take l.index l.ways) l.fn.self l.self
