use Rattle.std.proofs.Common.{◌≡◌, drop}
use Rattle.source_lines.specs.Lines.{index_from}
use Rattle.source_lines.proofs.finding.index_from.Given as goal

-- what is found from the first index on is found from this one on, past the others that are left
abbrev pub invariant-loop-index : goal.invariant-loop-index
invariant-loop-index l = index_from l.part l.others l.from (drop l.from l.tokens) ≡ index_from l.part l.left l.index (drop l.index l.tokens)
