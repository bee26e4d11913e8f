use Rattle.std.proofs.Common.{◌≡◌, ◌+◌, ◌==◌, length}
use Rattle.std.specs.List.{count_by}
use Rattle.source_lines.proofs.lines.line_feeds.Given as goal

-- the line feeds so far, and those that are left
abbrev pub invariant-loop-rest : goal.invariant-loop-rest
invariant-loop-rest l = l.feeds + count_by (λ byte. byte == 10) l.rest ≡ count_by (λ byte. byte == 10) l.bytes

abbrev pub decreases-loop-rest : goal.decreases-loop-rest
decreases-loop-rest l = length l.rest
