use Rattle.std.proofs.Common.{◌≡◌, ◌+◌, ◌≤◌, length, take}
use Rattle.std.specs.List.{suffix_len}
use Rattle.source_positions.specs.Positions.{is_in_line}
use Rattle.source_positions.proofs.lines.line_start.Given as goal

-- the bytes from here on are in the line
abbrev pub invariant-loop-start : goal.invariant-loop-start
invariant-loop-start l = (l.start ≤ length l.text) × (l.start + suffix_len is_in_line (take l.offset l.text) ≡ length (take l.offset l.text) + suffix_len is_in_line (take l.start l.text))

abbrev pub decreases-loop-start : goal.decreases-loop-start
decreases-loop-start l = l.start
