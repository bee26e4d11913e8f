use Rattle.std.proofs.Common.{◌≡◌, ◌≤◌, length}
use Rattle.cil_model.specs.Lexemes.{in_line, skip_gap}
use Rattle.ilasm_tokens.proofs.spaces.after_line.Given as goal

abbrev pub invariant-loop-rest : goal.invariant-loop-rest
invariant-loop-rest l = record { within : length l.rest ≤ length l.bytes; value : skip_gap in_line l.bytes ≡ skip_gap in_line l.rest }

abbrev pub decreases-loop-rest : goal.decreases-loop-rest
decreases-loop-rest l = length l.rest
