use Rattle.std.proofs.Common.{◌≡◌, ◌≤◌, length}
use Rattle.cil_model.specs.Lexemes.{in_block, skip_gap}
use Rattle.ilasm_tokens.proofs.Text.{gap_state_of}
use Rattle.ilasm_tokens.proofs.spaces.after_block.Given as goal

abbrev pub invariant-loop-rest : goal.invariant-loop-rest
invariant-loop-rest l = record { within : length l.rest ≤ length l.bytes; value : skip_gap in_block l.bytes ≡ skip_gap (gap_state_of l.star) l.rest }

abbrev pub decreases-loop-rest : goal.decreases-loop-rest
decreases-loop-rest l = length l.rest
