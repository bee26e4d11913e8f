use Rattle.std.proofs.Common.{◌≡◌, length}
use Rattle.cil_model.specs.Lexemes.{between, skip_gap}
use Rattle.ilasm_tokens.proofs.spaces.after_spaces.Given as goal

abbrev pub invariant-loop-rest : goal.invariant-loop-rest
invariant-loop-rest l = skip_gap between l.bytes ≡ skip_gap between l.rest

abbrev pub decreases-loop-rest : goal.decreases-loop-rest
decreases-loop-rest l = length l.rest
