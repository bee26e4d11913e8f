use Rattle.std.proofs.Common.{◌≡◌, drop, true}
use Rattle.cil_model.specs.Words.{are_segments}
use Rattle.ilasm_tokens.proofs.lexemes.are_segments.Given as goal

abbrev pub invariant-loop-byte : goal.invariant-loop-byte
invariant-loop-byte l = are_segments l.begins (drop l.byte-index l.word) ≡ are_segments true l.word
