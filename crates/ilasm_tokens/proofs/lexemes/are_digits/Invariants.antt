use Rattle.std.proofs.Common.{◌≡◌, drop}
use Rattle.std.specs.List.{list_all}
use Rattle.cil_model.specs.Words.{is_digit}
use Rattle.ilasm_tokens.proofs.lexemes.are_digits.Given as goal

abbrev pub invariant-loop-byte : goal.invariant-loop-byte
invariant-loop-byte l = list_all is_digit (drop l.byte-index l.bytes) ≡ list_all is_digit l.bytes
