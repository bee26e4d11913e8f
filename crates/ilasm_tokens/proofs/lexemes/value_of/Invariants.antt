use Rattle.std.proofs.Common.{◌≡◌, ◌≤◌, drop}
use Rattle.cil_model.specs.Lexemes.{value_from}
use Rattle.ilasm_tokens.proofs.lexemes.value_of.Given as goal

abbrev pub invariant-loop-digit : goal.invariant-loop-digit
invariant-loop-digit l = record { so_far : value_from l.value (drop l.digit-index l.digits) ≡ value_from 0 l.digits; small : l.value ≤ 9223372036854776007 }
