use Rattle.std.proofs.Common.{◌≡◌, false, length}
use Rattle.ilasm_tokens.specs.Lexing.{quoted_from, past_quote}
use Rattle.ilasm_tokens.proofs.lexemes.after_quote.Given as goal

abbrev pub invariant-loop-found : goal.invariant-loop-found
invariant-loop-found l = past_quote (quoted_from false l.rest) ≡ past_quote (quoted_from false l.bytes)

abbrev pub decreases-loop-found : goal.decreases-loop-found
decreases-loop-found l = length l.rest
