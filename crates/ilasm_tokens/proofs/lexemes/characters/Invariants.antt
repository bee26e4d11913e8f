use Rattle.std.proofs.Common.{◌≡◌, ◌<◌, false, length}
use Rattle.std.specs.Prelude.{All}
use Rattle.ilasm_tokens.specs.Steps.{with_front}
use Rattle.ilasm_tokens.specs.Lexing.{quoted_from}
use Rattle.ilasm_tokens.proofs.lexemes.characters.Given as goal

abbrev pub invariant-loop-found : goal.invariant-loop-found
invariant-loop-found l = record { ascii : All (λ b. b < 128) l.text.items; so_far : with_front l.text.items (quoted_from false l.rest) ≡ quoted_from false l.bytes }

abbrev pub decreases-loop-found : goal.decreases-loop-found
decreases-loop-found l = length l.rest
