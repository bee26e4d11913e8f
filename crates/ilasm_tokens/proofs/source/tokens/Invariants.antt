use Rattle.std.proofs.Common.{length}
use Rattle.ilasm_tokens.specs.Steps.{many}
use Rattle.ilasm_tokens.specs.Lexing.{not_empty, spaced_lexeme_at}
use Rattle.ilasm_tokens.proofs.Many.{Reading}
use Rattle.ilasm_tokens.proofs.source.tokens.Given as goal

abbrev pub invariant-loop-rest : goal.invariant-loop-rest
invariant-loop-rest l = Reading not_empty spaced_lexeme_at (many not_empty spaced_lexeme_at l.initial.rest) l.tokens.items l.rest

abbrev pub decreases-loop-rest : goal.decreases-loop-rest
decreases-loop-rest l = length l.rest
