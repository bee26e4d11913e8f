use Rattle.std.proofs.Common.{sym, ◌∙◌}
use Rattle.inheritance.proofs.query.note.Goals as goal

pub returns-then-is_match-clause-only : goal.returns-then-is_match-clause-only
returns-then-is_match-clause-only c = λ s t low high. let raised = c.raise.ensures.only s t low high in (raised.0, raised.1, sym c.is_match.ensures ∙ c.if-is_match.true)
