use Rattle.diagnostics.proofs.RefusalLemmas.{not_accepted}
use Rattle.diagnostics.proofs.explanations.explain.Goals as goal

pub returns-in-Ok-clause-accepted : goal.returns-in-Ok-clause-accepted
returns-in-Ok-clause-accepted c = λ none. (c.in-Ok.field-0, c.in-Ok.ensures.accepted)

pub returns-clause-refused : goal.returns-clause-refused
returns-clause-refused c = λ some. not_accepted c.args.source.now c.in-Err.error c.answers_are_unique.ensures c.in-Err.ensures.refused c.in_ok-text-in-Err.ensures
