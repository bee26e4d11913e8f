use Rattle.acceptance.proofs.sources.accept.Goals as goal

pub returns-in-Err-clause-refused : goal.returns-in-Err-clause-refused
returns-in-Err-clause-refused c = (c.in-Err.error, c.in-Err.ensures.refused, c.failure.ensures)
