use Rattle.api_tests.proofs.Tickets.{first_agrees, second_agrees}
use Rattle.api_tests.proofs.two_workers.finish_both.Goals as goal

pub returns-in-Ok-clause-one : goal.returns-in-Ok-clause-one
returns-in-Ok-clause-one g c = first_agrees c.in-Ok.outcome.history.entries _ _ _ c.in_ok-both.ensures c.in-Ok.ensures.counts

pub returns-in-Ok-clause-other : goal.returns-in-Ok-clause-other
returns-in-Ok-clause-other g c = second_agrees c.in-Ok.outcome.history.entries _ _ _ c.in_ok-both.ensures c.in-Ok.ensures.counts
