use Rattle.std.proofs.Common.{subst}
use Rattle.std.specs.Prelude.{IfSome}
use Rattle.shared_machine.specs.Worlds.{AgreesWith}
use Rattle.api_tests.proofs.Tickets.{did_counts}
use Rattle.api_tests.proofs.two_workers.act_both.Goals as goal

pub returns-in-Some-clause-one : goal.returns-in-Some-clause-one
returns-in-Some-clause-one g c = did_counts _ _ _ _ c.in-Some.outcome.history.entries c.join-one.ensures.first (subst (λ end. IfSome end (λ o. AgreesWith o.history.entries c.join-one.result.0.1)) c.in-Some.is c.in_ok-finish_both.ensures.one)

pub returns-in-Some-clause-other : goal.returns-in-Some-clause-other
returns-in-Some-clause-other g c = did_counts _ _ _ _ c.in-Some.outcome.history.entries c.join-one.ensures.second (subst (λ end. IfSome end (λ o. AgreesWith o.history.entries c.join-one.result.1.1)) c.in-Some.is c.in_ok-finish_both.ensures.other)
