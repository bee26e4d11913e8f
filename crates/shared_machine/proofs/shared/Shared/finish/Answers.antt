use Rattle.std.proofs.Common.{◌<◌, arith, refl, subst, below_more}
use Rattle.shared_machine.proofs.shared.Shared.finish.Goals as goal

pub loop-worker-preserved : goal.loop-worker-preserved
loop-worker-preserved g c = below_more _ _ c.loop-worker.invariant (c.if-not-has_ticket.ensures.0 refl)

pub returns-then-not-has_ticket-clause-exact : goal.returns-then-not-has_ticket-clause-exact
returns-then-not-has_ticket-clause-exact g c =
    (c.loop-worker.worker, subst (λ n. c.loop-worker.worker < n) c.self.view_is c.loop-worker-test.true, λ has. absurd (cc (c.has_ticket.ensures.1 has, c.if-not-has_ticket.true)))

pub returns-clause-exact : goal.returns-clause-exact
returns-clause-exact g c = λ worker below. c.loop-worker.invariant worker (omega (arith, below, c.self.view_is, c.loop-worker-test.false))

pub returns-clause-ran : goal.returns-clause-ran
returns-clause-ran g c = c.into_outcome.ensures.ran

pub returns-clause-theirs : goal.returns-clause-theirs
returns-clause-theirs g c = c.into_outcome.ensures.theirs

pub returns-clause-counts : goal.returns-clause-counts
returns-clause-counts g c = c.into_outcome.ensures.counts

pub returns-clause-printed : goal.returns-clause-printed
returns-clause-printed g c = c.into_outcome.ensures.printed
