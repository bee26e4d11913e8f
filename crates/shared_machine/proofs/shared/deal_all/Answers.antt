use Rattle.std.proofs.Common.{◌≡◌, ◌∷◌, ◌++◌, ◌∙◌, [], length, ap, arith, length-append, sym}
use Rattle.std.proofs.lemmas.Result.{IfOk-from_err}
use Rattle.shared_machine.specs.Worlds.{fresh}
use Rattle.shared_machine.proofs.Histories.{zeros-after, fresh-more}
use Rattle.shared_machine.proofs.shared.deal_all.Goals as goal

pub returns-in_err-push-clause-book : goal.returns-in_err-push-clause-book
returns-in_err-push-clause-book g c = zeros-after _ _ c.deal.ensures.book c.loop-worker.invariant.zeros

pub loop-worker-preserved : goal.loop-worker-preserved
loop-worker-preserved g c =
    let long : length c.deal.new.self ≡ length (c.loop-worker.book ++ 0 ∷ []) = ap length c.deal.ensures.book in
    record {
      dealt = fresh-more _ _ _ _ c.in_ok-push.ensures.items c.loop-worker.invariant.dealt c.deal.ensures.ticket;
      exact_count = omega (arith, long, length-append c.loop-worker.book (0 ∷ []), c.loop-worker.invariant.exact_count);
      zeros = zeros-after _ _ c.deal.ensures.book c.loop-worker.invariant.zeros;
    }

pub deal-requires : goal.deal-requires
deal-requires g c = sym c.loop-worker.invariant.exact_count

pub returns-in_err-push-clause-tickets : goal.returns-in_err-push-clause-tickets
returns-in_err-push-clause-tickets g c = IfOk-from_err c.from_residual.result _ c.from_residual.ensures.0

pub returns-in_err-push-clause-each : goal.returns-in_err-push-clause-each
returns-in_err-push-clause-each g c = IfOk-from_err c.from_residual.result _ c.from_residual.ensures.0

pub returns-clause-tickets : goal.returns-clause-tickets
returns-clause-tickets g c = let all : c.loop-worker.worker ≡ c.args.workers = omega arith in c.loop-worker.invariant.dealt ∙ ap fresh all

pub returns-clause-each : goal.returns-clause-each
returns-clause-each g c = let all : c.loop-worker.worker ≡ c.args.workers = omega arith in c.loop-worker.invariant.exact_count ∙ all

pub returns-clause-book : goal.returns-clause-book
returns-clause-book g c = c.loop-worker.invariant.zeros
