use Rattle.std.proofs.lemmas.Result.{IfOk-weaker, on_err_weaker}
use Rattle.shared_machine.proofs.TicketCounts.{worked_in_place, worked_nothing}
use Rattle.shared_machine.proofs.workers.passes.step_in_place.Goals as goal

pub returns-then-eq : goal.returns-then-eq
returns-then-eq g c = λ workers own. worked_nothing workers c.args.ticket.now

pub returns-then-matches : goal.returns-then-matches
returns-then-matches g c = λ workers own.
    worked_in_place workers c.args.ticket.now c.step_locally-done.new.ticket c.args.thread c.step_locally-done.result
    (IfOk-weaker c.step_locally-done.result _ _ (λ n stepped. stepped.counted) c.step_locally-done.ensures.done)
    (on_err_weaker c.step_locally-done.result (λ same. same.1) c.step_locally-done.ensures.same) own

pub returns-else-matches : goal.returns-else-matches
returns-else-matches g c = λ workers own.
    worked_in_place workers c.args.ticket.now c.step_locally-done.new.ticket c.args.thread c.step_locally-done.result
    (IfOk-weaker c.step_locally-done.result _ _ (λ n stepped. stepped.counted) c.step_locally-done.ensures.done)
    (on_err_weaker c.step_locally-done.result (λ same. same.1) c.step_locally-done.ensures.same) own
