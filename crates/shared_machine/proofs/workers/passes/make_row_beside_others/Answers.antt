use Rattle.shared_machine.proofs.TicketCounts.{worked_nothing, worked_then}
use Rattle.shared_machine.proofs.workers.passes.make_row_beside_others.Goals as goal

pub loop-pass-init : goal.loop-pass-init
loop-pass-init g c = record { here = c.requires.here; worked = worked_nothing _ _ }

pub loop-pass-preserved : goal.loop-pass-preserved
loop-pass-preserved g c = record {
  here = c.post_if_waiting.ensures;
  worked = worked_then c.args.workers c.args.ticket.now c.loop-pass.ticket c.advance_and_collect-results.new.ticket c.args.thread c.requires.own c.loop-pass.invariant.worked c.advance_and_collect-results.ensures;
}

pub returns-then-not-continues_row_beside_others-clause-worked : goal.returns-then-not-continues_row_beside_others-clause-worked
returns-then-not-continues_row_beside_others-clause-worked g c =
    worked_then c.args.workers c.args.ticket.now c.loop-pass.ticket c.advance_and_collect-results.new.ticket c.args.thread c.requires.own c.loop-pass.invariant.worked c.advance_and_collect-results.ensures
