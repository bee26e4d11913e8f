use Rattle.shared_machine.proofs.TicketCounts.{first_is_own, worked_alone}
use Rattle.shared_machine.proofs.workers.passes.make_row.Goals as goal

pub loop-pass-preserved : goal.loop-pass-preserved
loop-pass-preserved g c = worked_alone c.args.ticket.now c.loop-pass.ticket c.advance_and_collect-results.new.ticket c.loop-pass.invariant (λ first. c.advance_and_collect-results.ensures 1 (first_is_own c.loop-pass.ticket.worker first))

pub returns-then-not-continues_row : goal.returns-then-not-continues_row
returns-then-not-continues_row g c = worked_alone c.args.ticket.now c.loop-pass.ticket c.advance_and_collect-results.new.ticket c.loop-pass.invariant (λ first. c.advance_and_collect-results.ensures 1 (first_is_own c.loop-pass.ticket.worker first))
