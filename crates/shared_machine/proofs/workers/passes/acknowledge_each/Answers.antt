use Rattle.std.proofs.Common.{arith}
use Rattle.shared_machine.proofs.TicketCounts.{served, worked_both}
use Rattle.shared_machine.proofs.workers.passes.acknowledge_each.Goals as goal
use Rattle.shared_machine.proofs.workers.passes.acknowledge_each.Goals.{then-is_served+else-eq, else-is_served}

pub returns-then-eq : goal.returns-then-eq
returns-then-eq g c =
    let drives = served c.args.workers _ c.loop-thread.ticket.worker c.loop-thread.thread _ _ c.worker.ensures c.is_served.ensures c.if-is_served.true in
    worked_both c.args.workers c.args.ticket.now c.loop-thread.ticket c.ask-answer.new.ticket c.loop-thread.invariant (c.ask-answer.ensures c.args.workers (omega (arith, c.loop-thread-test.true, c.requires.few), drives))

pub loop-thread-preserved : goal.loop-thread-preserved
loop-thread-preserved g c = elim c.if-is_served.branch [
  | then-is_served+else-eq w ↦
      let drives = served c.args.workers _ c.loop-thread.ticket.worker c.loop-thread.thread _ _ c.worker.ensures c.is_served.ensures w.if-is_served.true in
      rw w.ticket-is (worked_both c.args.workers c.args.ticket.now c.loop-thread.ticket w.ask-answer.new.ticket c.loop-thread.invariant (w.ask-answer.ensures c.args.workers (omega (arith, c.loop-thread-test.true, c.requires.few), drives)))
  | else-is_served w ↦ rw w.ticket-is c.loop-thread.invariant
]
