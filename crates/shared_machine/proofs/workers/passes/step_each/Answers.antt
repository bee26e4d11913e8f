use Rattle.std.proofs.Common.{arith}
use Rattle.shared_machine.proofs.TicketCounts.{served, worked_both}
use Rattle.shared_machine.proofs.workers.passes.step_each.Goals as goal
use Rattle.shared_machine.proofs.workers.passes.step_each.Goals.{then-is_served+else-not-lasts, else-is_served}

pub returns-then-not-lasts : goal.returns-then-not-lasts
returns-then-not-lasts g c =
    let drives = served c.args.plan.workers _ c.loop-thread.ticket.worker c.loop-thread.thread _ _ c.worker.ensures c.is_served.ensures c.if-is_served.true in
    worked_both c.args.plan.workers c.args.ticket.now c.loop-thread.ticket c.advance-came.new.ticket c.loop-thread.invariant (c.advance-came.ensures c.args.plan.workers (omega (arith, c.loop-thread-test.true, c.requires.few), drives))

pub loop-thread-preserved : goal.loop-thread-preserved
loop-thread-preserved g c = elim c.if-is_served.branch [
  | then-is_served+else-not-lasts w ↦
      let drives = served c.args.plan.workers _ c.loop-thread.ticket.worker c.loop-thread.thread _ _ c.worker.ensures c.is_served.ensures w.if-is_served.true in
      rw w.ticket-is (worked_both c.args.plan.workers c.args.ticket.now c.loop-thread.ticket w.advance-came.new.ticket c.loop-thread.invariant (w.advance-came.ensures c.args.plan.workers (omega (arith, c.loop-thread-test.true, c.requires.few), drives)))
  | else-is_served w ↦ rw w.ticket-is c.loop-thread.invariant
]
