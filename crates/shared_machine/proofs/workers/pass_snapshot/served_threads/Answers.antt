use Rattle.std.proofs.Common.{sym, ◌∙◌, arith}
use Rattle.shared_machine.proofs.ServedThreads.{count_with, count_without}
use Rattle.shared_machine.proofs.workers.pass_snapshot.served_threads.Goals as goal
use Rattle.shared_machine.proofs.workers.pass_snapshot.served_threads.Goals.{then-is_served, else-is_served}

pub loop-thread-preserved : goal.loop-thread-preserved
loop-thread-preserved c =
    let before = c.loop-thread.invariant in
    elim c.if-is_served.branch [
      | then-is_served w ↦ record {
        count = w.count-is ∙ count_with c.args.machine.now c.args.workers c.args.worker c.loop-thread.thread c.loop-thread.count before.count (sym c.is_served.ensures ∙ w.if-is_served.true);
        few = (let is = w.count-is in let few = before.few in omega (arith, is, few));
      }
      | else-is_served w ↦ record {
        count = w.count-is ∙ count_without c.args.machine.now c.args.workers c.args.worker c.loop-thread.thread c.loop-thread.count before.count (sym c.is_served.ensures ∙ w.if-is_served.false);
        few = (let is = w.count-is in let few = before.few in omega (arith, is, few));
      }
    ]
