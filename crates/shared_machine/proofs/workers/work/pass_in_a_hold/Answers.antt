use Rattle.shared_machine.proofs.TicketCounts.{worked_both, worked_nothing}
use Rattle.shared_machine.proofs.workers.work.pass_in_a_hold.Goals as goal
use Rattle.shared_machine.proofs.workers.work.pass_in_a_hold.Goals.{else-loop-pass-test, then-loop-pass-test+then-is_end}

pub loop-pass-init : goal.loop-pass-init
loop-pass-init g c = record { here = c.requires.here; worked = worked_nothing _ _ }

pub loop-pass-preserved : goal.loop-pass-preserved
loop-pass-preserved g c = record {
  here = c.pass.ensures.here;
  worked = worked_both _ _ _ _ c.loop-pass.invariant.worked c.pass.ensures.worked;
}

pub returns-clause-worked : goal.returns-clause-worked
returns-clause-worked g c = elim c.loop-pass-test.branch [
  | else-loop-pass-test w ↦ rw w.worker-is c.loop-pass.invariant.worked
  | then-loop-pass-test+then-is_end w ↦ rw w.worker-is (worked_both _ _ _ _ c.loop-pass.invariant.worked w.pass.ensures.worked)
]
