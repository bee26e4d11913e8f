use Rattle.shared_machine.proofs.TicketCounts.{worked_both}
use Rattle.shared_machine.proofs.workers.work.work.Goals as goal
use Rattle.shared_machine.proofs.workers.work.work.Goals.{in-None, in-Some+then-is_end}

pub loop-preserved : goal.loop-preserved
loop-preserved g c = record {
  here = c.pass_in_a_hold-passed.ensures.here;
  worked = worked_both _ _ _ _ c.loop.invariant.worked c.pass_in_a_hold-passed.ensures.worked;
}

pub returns : goal.returns
returns g c = elim c.match-next.branch [
  | in-None w ↦ rw w.worker-is c.loop.invariant.worked
  | in-Some+then-is_end w ↦ rw w.worker-is (worked_both _ _ _ _ c.loop.invariant.worked w.pass_in_a_hold-passed.ensures.worked)
]
