use Rattle.shared_machine.proofs.Records.{item_more}
use Rattle.shared_machine.proofs.record.items_of.Goals as goal

pub loop-run-preserved : goal.loop-run-preserved
loop-run-preserved c =
    item_more c.runs-runs.result.now c.loop-run.run-index _ _ _ _ c.loop-run-test.true c.loop-run.invariant c.in_ok-reserve.ensures.items c.push_reserved.ensures.items
