use Rattle.std.proofs.Common.{◌∙◌}
use Rattle.schedule_text.specs.Items.{events_of}
use Rattle.schedule_text.proofs.InsertLemmas.{less_left, rest_more}
use Rattle.schedule_text.proofs.inserting.append_rest.Goals as goal

pub loop-item-preserved : goal.loop-item-preserved
loop-item-preserved c =
    let l = c.loop-item in
    let more = rw c.saturating_sub.ensures at c.in_ok-append_events.ensures in (
      more ∙ rest_more c.args.items.now l.item-index _ c.loop-item-test.true (events_of c.args.all.now.items) (events_of l.all.items) c.args.at l.left l.invariant.1 l.invariant.0,
      c.saturating_sub-left.ensures ∙ less_left c.args.items.now l.item-index _ c.loop-item-test.true c.args.at l.left l.invariant.1,
    )
