use Rattle.std.proofs.Common.{◌∙◌, ◌-◌, ap}
use Rattle.schedule_text.specs.Items.{events_of}
use Rattle.schedule_text.proofs.InsertLemmas.{first_more, less_by_least, less_left}
use Rattle.schedule_text.proofs.inserting.append_first.Goals as goal

pub loop-item-preserved : goal.loop-item-preserved
loop-item-preserved c =
    let l = c.loop-item in
    let more = rw c.min-count.ensures at c.in_ok-append_events.ensures in (
      more ∙ first_more c.args.items.now l.item-index _ c.loop-item-test.true (events_of c.args.all.now.items) (events_of l.all.items) c.args.at l.left l.invariant.1 l.invariant.0,
      ap (λ n. l.left - n) c.min-count.ensures ∙ less_by_least _ l.left ∙ less_left c.args.items.now l.item-index _ c.loop-item-test.true c.args.at l.left l.invariant.1,
    )
