use Rattle.std.proofs.Common.{◌∙◌, ap}
use Rattle.schedule_text.specs.Items.{events_of}
use Rattle.outcome_text.proofs.ScheduleLemmas.{one_more}
use Rattle.outcome_text.proofs.outcomes.items_of.Goals as goal

pub loop-event-preserved : goal.loop-event-preserved
loop-event-preserved c =
    ap events_of c.in_ok-push.ensures.items ∙ one_more c.loop-event.items.items c.args.events.now c.loop-event.event-index _ c.loop-event-test.true c.loop-event.invariant
