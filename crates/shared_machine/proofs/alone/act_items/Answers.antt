use Rattle.std.proofs.Common.{◌≡◌, Result, Ok, Err, subst, sym, take}
use Rattle.std.specs.Prelude.{IsErrAnd, MatchResult}
use Rattle.schedule_text.specs.Items.{events_of as events_in}
use Rattle.schedule_text.proofs.SoFar.{so_far_whole}
use Rattle.shared_machine.specs.Worlds.{HasCounted, HasCountedFirst}
use Rattle.shared_machine.proofs.OneWorker.{counted_item, counted_part}
use Rattle.shared_machine.proofs.alone.act_items.Goals as goal

handed_on : {T : Type 0} (P Q : T → Type 0) (error : T) (r : Result T T) → IsErrAnd r (λ e. e ≡ error) → Q error → MatchResult r P Q
handed_on P Q error (Ok x) h q = absurd h
handed_on P Q error (Err e) h q = subst Q (sym h) q

pub loop-item-preserved : goal.loop-item-preserved
loop-item-preserved g c =
    counted_item c.args.items.now c.loop-item.item-index _ _ c.loop-item-test.true
    (c.in_ok-ticket.ensures (events_in (take c.loop-item.item-index c.args.items.now)) c.loop-item.invariant)

pub returns : goal.returns
returns g c = subst (λ es. HasCounted es c.loop-item.ticket) (so_far_whole c.args.items.now c.loop-item.item-index c.loop-item-test.false) c.loop-item.invariant

pub returns-in_err-ticket : goal.returns-in_err-ticket
returns-in_err-ticket g c =
    let items = c.args.items.now in
    let (count, few, counted) = c.in_err-ticket.ensures (events_in (take c.loop-item.item-index items)) c.loop-item.invariant in
    handed_on (HasCounted (events_in items)) (HasCountedFirst (events_in items)) _ c.from_residual.result c.from_residual.ensures.1 (counted_part items c.loop-item.item-index _ _ count c.loop-item-test.true few counted)
