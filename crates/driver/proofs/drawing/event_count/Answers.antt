use Rattle.std.proofs.Common.{◌≡◌, ◌+◌, ◌<◌, ◌≤◌, ◌^◌, ℕ, List, length, get_or, take, replicate, ap, arith, length-append}
use Rattle.std.proofs.lemmas.List.Folds.{length-flat_map-take}
use Rattle.schedule_text.specs.Items.{events_of}
use Rattle.schedule_text.specs.declared.errors.TheConstants.{MOST_EVENTS}
use Rattle.schedule_text.specs.declared.items.Item.{Item}
use Rattle.schedule_text.proofs.SoFar.{so_far_all}
use Rattle.driver.proofs.Names.{length-replicate}
use Rattle.driver.proofs.drawing.event_count.Goals as goal

module _ (items : List Item) (i : ℕ) (d : Item) (events : ℕ) (so_far : events ≡ length (events_of (take i items))) (below : i < length items) where
  abbrev item : Item
  item = get_or items i d

  -- the events of an item more
  one_more : events + item.count ≡ length (events_of (take (i + 1) items))
  one_more =
      let all = ap length (so_far_all items i d below) in
      omega (arith, so_far, all, length-append (events_of (take i items)) (replicate item.count item.event), length-replicate item.count item.event)

  -- are no more than a schedule has
  few : length (events_of items) ≤ MOST_EVENTS → events + item.count < 2 ^ 64
  few most =
      let some = length-flat_map-take (λ (x : Item). replicate x.count x.event) items i d below in
      omega (arith, so_far, some, most, length-replicate item.count item.event)

pub overflow_add-events : goal.overflow_add-events
overflow_add-events c = record { fits = few c.args.items.now c.loop-item.item-index _ c.loop-item.events c.loop-item.invariant c.loop-item-test.true c.requires.few }

pub loop-item-preserved : goal.loop-item-preserved
loop-item-preserved c = one_more c.args.items.now c.loop-item.item-index _ c.loop-item.events c.loop-item.invariant c.loop-item-test.true
