use Rattle.schedule_text.proofs.WritingLemmas.{too_many}
use Rattle.schedule_text.proofs.inserting.room_after.Goals as goal

pub returns-in_err-room : goal.returns-in_err-room
returns-in_err-room c =
    rw c.from_residual.ensures (too_many c.args.items.now c.loop-item.item-index _ c.args.most c.loop-item.room c.loop-item-test.true c.loop-item.invariant c.in_err-room.ensures)
