use Rattle.shared_machine.proofs.Lendings.{one_room_more}
use Rattle.shared_machine.proofs.world.rooms_for.Goals as goal

pub loop-thread-preserved : goal.loop-thread-preserved
loop-thread-preserved c =
    one_room_more c.args.core.now.tree c.in_ok-loan_room.field-0 c.loop-thread._thread c.loop-thread.rooms.items c.push.new.self.items c.loop-thread.invariant c.in_ok-push.ensures.items c.in_ok-loan_room.ensures
