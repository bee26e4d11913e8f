use Rattle.shared_machine.proofs.Lendings.{RoomsSoFar}
use Rattle.shared_machine.proofs.world.rooms_for.Given as goal

abbrev pub invariant-loop-thread : goal.invariant-loop-thread
invariant-loop-thread l = RoomsSoFar l.core.tree l._thread l.rooms.items
