use Rattle.interleaving_core.specs.Views.{machine_state_of}
use Rattle.interleaving_core.proofs.Threads.LiveFrames.{live_room}
use Rattle.interleaving_core.proofs.machine.Machine.is_at_origin.Goals as goal

pub is_at_origin-requires : goal.is_at_origin-requires
is_at_origin-requires c = record { room = λ left m there. live_room (machine_state_of c.self.inside.engine) c.self.invariant.state c.self.invariant.represents c.args.loan.now.thread left m there }
