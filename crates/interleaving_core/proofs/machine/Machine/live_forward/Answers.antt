use Rattle.interleaving_core.proofs.machine.Machine.live_forward.Goals as goal

pub live_forward-requires : goal.live_forward-requires
live_forward-requires c = record { sound = c.self.invariant.represents.sound }
