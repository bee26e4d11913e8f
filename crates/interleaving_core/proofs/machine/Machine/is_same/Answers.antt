use Rattle.interleaving_core.proofs.machine.Machine.is_same.Goals as goal

pub is_same-requires : goal.is_same-requires
is_same-requires c = record { sound = c.self.invariant.represents.sound }
