use Rattle.shared_machine.proofs.Bounds.{begins_within}
use Rattle.shared_machine.proofs.Histories.{sound_first}
use Rattle.shared_machine.proofs.world.World.new.Goals as goal

pub invariant_of-result : goal.invariant_of-result
invariant_of-result g c = record { sound = sound_first _ _ _ _ _ c.requires.core c.new.ensures c.requires.each c.requires.book; homes = c.requires.rooms; bound = c.requires.printed; printed = begins_within _ _ _ c.requires.core }
