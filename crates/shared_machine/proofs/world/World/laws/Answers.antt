use Rattle.shared_machine.proofs.Histories.{has_run}
use Rattle.shared_machine.proofs.world.World.laws.Goals as goal

pub returns-clause-ran : goal.returns-clause-ran
returns-clause-ran g c = rw (← c.self.view_is) (has_run _ _ _ c.self.invariant.sound.transitions)

pub returns-clause-printed : goal.returns-clause-printed
returns-clause-printed g c = rw (← c.self.view_is) c.self.invariant.printed
