use Rattle.shared_machine.proofs.Histories.{has_run}
use Rattle.shared_machine.proofs.world.World.into_outcome.Goals as goal

pub returns-clause-ran : goal.returns-clause-ran
returns-clause-ran g c = has_run _ _ _ c.self.invariant.sound.transitions

pub returns-clause-printed : goal.returns-clause-printed
returns-clause-printed g c = c.self.invariant.printed

pub returns-clause-counts : goal.returns-clause-counts
returns-clause-counts g c = λ k d below. c.self.invariant.sound.counts _ _ (c.compare_all.ensures.counts k d below)
