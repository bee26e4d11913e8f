use Rattle.exploration.proofs.SamePrograms.{same_initial_state}
use Rattle.exploration.proofs.replayers.Replayer.step.Goals as goal

pub invariant_of-self : goal.invariant_of-self
invariant_of-self g c = same_initial_state c.self.inside.machine c.step.new.self g.M.First.first c.step.ensures.same c.self.invariant
