use Rattle.interleaving_core.proofs.Runs.RepresentedStates.{sound_reopened}
use Rattle.interleaving_core.proofs.machine.Machine.reopen.Goals as goal

pub invariant_of-self : goal.invariant_of-self
invariant_of-self c = sound_reopened c.self.inside.engine c.reopen.new.self c.self.invariant c.reopen.result c.reopen.ensures.begins c.reopen.ensures.alone c.reopen.ensures.refused
