use Rattle.std.proofs.Common.{sym, ◌∙◌}
use Rattle.exploration.proofs.SamePrograms.{initial_program}
use Rattle.exploration.proofs.replayers.Replayer.is_like.Goals as goal

pub is_like-requires-clause-program : goal.is_like-requires-clause-program
is_like-requires-clause-program g c = (initial_program c.other.inside.machine g.M.First.first c.other.invariant).0 ∙ sym (initial_program c.self.inside.machine g.M.First.first c.self.invariant).0

pub is_like-requires-clause-limits : goal.is_like-requires-clause-limits
is_like-requires-clause-limits g c = (initial_program c.other.inside.machine g.M.First.first c.other.invariant).1 ∙ sym (initial_program c.self.inside.machine g.M.First.first c.self.invariant).1
