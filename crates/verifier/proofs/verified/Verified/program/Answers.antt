use Rattle.std.proofs.Common.{subst}
use Rattle.cil_model.specs.Typings.{IsAccepted}
use Rattle.verifier.proofs.TypingLaws.{accepted}
use Rattle.verifier.proofs.verified.Verified.program.Goals as goal

pub returns-clause-accepted : goal.returns-clause-accepted
returns-clause-accepted c = subst IsAccepted c.self.view_is (accepted c.self.inside.program c.self.inside.typings c.self.invariant.0.legal c.self.invariant.1)
