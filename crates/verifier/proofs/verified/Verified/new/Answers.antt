use Rattle.verifier.proofs.TypingLaws.{accepted}
use Rattle.verifier.proofs.verified.Verified.new.Goals as goal

pub returns-clause-accepted : goal.returns-clause-accepted
returns-clause-accepted c = accepted c.args.program c.args.typings c.requires.layout.legal c.requires.typings
