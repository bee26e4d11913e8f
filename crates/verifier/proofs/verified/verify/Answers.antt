use Rattle.verifier.proofs.verified.verify.Goals as goal

pub returns : goal.returns
returns c = (c.new.ensures.same, c.new.ensures.accepted)
