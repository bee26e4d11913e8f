use Rattle.interleaving_core.proofs.steps.instruct.Goals as goal

pub instruction-requires-clause-there : goal.instruction-requires-clause-there
instruction-requires-clause-there c = c.requires.there c.in-Live.frames c.in-Live.is
