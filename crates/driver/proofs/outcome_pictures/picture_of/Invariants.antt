use Rattle.driver.proofs.Names.{ArePositionsOf}
use Rattle.driver.proofs.outcome_pictures.picture_of.Given as goal

-- the positions are those of the methods of the machine's program
abbrev pub invariant-loop-index : goal.invariant-loop-index
invariant-loop-index l = ArePositionsOf l.machine.tree l.methods
