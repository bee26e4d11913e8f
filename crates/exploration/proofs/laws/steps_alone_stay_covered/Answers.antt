use Rattle.exploration.proofs.Names.{one_operation, IsLedTo}
use Rattle.exploration.proofs.CoveredRuns.{steps_are_covered}
use Rattle.exploration.proofs.laws.steps_alone_stay_covered.Goals as goal

pub returns : goal.returns
returns c first paths legal closed covered events steps = steps_are_covered (IsLedTo first paths) closed events steps first (one_operation first.tree legal) covered
