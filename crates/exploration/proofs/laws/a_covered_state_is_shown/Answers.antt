use Rattle.exploration.proofs.Names.{IsLedTo}
use Rattle.exploration.proofs.CoveredStates.{shown}
use Rattle.exploration.proofs.laws.a_covered_state_is_shown.Goals as goal

pub returns : goal.returns
returns c tree limits first paths = shown tree limits (IsLedTo first paths)
