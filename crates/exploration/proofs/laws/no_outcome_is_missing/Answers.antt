use Rattle.exploration.proofs.Names.{IsLedTo}
use Rattle.exploration.proofs.CoveredRuns.{opened_runs_are_covered}
use Rattle.exploration.proofs.CoveredStates.{outcome_listed}
use Rattle.exploration.proofs.laws.no_outcome_is_missing.Goals as goal

pub returns : goal.returns
returns c tree limits first paths closed s opened begins represents covered outcomes only events reports last is keep over =
    let known = IsLedTo first paths in
    outcome_listed tree limits known closed last (opened_runs_are_covered tree limits known closed first s opened begins represents covered events reports last is keep).0 outcomes only over
