use Rattle.exploration.proofs.Names.{IsLedTo}
use Rattle.exploration.proofs.CoveredRuns.{opened_runs_are_covered}
use Rattle.exploration.proofs.laws.a_closed_set_covers_all_runs.Goals as goal

pub returns : goal.returns
returns c tree limits first paths closed s opened begins represents covered = opened_runs_are_covered tree limits (IsLedTo first paths) closed first s opened begins represents covered
