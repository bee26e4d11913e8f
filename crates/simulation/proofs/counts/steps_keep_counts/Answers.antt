use Rattle.simulation.proofs.MonitorCounts.Steps.{step_counted}
use Rattle.simulation.proofs.counts.steps_keep_counts.Goals as goal

pub returns : goal.returns
returns c = step_counted
