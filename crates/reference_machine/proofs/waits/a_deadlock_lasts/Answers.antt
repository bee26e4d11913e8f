use Rattle.reference_machine.proofs.Deadlocks.LastingDeadlocks.{lasts, runs_last}
use Rattle.reference_machine.proofs.waits.a_deadlock_lasts.Goals as goal

pub returns-clause-step : goal.returns-clause-step
returns-clause-step c = lasts

pub returns-clause-run : goal.returns-clause-run
returns-clause-run c = runs_last
