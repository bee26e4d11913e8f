use Rattle.reference_machine.proofs.ReachableObjects.TypedStates.{reachable_is_there}
use Rattle.reference_machine.proofs.ReachableObjects.Runs.{reached_was_reached, run_reaches, reached_is_retained}
use Rattle.reference_machine.proofs.soundness.what_is_reached_was_reached_or_is_new.Goals as goal

pub returns-clause-step : goal.returns-clause-step
returns-clause-step c = reached_was_reached

pub returns-clause-run : goal.returns-clause-run
returns-clause-run c = run_reaches

pub returns-clause-there : goal.returns-clause-there
returns-clause-there c = reachable_is_there

pub returns-clause-retained : goal.returns-clause-retained
returns-clause-retained c = reached_is_retained
