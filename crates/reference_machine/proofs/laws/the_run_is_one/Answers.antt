use Rattle.reference_machine.proofs.Runs.RefusedRuns.{runs_are_one}
use Rattle.reference_machine.proofs.laws.the_run_is_one.Goals as goal

pub returns : goal.returns
returns c = runs_are_one
