use Rattle.reference_machine.proofs.Runs.ExampleRun.{sum_shown}
use Rattle.reference_machine.proofs.laws.example_runs.Goals as goal

pub returns : goal.returns
returns c = sum_shown
