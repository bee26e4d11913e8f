use Rattle.interpreter.proofs.resolved_code.InstructionOperations.UniqueOperations.{one_operation}
use Rattle.simulation.proofs.Runs.UniqueRuns.{runs_are_one}
use Rattle.simulation.proofs.laws.the_run_is_one.Goals as goal

pub returns : goal.returns
returns c = λ tree legal limits. runs_are_one tree limits (one_operation tree legal)
