use Rattle.reference_machine.proofs.Runs.InstructionEffects.{step_follows}
use Rattle.reference_machine.proofs.Runs.JoinedRuns.{run_follows}
use Rattle.reference_machine.proofs.laws.nothing_is_taken_back.Goals as goal

pub returns-clause-step : goal.returns-clause-step
returns-clause-step c = step_follows

pub returns-clause-run : goal.returns-clause-run
returns-clause-run c = run_follows
