use Rattle.reference_machine.proofs.TypedSteps.AllInstructions.{instruction_typed}
use Rattle.reference_machine.proofs.TypedSteps.StepsAndRuns.{step_typed}
use Rattle.reference_machine.proofs.soundness.steps_keep_states_typed.Goals as goal

pub returns : goal.returns
returns c = step_typed instruction_typed
