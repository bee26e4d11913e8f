use Rattle.reference_machine.proofs.TypedStates.InitialStates.{opens}
use Rattle.reference_machine.proofs.soundness.initial_states_are_typed.Goals as goal

pub returns : goal.returns
returns c = opens
