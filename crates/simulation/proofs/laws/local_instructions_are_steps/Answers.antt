use Rattle.simulation.proofs.Threads.LocalInstructions.{local_transitions}
use Rattle.simulation.proofs.laws.local_instructions_are_steps.Goals as goal

pub returns : goal.returns
returns c = λ machine_state t left n f g at less steps. local_transitions machine_state t left f at n g less steps
