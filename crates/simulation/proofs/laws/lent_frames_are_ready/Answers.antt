use Rattle.simulation.proofs.Threads.LocalInstructions.{local_ready}
use Rattle.simulation.proofs.laws.lent_frames_are_ready.Goals as goal

pub returns : goal.returns
returns c = λ machine_state s r t left n f g at less steps. local_ready machine_state t left f at s r n g less steps
