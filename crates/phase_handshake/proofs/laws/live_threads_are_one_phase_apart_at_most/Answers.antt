use Rattle.phase_handshake.proofs.PhaseDistances.{neighbours}
use Rattle.phase_handshake.proofs.laws.live_threads_are_one_phase_apart_at_most.Goals as goal

pub returns : goal.returns
returns c = neighbours
