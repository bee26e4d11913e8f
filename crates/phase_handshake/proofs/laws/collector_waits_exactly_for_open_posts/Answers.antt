use Rattle.phase_handshake.proofs.PhaseDistances.{waits_for_open}
use Rattle.phase_handshake.proofs.laws.collector_waits_exactly_for_open_posts.Goals as goal

pub returns : goal.returns
returns c = waits_for_open
