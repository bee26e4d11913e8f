use Rattle.exploration.proofs.LocalProgress.{step_moves}
use Rattle.exploration.proofs.laws.a_local_instruction_moves_alone.Goals as goal

pub returns : goal.returns
returns c tree room f g step below depth = step_moves tree room below depth f g step
