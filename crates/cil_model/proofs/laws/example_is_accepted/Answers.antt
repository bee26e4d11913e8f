use Rattle.cil_model.proofs.Examples.Typing.{sum_accepted}
use Rattle.cil_model.proofs.laws.example_is_accepted.Goals as goal

pub returns : goal.returns
returns c = sum_accepted
