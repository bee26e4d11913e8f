use Rattle.cil_model.proofs.MergeLaws.{merge_exists}
use Rattle.cil_model.proofs.laws.merge_exists.Goals as goal

pub returns : goal.returns
returns c = merge_exists
