use Rattle.ilasm_reader.proofs.Whole.{same_tree}
use Rattle.ilasm_reader.proofs.laws.trees_are_unique.Goals as goal

pub returns : goal.returns
returns c = same_tree
