use Rattle.std.proofs.Common.{subst}
use Rattle.cil_model.specs.declared.trees.Tree.{Tree}
use Rattle.cil_model.specs.TypeTree.{Declared, IsBelow}
use Rattle.flow_rules.specs.StackTypes.{type_named}
use Rattle.flow_rules.proofs.type_tree.TypeTree.is_above.Goals as goal

pub returns : goal.returns
returns c = λ e. subst (λ (tree : Tree). IsBelow tree (Declared (type_named tree c.args.below)) (Declared (type_named tree c.args.above))) c.self.view_is (c.is_above.ensures e)
