use Rattle.std.proofs.Common.{arith, subst}
use Rattle.cil_model.specs.declared.trees.Tree.{Tree}
use Rattle.flow_rules.specs.Merging.{AreClasses}
use Rattle.flow_rules.proofs.Classes.{class_count}
use Rattle.flow_rules.proofs.type_tree.TypeTree.longest_chain.Goals as goal

pub returns : goal.returns
returns c =
    let classes : AreClasses c.args.self.now c.self.inside.classes.now = subst (λ (t : Tree). AreClasses t c.self.inside.classes.now) c.self.view_is c.self.invariant in
    omega (arith, class_count c.args.self.now c.self.inside.classes.now classes.resolved)
