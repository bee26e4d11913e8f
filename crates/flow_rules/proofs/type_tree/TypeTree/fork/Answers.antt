use Rattle.std.proofs.Common.{Some, sym, ap, subst, ◌∙◌}
use Rattle.cil_model.specs.declared.trees.Tree.{Tree}
use Rattle.flow_rules.specs.Merging.{AreClasses}
use Rattle.flow_rules.proofs.type_tree.TypeTree.fork.Goals as goal

pub returns-clause-steps : goal.returns-clause-steps
returns-clause-steps c = (c.in_ok-steps.steps, c.in_ok-below.ensures ∙ ap Some (sym c.without_null.ensures.same), c.in_ok-above.ensures)

pub returns-clause-legal : goal.returns-clause-legal
returns-clause-legal c = (subst (λ (t : Tree). AreClasses t c.self.inside.classes.now) c.self.view_is c.self.invariant).legal
