use Rattle.std.proofs.Common.{subst}
use Rattle.cil_model.specs.declared.trees.Tree.{Tree}
use Rattle.flow_rules.specs.Merging.{AreClasses}
use Rattle.flow_rules.proofs.Classes.{class_at, beyond_classes, if_some_then}
use Rattle.flow_rules.proofs.type_tree.TypeTree.class.Goals as goal

pub returns-clause-found : goal.returns-clause-found
returns-clause-found c =
    let classes : AreClasses c.args.self.now c.self.inside.classes.now = subst (λ (t : Tree). AreClasses t c.self.inside.classes.now) c.self.view_is c.self.invariant in
    if_some_then c.item_at.result _ _ (λ class at. class_at c.args.self.now classes.legal c.self.inside.classes.now classes.resolved c.args.number class.now at) c.item_at.ensures.found

pub returns-clause-beyond : goal.returns-clause-beyond
returns-clause-beyond c =
    let classes : AreClasses c.args.self.now c.self.inside.classes.now = subst (λ (t : Tree). AreClasses t c.self.inside.classes.now) c.self.view_is c.self.invariant in
    λ none. beyond_classes c.args.self.now c.self.inside.classes.now classes.resolved c.args.number (c.item_at.ensures.beyond none)

pub returns-clause-legal : goal.returns-clause-legal
returns-clause-legal c = (subst (λ (t : Tree). AreClasses t c.self.inside.classes.now) c.self.view_is c.self.invariant).legal
