use Rattle.std.proofs.Common.{◌≡◌, true, sym, ap, subst, ◌∙◌}
use Rattle.cil_model.specs.declared.trees.Tree.{Tree}
use Rattle.cil_model.specs.declared.types.Element.{Element}
use Rattle.cil_model.specs.declared.types.Element.TheVariants as Named
use Rattle.resolved_code.specs.declared.types.ResolvedElement.{ResolvedElement}
use Rattle.flow_rules.specs.StackTypes.{element_named, is_known}
use Rattle.flow_rules.specs.Merging.{AreClasses}
use Rattle.flow_rules.proofs.Classes.{up_to_classes, past_classes}
use Rattle.flow_rules.proofs.type_tree.TypeTree.without_null.Goals as goal

pub returns-then-number-self-clause-known : goal.returns-then-number-self-clause-known
returns-then-number-self-clause-known c =
    let P : ResolvedElement → Type 0 = λ e. is_known c.args.self.now e ≡ true in
    let classes : AreClasses c.args.self.now c.self.inside.classes.now = subst (λ (t : Tree). AreClasses t c.self.inside.classes.now) c.self.view_is c.self.invariant in
    subst P (sym c.in-Class.is) (up_to_classes c.args.self.now c.self.inside.classes.now classes.resolved c.in-Class.number c.if-number-self.true)

pub returns-clause-same : goal.returns-clause-same
returns-clause-same c =
    let classes : AreClasses c.args.self.now c.self.inside.classes.now = subst (λ (t : Tree). AreClasses t c.self.inside.classes.now) c.self.view_is c.self.invariant in
    ap (λ (e : Element). record { element = e; brackets = c.args.t.brackets })
    (ap Named.Class (past_classes c.args.self.now c.self.inside.classes.now classes.resolved c.in-Class.number c.if-number-self.false) ∙ sym (ap (element_named c.args.self.now) c.in-Class.is))
