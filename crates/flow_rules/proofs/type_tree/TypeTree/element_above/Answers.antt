use Rattle.std.proofs.Common.{Some, sym, ap, ◌∙◌}
use Rattle.cil_model.specs.declared.trees.Tree.{Tree}
use Rattle.cil_model.specs.declared.types.Element.{Element}
use Rattle.cil_model.specs.TypeTree.{parent_at}
use Rattle.cil_model.proofs.BelowLaws.{typed}
use Rattle.flow_rules.specs.StackTypes.{element_named}
use Rattle.flow_rules.proofs.type_tree.TypeTree.element_above.Goals as goal

pub returns-in-Class : goal.returns-in-Class
returns-in-Class c = λ k.
    let tree : Tree = c.args.self.now in
    ap (λ x. parent_at tree (element_named tree x) k) c.in-Class.is ∙ ap (λ (e : Element). Some (typed e k)) (sym c.base_element.ensures.named)

pub returns-in-String : goal.returns-in-String
returns-in-String c = λ k.
    let tree : Tree = c.args.self.now in
    ap (λ x. parent_at tree (element_named tree x) k) c.in-String.is
