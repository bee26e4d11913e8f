use Rattle.std.proofs.Common.{◌≡◌, ◌<◌, ◌+◌, ℕ, Some, sym, ap, subst, ◌∙◌, arith}
use Rattle.cil_model.specs.declared.trees.Tree.{Tree}
use Rattle.resolved_code.specs.declared.types.ResolvedElement.{ResolvedElement}
use Rattle.resolved_code.specs.declared.types.ResolvedType.{ResolvedType}
use Rattle.flow_rules.specs.StackTypes.{type_named}
use Rattle.flow_rules.specs.Merging.{IsUp}
use Rattle.flow_rules.proofs.Classes.{if_some_then}
use Rattle.flow_rules.proofs.LineLaws.{object_after}
use Rattle.flow_rules.proofs.type_tree.TypeTree.object_up.Goals as goal

pub returns : goal.returns
returns c =
    let tree : Tree = c.args.self.now in
    let t : ResolvedType = c.args.t in
    let top : ResolvedType = record { element = c.in_ok-top.top; brackets = t.brackets } in
    let last : ℕ = c.saturating_sub-last.result in
    let fewer : ℕ = c.saturating_sub-fewer.result in
    let up : IsUp tree t.element last c.in_ok-top.top = subst (λ (x : Tree). IsUp x t.element last c.in_ok-top.top) c.self.view_is c.in_ok-top.ensures in
    let some : 0 < fewer = omega arith in
    let reached : c.args.steps ≡ last + fewer = omega (arith, some, c.saturating_sub-fewer.ensures) in
    if_some_then c.fewer_brackets.result _ _ (λ above is. object_after tree last c.args.steps fewer t.brackets above.brackets t top (up t.brackets) (c.has_element_above.ensures c.if-has_element_above.false tree) reached some is.1 ∙
    ap (λ (e : ResolvedElement). Some (type_named tree (record { element = e; brackets = above.brackets }))) (sym is.0)) c.fewer_brackets.ensures
