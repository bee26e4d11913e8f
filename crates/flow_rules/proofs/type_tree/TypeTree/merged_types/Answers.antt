use Rattle.std.proofs.Common.{◌≡◌, ◌-◌, Some, None, sym, ap, ◌∙◌}
use Rattle.cil_model.specs.declared.trees.Tree.{Tree}
use Rattle.cil_model.specs.declared.types.DeclaredType.{DeclaredType}
use Rattle.cil_model.specs.TypeTree.{ancestor}
use Rattle.resolved_code.specs.declared.types.ResolvedType.{ResolvedType}
use Rattle.flow_rules.specs.StackTypes.{type_named}
use Rattle.flow_rules.proofs.LineLaws.{merged_first, merged_second}
use Rattle.flow_rules.proofs.DepthLaws.{deep_enough, brought_level, merged_brought}
use Rattle.flow_rules.proofs.type_tree.TypeTree.merged_types.Goals as goal

pub returns-then-is_same : goal.returns-then-is_same
returns-then-is_same c =
    let tree : Tree = c.args.self.now in
    merged_first tree c.args.first c.args.second (0, ap (λ (t : ResolvedType). Some (type_named tree t)) (sym (c.is_same.ensures.same c.if-is_same.true)))

pub returns-then-is_above : goal.returns-then-is_above
returns-then-is_above c = merged_first c.args.self.now c.args.first c.args.second (c.is_above.ensures c.if-is_above.true)

pub returns-then-is_above-2 : goal.returns-then-is_above-2
returns-then-is_above-2 c = merged_second c.args.self.now c.args.first c.args.second (c.is_above-2.ensures c.if-is_above-2.true)

pub returns-in_err-one : goal.returns-in_err-one
returns-in_err-one c =
    let tree : Tree = c.args.self.now in
    let a : DeclaredType = type_named tree c.args.first in
    let none : ancestor tree (c.depth-one_depth.result - c.depth-other_depth.result) a ≡ None = ap (λ n. ancestor tree n a) (sym c.saturating_sub.ensures) ∙ sym c.in_err-one.ensures.named in
    absurd (deep_enough tree c.depth-one_depth.result c.depth-other_depth.result a c.depth-one_depth.ensures none)

pub returns-in_err-other : goal.returns-in_err-other
returns-in_err-other c =
    let tree : Tree = c.args.self.now in
    let b : DeclaredType = type_named tree c.args.second in
    let none : ancestor tree (c.depth-other_depth.result - c.depth-one_depth.result) b ≡ None = ap (λ n. ancestor tree n b) (sym c.saturating_sub-2.ensures) ∙ sym c.in_err-other.ensures.named in
    absurd (deep_enough tree c.depth-other_depth.result c.depth-one_depth.result b c.depth-other_depth.ensures none)

pub merged_at_one_depth-requires-clause-level : goal.merged_at_one_depth-requires-clause-level
merged_at_one_depth-requires-clause-level c =
    let tree : Tree = c.args.self.now in
    let a : DeclaredType = type_named tree c.args.first in
    let b : DeclaredType = type_named tree c.args.second in
    let one : ancestor tree (c.depth-one_depth.result - c.depth-other_depth.result) a ≡ Some (type_named tree c.in_ok-one.one) = ap (λ n. ancestor tree n a) (sym c.saturating_sub.ensures) ∙ sym c.in_ok-one.ensures.named in
    let other : ancestor tree (c.depth-other_depth.result - c.depth-one_depth.result) b ≡ Some (type_named tree c.in_ok-other.other) = ap (λ n. ancestor tree n b) (sym c.saturating_sub-2.ensures) ∙ sym c.in_ok-other.ensures.named in
    brought_level tree c.depth-one_depth.result c.depth-other_depth.result a b (type_named tree c.in_ok-one.one) (type_named tree c.in_ok-other.other) c.depth-one_depth.ensures c.depth-other_depth.ensures one other

pub returns : goal.returns
returns c =
    let tree : Tree = c.args.self.now in
    let a : DeclaredType = type_named tree c.args.first in
    let b : DeclaredType = type_named tree c.args.second in
    let one : ancestor tree (c.depth-one_depth.result - c.depth-other_depth.result) a ≡ Some (type_named tree c.in_ok-one.one) = ap (λ n. ancestor tree n a) (sym c.saturating_sub.ensures) ∙ sym c.in_ok-one.ensures.named in
    let other : ancestor tree (c.depth-other_depth.result - c.depth-one_depth.result) b ≡ Some (type_named tree c.in_ok-other.other) = ap (λ n. ancestor tree n b) (sym c.saturating_sub-2.ensures) ∙ sym c.in_ok-other.ensures.named in
    merged_brought tree c.depth-one_depth.result c.depth-other_depth.result c.args.first c.args.second c.in_ok-one.one c.in_ok-other.other c.merged_at_one_depth.result c.depth-one_depth.ensures c.depth-other_depth.ensures one other c.merged_at_one_depth.ensures
