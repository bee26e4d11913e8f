use Rattle.std.proofs.Common.{◌≡◌, sym, subst}
use Rattle.cil_model.specs.declared.trees.Tree.{Tree}
use Rattle.resolved_code.specs.declared.types.ResolvedType.{ResolvedType}
use Rattle.flow_rules.specs.StackTypes.{type_named}
use Rattle.flow_rules.specs.Merging.{IsFork}
use Rattle.flow_rules.proofs.Classes.{one_type}
use Rattle.flow_rules.proofs.LineLaws.{meets}
use Rattle.flow_rules.proofs.type_tree.TypeTree.meet.Goals as goal

pub returns : goal.returns
returns c =
    let tree : Tree = c.args.self.now in
    let one = c.in_ok-one.one in
    let other = c.in_ok-other.other in
    let same : other.above ≡ one.above = sym (c.is_same.ensures.same c.if-not-is_same.false) in
    let fork : IsFork tree (type_named tree c.args.second) (type_named tree other.below) (type_named tree one.above) =
    subst (λ (t : ResolvedType). IsFork tree (type_named tree c.args.second) (type_named tree other.below) (type_named tree t)) same c.in_ok-other.ensures.steps in
    meets tree c.in_ok-one.ensures.legal c.in_ok-one.ensures.steps.0 fork.0 (type_named tree c.args.first) (type_named tree c.args.second) (type_named tree one.above) (type_named tree one.below) (type_named tree other.below)
    c.in_ok-one.ensures.steps.1 c.in_ok-one.ensures.steps.2 fork.1 fork.2
    (λ e. c.is_same-else-not-is_same.ensures.apart c.if-is_same.false (one_type tree c.in_ok-one.ensures.legal one.below other.below c.in_ok-one.ensures.known c.in_ok-other.ensures.known e))
