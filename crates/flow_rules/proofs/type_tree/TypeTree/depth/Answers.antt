use Rattle.std.proofs.Common.{◌≡◌, Some, option_map, sym, ap, ◌∙◌}
use Rattle.cil_model.specs.declared.trees.Tree.{Tree}
use Rattle.cil_model.specs.declared.types.DeclaredType.{DeclaredType}
use Rattle.cil_model.specs.TypeTree.{parent}
use Rattle.flow_rules.specs.StackTypes.{type_named}
use Rattle.flow_rules.proofs.AncestorChains.{next, too_far}
use Rattle.flow_rules.proofs.type_tree.TypeTree.depth.Goals as goal

pub loop-step-preserved : goal.loop-step-preserved
loop-step-preserved c =
    let tree : Tree = c.args.self.now in
    let u : DeclaredType = type_named tree c.loop-step.here in
    let up : parent tree u ≡ Some (type_named tree c.in-Some.parent) = sym c.parent.ensures.named ∙ ap (option_map (type_named tree)) c.in-Some.is in
    next tree c.loop-step.step (type_named tree c.args.t) u (type_named tree c.in-Some.parent) c.loop-step.invariant up

pub returns : goal.returns
returns c =
    let tree : Tree = c.args.self.now in
    absurd (too_far tree c.most_steps-most.ensures.legal c.loop-step.step c.most_steps-most.result (type_named tree c.args.t) (type_named tree c.loop-step.here) c.most_steps-most.ensures.enough c.loop-step-test.false c.loop-step.invariant)
