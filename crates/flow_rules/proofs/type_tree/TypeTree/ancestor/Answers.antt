use Rattle.std.proofs.Common.{sym}
use Rattle.cil_model.specs.declared.trees.Tree.{Tree}
use Rattle.flow_rules.specs.StackTypes.{type_named}
use Rattle.flow_rules.proofs.AncestorChains.{next, past}
use Rattle.flow_rules.proofs.type_tree.TypeTree.ancestor.Goals as goal

pub returns-in_err-here-clause-named : goal.returns-in_err-here-clause-named
returns-in_err-here-clause-named c =
    let tree : Tree = c.args.self.now in
    rw c.from_residual.ensures
    (sym (past tree c.loop-step.step c.args.steps (type_named tree c.args.t) (type_named tree c.loop-step.here) c.loop-step.invariant.reached (sym c.in_err-here.ensures.named) c.loop-step-test.true))

pub loop-step-preserved : goal.loop-step-preserved
loop-step-preserved c =
    let tree : Tree = c.args.self.now in
    record {
      reached = next tree c.loop-step.step (type_named tree c.args.t) (type_named tree c.loop-step.here) (type_named tree c.in_ok-here.here) c.loop-step.invariant.reached (sym c.in_ok-here.ensures.named);
      known = c.in_ok-here.ensures.known;
    }
