use Rattle.std.proofs.Common.{inl, subst, sym}
use Rattle.cil_model.specs.declared.trees.Tree.{Tree}
use Rattle.driver.proofs.Names.{handed_on, IsNotPictured, ArePositionsOf}
use Rattle.driver.proofs.outcome_pictures.picture_of.Goals as goal

pub returns-in_err-machine : goal.returns-in_err-machine
returns-in_err-machine c =
    handed_on c.from_residual.result c.from_residual.ensures.1 (λ failure same.
    subst (IsNotPictured c.args.source.now c.args.limits) (sym same) (inl c.in_err-machine.ensures.refused))

pub loop-index-init : goal.loop-index-init
loop-index-init c = subst (λ (tree : Tree). ArePositionsOf tree c.in_ok-methods.methods) c.tree.ensures c.in_ok-methods.ensures

pub loop-index-preserved : goal.loop-index-preserved
loop-index-preserved c = subst (λ (tree : Tree). ArePositionsOf tree c.in_ok-methods.methods) (sym c.add_event.ensures) c.loop-index.invariant
