use Rattle.std.proofs.Common.{sym, subst}
use Rattle.source_positions.specs.cil_model.Legality.{IsLegal}
use Rattle.source_positions.specs.cil_model.declared.trees.Tree.{Tree}
use Rattle.resolved_code.specs.ResolvedPrograms.{AreResolved}
use Rattle.typing_explanations.proofs.heights.height_of_body.Goals as goal

pub new-requires : goal.new-requires
new-requires c = record {
  legal = subst IsLegal (sym c.tree.ensures.whole) c.tree.ensures.legal;
  resolved = subst (λ (tree : Tree). AreResolved tree c.classes.result.now) (sym c.tree.ensures.whole) c.classes.ensures;
}
