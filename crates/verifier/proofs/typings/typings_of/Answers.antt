use Rattle.std.proofs.Common.{◌≡◌, List, map, Some, sym, subst, ◌∙◌}
use Rattle.cil_model.specs.Bodies.{source_methods}
use Rattle.cil_model.specs.Legality.{IsLegal}
use Rattle.cil_model.specs.declared.trees.Tree.{Tree}
use Rattle.name_tables.specs.declared.ids.MethodId.{MethodId}
use Rattle.resolved_code.specs.ResolvedPrograms.{AreResolved}
use Rattle.verifier.specs.Members.{methods_at}
use Rattle.verifier.proofs.typings.typings_of.Goals as goal

pub new-requires : goal.new-requires
new-requires c = record {
  legal = subst IsLegal (sym c.tree-2.ensures.whole) c.tree-2.ensures.legal;
  resolved = subst (λ (tree : Tree). AreResolved tree c.classes.result.now) (sym c.tree-2.ensures.whole) c.classes.ensures;
}

pub typings_by-requires : goal.typings_by-requires
typings_by-requires c = c.in_ok-types.ensures ∙ c.tree-2.ensures.whole

pub returns : goal.returns
returns c =
    let here : methods_at c.tree.result.now c.as_slice.result.now ≡ map Some (source_methods c.tree.result.now) =
    subst (λ (members : List MethodId). methods_at c.tree.result.now members ≡ map Some (source_methods c.tree.result.now)) (sym c.as_slice.ensures.value) c.in_ok-members.ensures in
    c.typings_by.ensures (subst (λ (tree : Tree). methods_at tree c.as_slice.result.now ≡ map Some (source_methods tree)) c.tree.ensures.whole here)
