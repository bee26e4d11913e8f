use Rattle.std.proofs.Common.{◌≡◌, subst, sym}
use Rattle.cil_model.specs.declared.trees.Tree.{Tree}
use Rattle.cil_model.specs.Sources.{HasTree}
use Rattle.shared_machine.specs.simulation.Runs.{IsRunOf}
use Rattle.shared_machine.proofs.interleaving_core.simulation.Runs.UniqueRuns.{runs_are_one}
use Rattle.shared_machine.proofs.simulation.resolved_code.InstructionOperations.UniqueOperations.{one_operation}
use Rattle.source_runs.proofs.laws.a_run_is_one.Goals as goal

same_tree : (t u : Tree) → HasTree t ≡ HasTree u → t ≡ u
same_tree t u e = cc

pub returns : goal.returns
returns c = λ source limits text events events' reports reports' s s' h h'.
    let k = h.by_events in
    let k' = h'.by_events in
    let tree : k.tree ≡ k'.tree = same_tree k.tree k'.tree (c.answers_are_unique.ensures source (HasTree k.tree) (HasTree k'.tree) k.is_accepted.read k'.is_accepted.read) in
    let list : events ≡ events' = c.one_answer.ensures.one_list text events events' h.are_read h'.are_read in
    let other : IsRunOf k.tree limits events reports' s' =
    subst (λ t. IsRunOf t limits events reports' s') (sym tree) (subst (λ es. IsRunOf k'.tree limits es reports' s') (sym list) k'.is_run) in
    let one = runs_are_one k.tree limits (one_operation k.tree k.is_accepted.accepted.legal) events reports reports' s s' k.is_run other in
    (list, one.0, one.1)
