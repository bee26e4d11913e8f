-- Outcomes of a source, from those of its machine.
use Rattle.std.proofs.Common.{◌≡◌, Some, ap, ◌∙◌}
use Rattle.cil_model.specs.Sources.{HasTree}
use Rattle.cil_model.specs.declared.limits.Limits.{Limits}
use Rattle.cil_model.specs.declared.trees.Tree.{Tree}
use Rattle.exploration.specs.InitialStates.{HasInitialState}
use Rattle.exploration.specs.simulation.MachineStates.{MachineState}
use Rattle.exploration.specs.simulation.Transitions.{initial_machine_state}

pub same_tree : (t u : Tree) → HasTree t ≡ HasTree u → t ≡ u
same_tree t u e = cc

-- a machine of this program within these limits has its initial state
pub initial_state_of : (tree : Tree) (limits : Limits) (m first : MachineState) → m.tree ≡ tree → m.limits ≡ limits → initial_machine_state tree limits ≡ Some first → HasInitialState m first
initial_state_of tree limits m first same within opens = ap (λ (t : Tree). initial_machine_state t m.limits) same ∙ (ap (λ (l : Limits). initial_machine_state tree l) within ∙ opens)
