use Rattle.std.proofs.Common.{sym, subst}
use Rattle.cil_model.specs.declared.trees.Tree.{Tree}
use Rattle.simulation.specs.loaded_program.class_layout.Layouts.{IsLayout}
use Rattle.interleaving_core.proofs.initial_states.open_engine.Goals as goal

pub new-requires : goal.new-requires
new-requires c = subst (λ (tree : Tree). IsLayout tree c.into_parts-program.result.1) (sym c.into_parts-program.ensures.program) c.into_parts-program.ensures.layout
