use Rattle.std.proofs.Common.{◌∙◌, subst}
use Rattle.cil_model.specs.declared.trees.Tree.{Tree}
use Rattle.class_layout.specs.Layouts.{IsLayout}
use Rattle.loaded_program.proofs.loaded.LoadedProgram.layout.Goals as goal

pub returns : goal.returns
returns c = subst (λ (tree : Tree). IsLayout tree c.layout.result.now) (c.deref.ensures ∙ c.self.view_is) c.layout.ensures
