use Rattle.std.proofs.Common.{subst}
use Rattle.cil_model.specs.declared.trees.Tree.{Tree}
use Rattle.class_layout.specs.Layouts.{IsLayout}
use Rattle.loaded_program.proofs.parts.Parts.layout.Goals as goal

pub returns : goal.returns
returns c = subst (λ (tree : Tree). IsLayout tree c.self.inside.layout) c.self.view_is c.self.invariant.layout_is
