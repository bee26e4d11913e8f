use Rattle.std.proofs.Common.{sym, subst}
use Rattle.cil_model.specs.declared.trees.Tree.{Tree}
use Rattle.loaded_program.specs.class_layout.Layouts.{IsLayout}
use Rattle.interpreter.proofs.execution.execute.Goals as goal

pub store_reference-effect-requires-clause-layout : goal.store_reference-effect-requires-clause-layout
store_reference-effect-requires-clause-layout c = subst (λ (tree : Tree). IsLayout tree c.layout.result.now) (sym c.program.ensures) c.layout.ensures

pub cast_class-effect-requires-clause-layout : goal.cast_class-effect-requires-clause-layout
cast_class-effect-requires-clause-layout c = subst (λ (tree : Tree). IsLayout tree c.layout-in-CastClass.result.now) (sym c.program-in-CastClass.ensures) c.layout-in-CastClass.ensures

pub is_instance-effect-requires-clause-layout : goal.is_instance-effect-requires-clause-layout
is_instance-effect-requires-clause-layout c = subst (λ (tree : Tree). IsLayout tree c.layout-in-IsInstance.result.now) (sym c.program-in-IsInstance.ensures) c.layout-in-IsInstance.ensures
