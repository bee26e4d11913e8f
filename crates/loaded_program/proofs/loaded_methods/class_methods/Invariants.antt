use Rattle.std.proofs.Common.{◌≡◌, Some, take, slice_get}
use Rattle.cil_model.specs.declared.types.ClassName.{ClassName}
use Rattle.cil_model.specs.Declarations.{Declaration}
use Rattle.name_tables.specs.Numbers.{declarations}
use Rattle.resolved_code.specs.ResolvedPrograms.{AllAlike, IsResolvedMethod}
use Rattle.loaded_program.specs.AllMethods.{owned_methods}
use Rattle.loaded_program.specs.LoadedPrograms.{IsLoadedMethod}
use Rattle.loaded_program.proofs.loaded_methods.class_methods.Given as goal

abbrev pub invariant-loop-index : goal.invariant-loop-index
invariant-loop-index l =
    (e : ClassName × Declaration) → slice_get (declarations l.linker.program.now) l.class ≡ Some e → AllAlike (IsResolvedMethod l.linker.program.now) e.1.methods l.methods →
    AllAlike (IsLoadedMethod l.linker.program.now) (take l.index (owned_methods e)) l.loaded.items
