use Rattle.std.proofs.Common.{take}
use Rattle.std.specs.List.{flat_map}
use Rattle.name_tables.specs.Numbers.{declarations}
use Rattle.resolved_code.specs.ResolvedPrograms.{AllAlike}
use Rattle.loaded_program.specs.AllMethods.{owned_methods}
use Rattle.loaded_program.specs.LoadedPrograms.{IsLoadedMethod}
use Rattle.loaded_program.proofs.loaded_methods.all_methods.Given as goal

abbrev pub invariant-loop-class : goal.invariant-loop-class
invariant-loop-class l = AllAlike (IsLoadedMethod l.linker.program.now) (flat_map owned_methods (take l.class (declarations l.linker.program.now))) l.loaded.items
