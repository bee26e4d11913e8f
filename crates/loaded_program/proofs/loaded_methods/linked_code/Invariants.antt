use Rattle.std.proofs.Common.{take}
use Rattle.resolved_code.specs.ResolvedPrograms.{AllAlike}
use Rattle.loaded_program.specs.LoadedPrograms.{IsLinkedOperation}
use Rattle.loaded_program.proofs.loaded_methods.linked_code.Given as goal

abbrev pub invariant-loop-operation : goal.invariant-loop-operation
invariant-loop-operation l = AllAlike (IsLinkedOperation l.linker.program.now l.has_value) (take l.operation-index l.operations) l.code.items
