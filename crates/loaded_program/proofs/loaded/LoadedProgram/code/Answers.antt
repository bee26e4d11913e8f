use Rattle.std.proofs.Common.{subst, sym, slice_get}
use Rattle.cil_model.specs.Bodies.{lines_of}
use Rattle.resolved_code.specs.ResolvedPrograms.{AllAlike}
use Rattle.loaded_program.specs.AllMethods.{all_methods}
use Rattle.loaded_program.specs.LoadedPrograms.{IsLinkedLine}
use Rattle.loaded_program.proofs.MethodLaws.{some_of}
use Rattle.loaded_program.proofs.loaded.LoadedProgram.code.Goals as goal

pub returns : goal.returns
returns c =
    let tree = c.args.self.now in
    let found = some_of (slice_get (all_methods tree) c.args.method) c.requires in
    let lines = subst (AllAlike (IsLinkedLine tree found.0) (lines_of found.0.1)) (sym c.as_slice.ensures.value) (c.method.ensures.loaded found.0 found.1).code in
    record { found = found.0; found_is = found.1; lines = lines }
