use Rattle.std.proofs.Common.{sym, subst}
use Rattle.std.specs.Prelude.{IsSome}
use Rattle.loaded_program.specs.LoadedPrograms.{line_in}
use Rattle.interpreter.proofs.LinkedExecution.{linked_here}
use Rattle.interpreter.proofs.LocalSteps.{next_is}
use Rattle.interpreter.proofs.local_runs.is_next_local.Goals as goal

pub instruction-requires : goal.instruction-requires
instruction-requires c =
    let m = c.args.frames.now.running in
    subst (λ k. IsSome (line_in c.args.program.now k c.pc.result)) (sym c.method.ensures)
    (subst (λ k. IsSome (line_in c.args.program.now m.method k)) (sym c.pc.ensures) c.requires.pc)

pub returns : goal.returns
returns c =
    let at = linked_here c.args.program.now c.args.frames.now c.method.result c.pc.result c.instruction.result.now c.method.ensures c.pc.ensures c.instruction.ensures in
    next_is c.args.program.now c.args.frames.now.room c.args.frames.now.running c.instruction.result.now at c.requires c.is_local.result c.is_local.ensures
