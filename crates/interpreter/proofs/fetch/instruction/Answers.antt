use Rattle.std.proofs.Common.{sym, ap, subst, ◌∙◌}
use Rattle.std.specs.Prelude.{IsSome}
use Rattle.std.proofs.lemmas.Result.{IfOk-weaker, on_err_weaker}
use Rattle.loaded_program.specs.LoadedPrograms.{line_in}
use Rattle.interpreter.specs.Instructions.{is_printing}
use Rattle.interpreter.proofs.LinkedExecution.{linked_here, resolved, is_at, is_small, does_the_same, has_answer}
use Rattle.interpreter.proofs.PrintedResults.{instruction_prints}
use Rattle.interpreter.proofs.fetch.instruction.Goals as goal

pub instruction-instruction-requires : goal.instruction-instruction-requires
instruction-instruction-requires c =
    subst (λ k. IsSome (line_in c.args.program.now c.method.result k)) (sym c.pc.ensures) (subst (λ k. IsSome (line_in c.args.program.now k c.args.frames.now.running.pc)) (sym c.method.ensures) c.requires.pc)

pub execute-requires : goal.execute-requires
execute-requires c =
    let at = linked_here c.args.program.now c.args.frames.now c.method.result c.pc.result c.instruction-instruction.result.now c.method.ensures c.pc.ensures c.instruction-instruction.ensures in
    has_answer c.args.program.now c.args.frames.now c.instruction-instruction.result.now at c.args.mutator c.args.store.now.heap c.args.store.now.statics.items c.args.store.now.console.items c.requires.there

pub returns-clause-done : goal.returns-clause-done
returns-clause-done c =
    let at = linked_here c.args.program.now c.args.frames.now c.method.result c.pc.result c.instruction-instruction.result.now c.method.ensures c.pc.ensures c.instruction-instruction.ensures in
    let same = does_the_same c.args.program.now c.args.frames.now c.instruction-instruction.result.now at c.args.mutator c.args.store.now.heap c.args.store.now.statics.items c.args.store.now.console.items c.requires.there in
    IfOk-weaker c.execute.result _ _
    (λ outcome e. record {
      operation = resolved c.args.program.now c.args.frames.now c.instruction-instruction.result.now at;
      at = is_at c.args.program.now c.args.frames.now c.instruction-instruction.result.now at;
      constant = is_small c.args.program.now c.args.frames.now c.instruction-instruction.result.now at;
      is = e ∙ same;
    }) c.execute.ensures.done

pub returns-clause-prints : goal.returns-clause-prints
returns-clause-prints c =
    let at = linked_here c.args.program.now c.args.frames.now c.method.result c.pc.result c.instruction-instruction.result.now c.method.ensures c.pc.ensures c.instruction-instruction.ensures in
    let same = does_the_same c.args.program.now c.args.frames.now c.instruction-instruction.result.now at c.args.mutator c.args.store.now.heap c.args.store.now.statics.items c.args.store.now.console.items c.requires.there in
    on_err_weaker c.execute.result
    (λ h. instruction_prints c.args.program.now c.args.mutator c.args.frames.now c.args.store.now.heap c.args.store.now.statics.items c.args.store.now.console.items (resolved c.args.program.now c.args.frames.now c.instruction-instruction.result.now at)
    (is_at c.args.program.now c.args.frames.now c.instruction-instruction.result.now at) (is_small c.args.program.now c.args.frames.now c.instruction-instruction.result.now at) (sym (ap (is_printing c.args.store.now.console.items) same) ∙ h)) c.execute.ensures.prints
