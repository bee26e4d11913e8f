use Rattle.std.proofs.Common.{◌≡◌, ◌+◌, List, length, take, arith, refl, sym, ap, subst, ◌∙◌}
use Rattle.std.proofs.Math.Seq.{take-length}
use Rattle.std.proofs.lemmas.Option.{slice_get_read}
use Rattle.resolved_code.specs.declared.operations.Operation.{Operation}
use Rattle.resolved_code.specs.ResolvedPrograms.{AllAlike}
use Rattle.loaded_program.proofs.FlatLaws.{alike_more}
use Rattle.loaded_program.specs.declared.instructions.LinkedInstruction.{LinkedInstruction}
use Rattle.loaded_program.specs.LoadedPrograms.{IsLinkedOperation}
use Rattle.loaded_program.proofs.loaded_methods.linked_code.Goals as goal

pub loop-operation-preserved : goal.loop-operation-preserved
loop-operation-preserved c =
    let R : Operation → LinkedInstruction → Type 0 = IsLinkedOperation c.args.linker.now.program.now c.args.has_value in
    let i = c.loop-operation.operation-index in
    let op = c.operation-item.result in
    let read = slice_get_read c.args.operations.now (length c.args.operations.now) i op refl (omega arith) c.operation-item.is in
    let P : List LinkedInstruction → Type 0 = λ ls. AllAlike R (take (i + 1) c.args.operations.now) ls in
    subst P (sym c.in_ok-push.ensures.items)
    (alike_more R c.args.operations.now c.loop-operation.code.items i op c.in_ok-link.field-0 c.loop-operation.invariant read (record { constant = c.constants_are_small.ensures; is = c.in_ok-link.ensures }))

pub returns : goal.returns
returns c =
    let R : Operation → LinkedInstruction → Type 0 = IsLinkedOperation c.args.linker.now.program.now c.args.has_value in
    let all : c.loop-operation.operation-index ≡ length c.args.operations.now = omega arith in
    subst (λ ops. AllAlike R ops c.loop-operation.code.items) (ap (λ n. take n c.args.operations.now) all ∙ take-length c.args.operations.now) c.loop-operation.invariant
