use Rattle.std.proofs.Common.{ap, sym, subst, ◌∙◌}
use Rattle.std.specs.Prelude.{Some, IsSome}
use Rattle.object_memory.specs.declared.values.Value.TheVariants.{Ref}
use Rattle.instructions.specs.Frames.{comparison}
use Rattle.instructions.proofs.References.{compared_is}
use Rattle.instructions.proofs.arithmetic.holds.Goals as goal

pub returns-in-Ref-Ref : goal.returns-in-Ref-Ref
returns-in-Ref-Ref c =
    let first = ap (λ v. comparison c.args.phase c.args.heap.now c.args.operation v c.args.second) c.in-Ref-Ref.is-0 in
    let both = first ∙ ap (comparison c.args.phase c.args.heap.now c.args.operation (Ref c.in-Ref-Ref.x)) c.in-Ref-Ref.is-1 in
    both ∙ compared_is c.args.phase c.args.heap.now c.in-Ref-Ref.x c.in-Ref-Ref.y c.args.operation (subst IsSome both c.requires) ∙ ap Some (sym c.same.ensures)
