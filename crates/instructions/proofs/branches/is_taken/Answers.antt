use Rattle.std.proofs.Common.{subst}
use Rattle.std.specs.Prelude.{IsSome}
use Rattle.object_memory.specs.declared.values.Value.TheVariants.{Ref}
use Rattle.instructions.specs.Frames.{branch_test}
use Rattle.instructions.proofs.References.{never_ordered}
use Rattle.instructions.proofs.branches.is_taken.Goals as goal

pub unreachable-requires : goal.unreachable-requires
unreachable-requires c =
    never_ordered c.args.phase c.args.heap.now c.in-Ref-Ref.x c.in-Ref-Ref.y c.args.operation
    (subst (λ v. IsSome (branch_test c.args.phase c.args.heap.now c.args.operation v (Ref c.in-Ref-Ref.y))) c.in-Ref-Ref.is-0
    (subst (λ w. IsSome (branch_test c.args.phase c.args.heap.now c.args.operation c.args.first w)) c.in-Ref-Ref.is-1 c.requires))
    c.in_default-operation.not-Equal c.in_default-operation.not-NotEqual
