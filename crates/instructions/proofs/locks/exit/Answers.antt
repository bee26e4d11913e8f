use Rattle.std.proofs.Common.{ap, sym, ◌∙◌}
use Rattle.std.specs.Prelude.{Some}
use Rattle.instructions.proofs.References.{exit_stays}
use Rattle.instructions.proofs.locks.exit.Goals as goal

pub returns-in_default-exit : goal.returns-in_default-exit
returns-in_default-exit c =
    sym (exit_stays c.args.mutator c.args.frames.now c.args.heap.now c.in-Ref.object (c.exit.new.heap, c.exit.result) (c.operand.ensures ∙ ap Some c.in-Ref.is) c.in_default-exit.not-Continues c.requires c.exit.ensures)
