use Rattle.std.proofs.Common.{ap, sym, ◌∙◌}
use Rattle.std.specs.Prelude.{Some}
use Rattle.instructions.proofs.References.{enter_stays}
use Rattle.instructions.proofs.locks.enter.Goals as goal

pub returns-in_default-enter : goal.returns-in_default-enter
returns-in_default-enter c =
    sym (enter_stays c.args.mutator c.args.frames.now c.args.heap.now c.in-Ref.object (c.enter.new.heap, c.enter.result) (c.operand.ensures ∙ ap Some c.in-Ref.is) c.in_default-enter.not-Continues c.requires c.enter.ensures)
