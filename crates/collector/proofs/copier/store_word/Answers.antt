use Rattle.std.proofs.Common.{◌-◌, ap, ◌∙◌}
use Rattle.object_memory.specs.Objects.{with_slot}
use Rattle.collector.proofs.Copies.CopiesStepByStep.{slot_stored}
use Rattle.collector.proofs.copier.store_word.Goals as goal

pub returns-else-word-eq0 : goal.returns-else-word-eq0
returns-else-word-eq0 c = λ tree layout_is from at.
    c.set_slot.ensures
    ∙ ap (with_slot c.args.heap.now c.args.to (c.args.word - 1)) (c.copied_word-copied.ensures tree layout_is from at)
    ∙ slot_stored tree c.args.heap.now c.args.attempt.now from c.args.to c.args.word c.if-word-eq0.false
