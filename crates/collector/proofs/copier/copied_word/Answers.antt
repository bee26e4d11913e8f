use Rattle.std.proofs.Common.{Bool, ap, sym, ◌∙◌}
use Rattle.std.specs.Prelude.{if◌then◌else◌, is_some}
use Rattle.barriers.specs.Barriers.{forward_value, is_value_in_heap}
use Rattle.object_memory.proofs.TwoSpaces.TwoBlocks.{old_is_cell}
use Rattle.object_memory.specs.Spaces.{forward_word}
use Rattle.object_memory.specs.Values.{value_word}
use Rattle.collector.proofs.Addresses.ObjectsInHeaps.{old_reference}
use Rattle.collector.proofs.copier.copied_word.Goals as goal

pub kind-requires : goal.kind-requires
kind-requires c = ap is_some (old_is_cell c.args.heap.now.spaces c.args.object c.requires.cell c.requires.at)

pub forward-requires : goal.forward-requires
forward-requires c =
    let o = c.args.heap.now in
    let holds = old_reference c.requires.tree o.spaces c.args.object c.requires.cell c.kind.result c.args.slot _ c.requires.at c.kind.ensures (c.holds_reference.ensures c.requires.tree c.requires.layout_is) ∙ c.if-holds_reference.true in
    ap (is_value_in_heap o) c.of_word.ensures ∙ c.requires.reference holds

pub returns-then-holds_reference : goal.returns-then-holds_reference
returns-then-holds_reference c = λ tree layout_is cell at.
    let o = c.args.heap.now in
    let holds = old_reference tree o.spaces c.args.object cell c.kind.result c.args.slot _ at c.kind.ensures (c.holds_reference.ensures tree layout_is) ∙ c.if-holds_reference.true in
    c.word.ensures.word ∙ ap value_word (c.forward.ensures ∙ ap (forward_value o) c.of_word.ensures)
    ∙ ap (λ (b : Bool). if b then forward_word o.spaces c.args.word else c.args.word) (sym holds)

pub returns-else-holds_reference : goal.returns-else-holds_reference
returns-else-holds_reference c = λ tree layout_is cell at.
    let o = c.args.heap.now in
    let holds = old_reference tree o.spaces c.args.object cell c.kind.result c.args.slot _ at c.kind.ensures (c.holds_reference.ensures tree layout_is) ∙ c.if-holds_reference.false in
    ap (λ (b : Bool). if b then forward_word o.spaces c.args.word else c.args.word) (sym holds)
