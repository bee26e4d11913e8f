use Rattle.std.proofs.Common.{Bool, length, ap, sym, ◌∙◌, arith}
use Rattle.std.specs.Prelude.{if◌then◌else◌, is_some}
use Rattle.barriers.specs.Barriers.{is_value_in_heap, with_marked}
use Rattle.object_memory.proofs.TwoSpaces.TwoBlocks.{old_is_cell}
use Rattle.object_memory.specs.declared.values.Value.TheVariants.{Ref}
use Rattle.collector.specs.MarkSteps.{word_of}
use Rattle.collector.specs.References.{reference_in}
use Rattle.collector.proofs.Addresses.ObjectsInHeaps.{old_reference, old_slots, old_word}
use Rattle.collector.proofs.marker.scan_slot.Goals as goal

pub kind-requires : goal.kind-requires
kind-requires c = ap is_some (old_is_cell c.args.heap.now.spaces c.args.object c.requires.readable.cell c.requires.readable.at)

pub slot-word-requires : goal.slot-word-requires
slot-word-requires c =
    let long = ap length (old_slots c.args.heap.now.spaces c.args.object c.requires.readable.cell c.requires.readable.at) in
    omega (arith, long, c.requires.readable.inside)

pub mark-requires-clause-there : goal.mark-requires-clause-there
mark-requires-clause-there c =
    let o = c.args.heap.now in
    let r = c.requires.readable in
    let word = old_word o.spaces c.args.object r.cell c.args.slot c.slot-word.result r.at c.slot-word.ensures in
    let holds = old_reference r.tree o.spaces c.args.object r.cell c.kind.result c.args.slot _ r.at c.kind.ensures (c.holds_reference.ensures r.tree r.layout_is) ∙ c.if-holds_reference.true in
    ap (is_value_in_heap o) (c.of_word.ensures ∙ ap (λ w. Ref (reference_in w)) word) ∙ r.reference holds

pub returns-then-holds_reference : goal.returns-then-holds_reference
returns-then-holds_reference c = λ tree layout_is cell at.
    let o = c.args.heap.now in
    let word = old_word o.spaces c.args.object cell c.args.slot c.slot-word.result at c.slot-word.ensures in
    let holds = old_reference tree o.spaces c.args.object cell c.kind.result c.args.slot _ at c.kind.ensures (c.holds_reference.ensures tree layout_is) ∙ c.if-holds_reference.true in
    c.mark.ensures ∙ ap (with_marked o) (c.of_word.ensures ∙ ap (λ w. Ref (reference_in w)) word)
    ∙ ap (λ (b : Bool). if b then with_marked o (Ref (reference_in (word_of cell c.args.slot))) else o) (sym holds)

pub returns-else-holds_reference : goal.returns-else-holds_reference
returns-else-holds_reference c = λ tree layout_is cell at.
    let o = c.args.heap.now in
    let holds = old_reference tree o.spaces c.args.object cell c.kind.result c.args.slot _ at c.kind.ensures (c.holds_reference.ensures tree layout_is) ∙ c.if-holds_reference.false in
    ap (λ (b : Bool). if b then with_marked o (Ref (reference_in (word_of cell c.args.slot))) else o) (sym holds)
