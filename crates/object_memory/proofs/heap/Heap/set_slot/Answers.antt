use Rattle.std.proofs.Common.{◌<◌, length, refl, subst}
use Rattle.std.specs.Prelude.{Some}
use Rattle.object_memory.specs.Cells.{store_slot}
use Rattle.object_memory.specs.Objects.{IsHeld}
use Rattle.object_memory.proofs.TwoSpaces.TwoBlocks.{slot_keeps}
use Rattle.object_memory.proofs.TwoSpaces.TwoHeld.{held_old, held_new, slots_spanned, changed_old, changed_new, none_old, beside}
use Rattle.object_memory.proofs.heap.Heap.set_slot.Goals as goal

pub invariant_of-self : goal.invariant_of-self
invariant_of-self c =
    rw c.set_slot.ensures
    (held_old (store_slot c.args.index c.args.word) (slot_keeps c.args.index c.args.word) (λ x. refl) c.self.inside.from c.self.inside.cycle c.args.address c.self.invariant)

pub set_slot-requires-then-spans : goal.set_slot-requires-then-spans
set_slot-requires-then-spans c =
    let given = rw (← c.self.view_is) at c.requires in
    subst (λ xs. c.args.index < length xs)
    (slots_spanned c.self.inside.from c.self.inside.cycle c.in-Some.cycle c.args.address c.self.invariant c.in-Some.is (c.spans.ensures.range c.if-spans.true)) given

pub invariant_of-self-then-spans : goal.invariant_of-self-then-spans
invariant_of-self-then-spans c =
    let held = subst (λ x. IsHeld c.self.inside.from x) c.in-Some.is c.self.invariant in
    rw c.set_slot-then-spans.ensures
    (held_old (store_slot c.args.index c.args.word) (slot_keeps c.args.index c.args.word) (λ x. refl) c.self.inside.from (Some c.in-Some.cycle) c.args.address held)

pub invariant_of-self-else-spans : goal.invariant_of-self-else-spans
invariant_of-self-else-spans c =
    let held = subst (λ x. IsHeld c.self.inside.from x) c.in-Some.is c.self.invariant in
    rw c.set_slot-else-spans.ensures
    (held_new (store_slot c.args.index c.args.word) (slot_keeps c.args.index c.args.word) c.self.inside.from c.in-Some.cycle c.args.address held)

pub returns-then-spans : goal.returns-then-spans
returns-then-spans c =
    let held = subst (λ x. IsHeld c.self.inside.from x) c.in-Some.is c.self.invariant in
    let changed =
    changed_old (store_slot c.args.index c.args.word) c.self.inside.from (Some c.in-Some.cycle) held c.args.address (λ x e. c.spans.ensures.range c.if-spans.true) in
    rw (← c.self.view_is, c.set_slot-then-spans.ensures, c.in-Some.is)
    (beside c.self.inside.literals.items changed)

pub returns-else-spans : goal.returns-else-spans
returns-else-spans c =
    let none = none_old c.self.inside.from c.args.address c.spans.result c.if-spans.false c.spans.ensures.own in
    let changed = changed_new (store_slot c.args.index c.args.word) c.self.inside.from c.in-Some.cycle c.args.address none in
    rw (← c.self.view_is, c.set_slot-else-spans.ensures, c.in-Some.is)
    (beside c.self.inside.literals.items changed)
