use Rattle.std.proofs.Common.{arith, ap, sym, subst, ◌∙◌, ◌≡◌, ◌-◌, length}
use Rattle.std.specs.Prelude.{vec_capacity}
use Rattle.std.specs.Result.{is_ok}
use Rattle.std.specs.List.{insert}
use Rattle.threads_monitors.specs.Activations.{IsSoundStack}
use Rattle.threads_monitors.proofs.Memories.{has_room, after_insert}
use Rattle.threads_monitors.proofs.frames.FrameMemory.insert_beneath.Goals as goal

pub unwrap-requires : goal.unwrap-requires
unwrap-requires c =
    let given = rw (← c.self.view_is) at c.requires.room in
    let room = has_room c.self.invariant 1 (omega (arith, given)) in
    c.insert-inserted.ensures.succeeds (omega (arith, room))

pub invariant_of-self : goal.invariant_of-self
invariant_of-self c =
    let there = rw (← c.self.view_is) at c.requires.there in
    let given = rw (← c.self.view_is) at c.requires.room in
    let index : c.len.result ≡ length c.self.inside.values.items = omega (arith, c.len.ensures) in
    let after = after_insert c.self.invariant c.args.below c.args.value there given in
    let written = rw (ap is_ok c.unwrap.ensures) at c.insert-inserted.ensures.items in
    let items : c.insert-inserted.new.self.items ≡ insert c.self.inside.values.items (length c.self.inside.values.items - c.args.below) c.args.value =
    written ∙ ap (λ k. insert c.self.inside.values.items (k - c.args.below) c.args.value) index in
    let room = has_room c.self.invariant 1 (omega (arith, given)) in
    let block = c.insert-inserted.ensures.in_place (omega (arith, room)) in
    subst (λ xs. IsSoundStack xs c.self.inside.running c.self.inside.below.items c.self.inside.depth c.self.inside.room (vec_capacity c.insert-inserted.new.self) (vec_capacity c.self.inside.below)) (sym items)
    (subst (λ k. IsSoundStack (insert c.self.inside.values.items (length c.self.inside.values.items - c.args.below) c.args.value) c.self.inside.running c.self.inside.below.items c.self.inside.depth c.self.inside.room k (vec_capacity c.self.inside.below)) (sym block.1.0) after.sound)

pub returns : goal.returns
returns c =
    let there = rw (← c.self.view_is) at c.requires.there in
    let given = rw (← c.self.view_is) at c.requires.room in
    let index : c.len.result ≡ length c.self.inside.values.items = omega (arith, c.len.ensures) in
    let after = after_insert c.self.invariant c.args.below c.args.value there given in
    let written = rw (ap is_ok c.unwrap.ensures) at c.insert-inserted.ensures.items in
    let items : c.insert-inserted.new.self.items ≡ insert c.self.inside.values.items (length c.self.inside.values.items - c.args.below) c.args.value =
    written ∙ ap (λ k. insert c.self.inside.values.items (k - c.args.below) c.args.value) index in
    rw (← c.self.view_is, items) after.view
