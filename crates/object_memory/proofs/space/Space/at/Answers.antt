use Rattle.std.proofs.Common.{◌+◌, arith, inl, inr, sym, ◌∙◌}
use Rattle.object_memory.proofs.Tiles.{used_words_held}
use Rattle.object_memory.proofs.Heaps.{shown}
use Rattle.object_memory.proofs.Offsets.{begins_here, begins_last, offset-le-end}
use Rattle.object_memory.proofs.space.Space.at.Goals as goal

pub returns-then-offset-used : goal.returns-then-offset-used
returns-then-offset-used c =
    rw (← c.self.view_is)
    (sym (begins_last (shown c.self.inside.start c.self.inside.block.words c.self.inside.block.used) c.args.offset (c.if-offset-used.true ∙ c.used.ensures ∙ sym (used_words_held c.self.inside.block.words c.self.inside.block.used c.self.invariant.1))))

pub overflow_add-result : goal.overflow_add-result
overflow_add-result c =
    let given = rw (← c.self.view_is) at c.requires in
    let last = offset-le-end (shown c.self.inside.start c.self.inside.block.words c.self.inside.block.used) (c.self.inside.start + c.args.offset) given in
    let held = used_words_held c.self.inside.block.words c.self.inside.block.used c.self.invariant.1 in
    elim c.self.invariant.2 [
      | inl start ↦ record { fits = omega (arith, start, last.1, held, c.self.invariant.0, c.self.invariant.1.inside) }
      | inr start ↦ record { fits = omega (arith, start, last.1, held, c.self.invariant.0, c.self.invariant.1.inside) }
    ]

pub returns : goal.returns
returns c =
    let given = rw (← c.self.view_is) at c.requires in
    let held = used_words_held c.self.inside.block.words c.self.inside.block.used c.self.invariant.1 in
    let more = c.if-offset-used.false in
    rw (← c.self.view_is)
    (sym (begins_here (shown c.self.inside.start c.self.inside.block.words c.self.inside.block.used) c.args.offset given (λ e. more (e ∙ held ∙ sym c.used.ensures))))
