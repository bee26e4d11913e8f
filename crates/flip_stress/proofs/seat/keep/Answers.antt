use Rattle.std.proofs.Common.{refl, ◌∙◌}
use Rattle.flip_stress.proofs.Taken.{equal_options, set_there, some_below}
use Rattle.flip_stress.proofs.seat.keep.Goals as goal

pub store-writer-requires-clause-writer : goal.store-writer-requires-clause-writer
store-writer-requires-clause-writer c = c.requires.writer

pub store-writer-requires-clause-slot : goal.store-writer-requires-clause-slot
store-writer-requires-clause-slot c = rw (c.requires.flip.objects_are, c.requires.flip.slots_are) c.slot_at-slot.ensures.within

pub store-writer-requires-clause-own : goal.store-writer-requires-clause-own
store-writer-requires-clause-own c =
    rw (c.requires.flip.slots_are, c.slot_at-slot.ensures.index) (c.requires.flip.dealt c.args.index c.requires.own.0 ∙ c.requires.own.1)

pub store-writer-requires-clause-value : goal.store-writer-requires-clause-value
store-writer-requires-clause-value c = λ x e. rw c.requires.flip.objects_are (some_below _ _ x c.args.sizes.some_objects.0 e)

pub load-loaded-requires-clause-writer : goal.load-loaded-requires-clause-writer
load-loaded-requires-clause-writer c = rw c.store-writer.ensures c.requires.writer

pub load-loaded-requires-clause-slot : goal.load-loaded-requires-clause-slot
load-loaded-requires-clause-slot c = rw (c.requires.flip.objects_are, c.requires.flip.slots_are) c.slot_at-slot.ensures.within

pub returns-clause-kept : goal.returns-clause-kept
returns-clause-kept c =
    let own = rw (c.store-writer.ensures, c.requires.flip.slots_are, c.slot_at-slot.ensures.index) at c.load-loaded.ensures.own in
    c.eq.ensures ∙ equal_options _ _ (set_there c.args.writer.written c.args.index _ _ (own (c.requires.flip.dealt c.args.index c.requires.own.0 ∙ c.requires.own.1)))

pub returns-clause-writer : goal.returns-clause-writer
returns-clause-writer c = rw (c.load-loaded.ensures.rest, c.store-writer.ensures) (refl, refl, refl)
