use Rattle.std.proofs.Common.{Some, length, slice_get, refl, sym, ap, ◌∙◌}
use Rattle.std.proofs.lemmas.Option.{slice_get_read}
use Rattle.metadata.proofs.open_slots.OpenSlots.is_decided.Goals as goal

pub returns-in-Some : goal.returns-in-Some
returns-in-Some c = λ e.
    rw (← c.number.ensures) (
    let xs = c.deref.result.now in
    let read = slice_get_read xs (length xs) c.number.result c.in-Some.decided.now refl c.in-Some.ensures.lookup.3.0 c.in-Some.ensures.lookup.1 in
    c.args.self.now.are_decided c.number.result (ap (λ ys. slice_get ys c.number.result) (sym c.deref.ensures.value) ∙ read ∙ ap Some e)
    )
