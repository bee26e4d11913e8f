use Rattle.std.proofs.Common.{None, length, unwrap_or, refl, sym, ap}
use Rattle.std.proofs.lemmas.Option.{slice_get_past, slice_get_read}
use Rattle.class_layout.proofs.rows.entry_at.Goals as goal

pub returns-in-None : goal.returns-in-None
returns-in-None g c = rw (← c.number.ensures) (
    sym (ap (λ o. unwrap_or o None) (slice_get_past c.args.entries.now c.number.result c.in-None.ensures.lookup.3))
    )

pub returns-in-Some : goal.returns-in-Some
returns-in-Some g c = rw (← c.number.ensures) (
    let entries = c.args.entries.now in
    sym (ap (λ o. unwrap_or o None) (slice_get_read entries (length entries) c.number.result c.in-Some.entry.now refl c.in-Some.ensures.lookup.3.0 c.in-Some.ensures.lookup.1))
    )
