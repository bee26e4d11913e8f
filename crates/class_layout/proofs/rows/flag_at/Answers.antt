use Rattle.std.proofs.Common.{false, length, unwrap_or, refl, sym, ap}
use Rattle.std.proofs.lemmas.Option.{slice_get_past, slice_get_read}
use Rattle.class_layout.proofs.rows.flag_at.Goals as goal

pub returns-in-None : goal.returns-in-None
returns-in-None c = rw (← c.number.ensures) (
    sym (ap (λ o. unwrap_or o false) (slice_get_past c.args.flags.now c.number.result c.in-None.ensures.lookup.3))
    )

pub returns-in-Some : goal.returns-in-Some
returns-in-Some c = rw (← c.number.ensures) (
    let flags = c.args.flags.now in
    sym (ap (λ o. unwrap_or o false) (slice_get_read flags (length flags) c.number.result c.in-Some.flag.now refl c.in-Some.ensures.lookup.3.0 c.in-Some.ensures.lookup.1))
    )
