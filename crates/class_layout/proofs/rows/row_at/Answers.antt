use Rattle.std.proofs.Common.{[], length, option_map, unwrap_or, refl, sym, ap, ◌∙◌}
use Rattle.std.proofs.lemmas.Option.{slice_get-map, slice_get_past, slice_get_read}
use Rattle.class_layout.proofs.rows.row_at.Goals as goal

pub returns-in-None : goal.returns-in-None
returns-in-None g c = rw (← c.number.ensures) (
    let rows = c.args.rows.now in
    sym (ap (λ o. unwrap_or o []) (slice_get-map (λ row. row.items) rows c.number.result ∙ ap (option_map (λ row. row.items)) (slice_get_past rows c.number.result c.in-None.ensures.lookup.3)))
    )

pub returns-in-Some : goal.returns-in-Some
returns-in-Some g c = rw (← c.number.ensures) (
    let rows = c.args.rows.now in
    c.as_slice.ensures.value ∙
    sym (ap (λ o. unwrap_or o []) (slice_get-map (λ row. row.items) rows c.number.result ∙ ap (option_map (λ row. row.items)) (slice_get_read rows (length rows) c.number.result c.in-Some.row.now refl c.in-Some.ensures.lookup.3.0 c.in-Some.ensures.lookup.1)))
    )
