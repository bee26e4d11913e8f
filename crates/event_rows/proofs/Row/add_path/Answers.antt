use Rattle.std.proofs.Common.{◌++◌, ◌∷◌, [], ◌∙◌, ap, sym, append_assoc, append-nil, string_bytes}
use Rattle.std.proofs.lemmas.Grind.{flat_map-append}
use Rattle.event_rows.specs.Rows.{rows_of, drawn_by, drawn_by_last, path_text, span_text}
use Rattle.event_rows.proofs.Row.add_path.Goals as goal

pub returns-in_ok-add_spans-2 : goal.returns-in_ok-add_spans-2
returns-in_ok-add_spans-2 c =
    let whole = c.self.inside.whole.items in
    let last = c.in-Some.last in
    let old = string_bytes c.args.text.now in
    let y = c.args.y in (
      whole ++ last ∷ [],
      flat_map-append drawn_by whole (last ∷ []) ∙ ap (λ l. rows_of whole ++ l) (append-nil (drawn_by last)) ∙ ap (λ o. rows_of whole ++ drawn_by_last o) (sym c.in-Some.is) ∙ c.self.view_is,
      c.in_ok-add_spans-2.ensures ∙ ap (λ l. l ++ path_text y (last ∷ [])) (c.in_ok-add_spans.ensures ∙ ap (λ l. old ++ path_text y l) c.as_slice.ensures.value)
          ∙ append_assoc old (path_text y whole) (path_text y (last ∷ [])) ∙ ap (λ l. old ++ l) (sym (flat_map-append (span_text y) whole (last ∷ []))),
    )
