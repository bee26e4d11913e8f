use Rattle.std.proofs.Common.{Some, List, Bool, slice_get, sym, ap, ◌∙◌}
use Rattle.std.proofs.lemmas.Option.{slice_get-get_or}
use Rattle.metadata.proofs.lacking.is_reported.Goals as goal

pub returns-in-Some : goal.returns-in-Some
returns-in-Some c = λ e.
    rw (← c.number.ensures) (
    let lookup = c.in-Some.ensures.lookup in (
      c.in-Some.table.now,
      slice_get-get_or c.args.tables.now c.number.result c.in-Some.table.now lookup.3.0 ∙ ap Some (sym lookup.1),
      sym (ap (λ (xs : List Bool). slice_get xs c.args.class) c.as_slice.ensures.value) ∙ c.is_false.ensures e,
    )
    )
