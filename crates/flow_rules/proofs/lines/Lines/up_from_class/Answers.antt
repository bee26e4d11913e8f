use Rattle.std.proofs.Common.{◌≡◌, List, [], Some, length, map, slice_get, slice_index_or, refl, sym, ap, ◌∙◌}
use Rattle.std.proofs.lemmas.Option.{slice_get_read}
use Rattle.resolved_code.specs.declared.types.ResolvedElement.{ResolvedElement}
use Rattle.flow_rules.proofs.lines.Lines.up_from_class.Goals as goal

pub returns-in-Some : goal.returns-in-Some
returns-in-Some c =
    let line = slice_index_or (map (λ row. row.items) c.args.self.now.rows.items) c.args.class [] in
    let at : slice_get c.line.result.now c.args.index ≡ Some c.in-Some.above.now = slice_get_read c.line.result.now (length c.line.result.now) c.args.index c.in-Some.above.now refl c.in-Some.ensures.lookup.3.0 c.in-Some.ensures.lookup.1 in
    c.args.self.now.rows_are c.args.class c.args.index c.in-Some.above.now (ap (λ (xs : List ResolvedElement). slice_get xs c.args.index) (sym c.line.ensures) ∙ at)
