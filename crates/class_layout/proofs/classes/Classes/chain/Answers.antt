use Rattle.std.proofs.Common.{[], map, slice_get, unwrap_or, ap, ◌∙◌}
use Rattle.name_tables.specs.Numbers.{chain_numbers}
use Rattle.class_layout.proofs.ResolvedLaws.{answer_there}
use Rattle.class_layout.proofs.classes.Classes.chain.Goals as goal

pub returns : goal.returns
returns c =
    let s = c.args.self.now in
    c.row_at.ensures ∙ ap (λ rows. unwrap_or (slice_get (map (λ row. row.items) rows) c.args.class) []) c.as_slice.ensures.value ∙ ap (λ rows. unwrap_or (slice_get rows c.args.class) []) s.chains_are ∙
    answer_there s.program.now (chain_numbers s.program.now) c.args.class []
