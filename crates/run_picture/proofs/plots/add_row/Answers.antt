use Rattle.std.proofs.Common.{◌++◌, ◌∙◌, ap, string_bytes, sym}
use Rattle.event_rows.specs.Rows.{path_text}
use Rattle.run_picture.proofs.PathLaws.{nothing_at_zero, row_nothing}
use Rattle.run_picture.proofs.plots.add_row.Goals as goal

pub returns-in-Ok : goal.returns-in-Ok
returns-in-Ok c =
    let written = c.in-Ok.ensures in
    let bytes = string_bytes c.add_path.new.text in
    row_nothing c.args.content.now written.0 c.args.ink.y bytes c.args.row.now written.1 (written.2 ∙ ap (λ l. l ++ path_text c.args.ink.y written.0) c.new-data.ensures.bytes)
    (sym c.as_str.ensures.value ∙ nothing_at_zero c.as_str.result.now (sym c.is_empty.ensures ∙ c.if-not-is_empty.false))
