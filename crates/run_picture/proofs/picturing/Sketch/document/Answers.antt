use Rattle.std.proofs.Common.{◌∙◌, string_bytes, subst}
use Rattle.run_picture.specs.Pictures.{IsDrawn}
use Rattle.run_picture.proofs.picturing.Sketch.document.Goals as goal

pub returns : goal.returns
returns c =
    let found = c.in_ok-sentence.ensures in
    (found.0, found.1, subst (IsDrawn (string_bytes c.in_ok-text.text) c.args.self.now.rows.rows.items) (c.as_str-2.ensures.value ∙ found.2) c.in_ok-text.ensures)
