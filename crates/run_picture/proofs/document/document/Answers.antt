use Rattle.std.proofs.Common.{[], ◌∷◌}
use Rattle.svg_text.specs.declared.markup.Tag.TheVariants.{Svg}
use Rattle.run_picture.proofs.PathLaws.{paths_in_document, words_in_document}
use Rattle.run_picture.proofs.document.document.Goals as goal

pub returns : goal.returns
returns c =
    let text = c.in_ok-into_document.ensures.text in
    record {
      formed = c.in_ok-into_document.ensures.formed;
      paths = paths_in_document c.page-page.result text.0 _ Svg (c.words.result ∷ c.words-2.result ∷ c.number.result ∷ c.number-2.result ∷ []) c.args.drawn.now.rows.items text.1 text.2 c.page-page.ensures.paths;
      has_sentence = words_in_document c.page-page.result text.0 _ Svg (c.words.result ∷ c.words-2.result ∷ c.number.result ∷ c.number-2.result ∷ []) _ text.1 text.2 c.page-page.ensures.sentence;
    }
