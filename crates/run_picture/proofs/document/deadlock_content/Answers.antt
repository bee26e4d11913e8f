use Rattle.std.proofs.Common.{◌∷◌, [], ◌∙◌, subst, sym}
use Rattle.svg_text.specs.declared.markup.Tag.TheVariants.{Text}
use Rattle.run_picture.specs.Paths.{HasWords}
use Rattle.run_picture.proofs.PathLaws.{no_words, nothing_at_zero, words_in_element}
use Rattle.run_picture.proofs.document.deadlock_content.Goals as goal

pub returns-then-is_empty : goal.returns-then-is_empty
returns-then-is_empty c = no_words c.new-content.result c.args.sentence.now c.new-content.ensures (nothing_at_zero c.args.sentence.now (sym c.is_empty.ensures ∙ c.if-is_empty.true))

pub returns : goal.returns
returns c =
    subst (HasWords c.words-2.new.self) c.as_bytes.ensures.value
    (words_in_element c.new-content.result c.words-2.new.self Text (c.words.result ∷ c.number.result ∷ c.number-2.result ∷ []) c.as_bytes.result.now c.new-content.ensures c.words-2.ensures)
