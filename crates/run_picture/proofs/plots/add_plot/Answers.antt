use Rattle.std.proofs.Common.{[], ◌∷◌}
use Rattle.svg_text.specs.declared.markup.Tag.TheVariants.{Svg}
use Rattle.run_picture.proofs.PathLaws.{paths_around}
use Rattle.run_picture.proofs.plots.add_plot.Goals as goal

pub returns-in-Ok : goal.returns-in-Ok
returns-in-Ok c = λ rows h.
    paths_around c.args.page.now c.around.new.self c.args.inside.now Svg
    (c.number.result ∷ c.number-in-Ok.result ∷ c.number-in-Ok-2.result ∷ c.number-in-Ok-3.result ∷ c.words.result ∷ c.words-in-Ok.result ∷ []) rows c.around.ensures h
