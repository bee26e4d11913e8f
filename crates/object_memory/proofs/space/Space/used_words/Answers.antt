use Rattle.std.proofs.Common.{sym, ap, ◌∙◌, arith}
use Rattle.object_memory.specs.Cells.{used_words, Cells}
use Rattle.object_memory.proofs.Tiles.{used_words_held}
use Rattle.object_memory.proofs.space.Space.used_words.Goals as goal

pub returns-clause-used : goal.returns-clause-used
returns-clause-used c = c.used.ensures ∙ sym (used_words_held c.self.inside.block.words c.self.inside.block.used c.self.invariant.1) ∙ ap (λ (o : Cells). used_words o.cells) c.self.view_is

pub returns-clause-few : goal.returns-clause-few
returns-clause-few c = omega (arith, c.used.ensures, c.self.invariant.0, c.self.invariant.1.inside)
