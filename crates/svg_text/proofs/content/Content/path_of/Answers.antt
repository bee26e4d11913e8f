use Rattle.std.proofs.Common.{◌++◌, ◌∙◌, ap, subst}
use Rattle.svg_text.specs.Contents.{Adds}
use Rattle.svg_text.proofs.WellFormed.{made_of_data, path_after, path_before}
use Rattle.svg_text.proofs.content.Content.path_of.Goals as goal

pub returns : goal.returns
returns c =
    let before = path_before c.words.result c.words-2.result c.words-3.result in (
      before,
      path_after,
      subst (Adds c.args.self.now c.empty.new.self) (made_of_data c.words.result c.words-2.result c.words-3.result ∙ ap (λ v. before ++ v ++ path_after) c.words-3.ensures.value) c.empty.ensures,
    )
