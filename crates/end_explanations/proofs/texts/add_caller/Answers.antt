use Rattle.std.proofs.Common.{◌++◌, ◌∷◌, ◌∙◌, [], ap₂, codes}
use Rattle.std.specs.Prelude.{string_bytes}
use Rattle.end_explanations.specs.Locations.{located_text}
use Rattle.end_explanations.proofs.texts.add_caller.Goals as goal

pub returns : goal.returns
returns c =
    c.in_ok-writeln.ensures.bytes
    ∙ ap₂ (λ at line. string_bytes c.args.text.now ++ (codes "  called from " ++ located_text at line ++ 10 ∷ [])) c.in_ok-at.ensures.at c.in_ok-at.ensures.line
