use Rattle.std.proofs.Common.{◌++◌, ◌∙◌, ap, refl, string_bytes}
use Rattle.svg_text.specs.Elements.{element_text, escape}
use Rattle.svg_text.proofs.WellFormed.{formed_lost, formed_more, formed_words, made_of_pieces}
use Rattle.svg_text.proofs.content.Content.words.Goals as goal

pub invariant_of-self : goal.invariant_of-self
invariant_of-self c =
    let old = string_bytes c.self.inside.text in
    let inside = escape c.args.words.now in
    let piece = element_text c.args.tag c.args.attributes.now inside in
    formed_more c.self.inside.is_whole old piece _ (c.in-Ok.ensures.bytes ∙ ap (λ more. old ++ more) (made_of_pieces c.args.tag c.args.attributes.now inside))
    (formed_words c.args.tag c.args.attributes.now c.args.words.now piece refl) c.self.invariant

pub invariant_of-self-in-Err : goal.invariant_of-self-in-Err
invariant_of-self-in-Err c = formed_lost _
