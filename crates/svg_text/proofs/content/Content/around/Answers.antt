use Rattle.std.proofs.Common.{◌++◌, ◌∙◌, ap, refl, string_bytes}
use Rattle.svg_text.specs.Elements.{element_text}
use Rattle.svg_text.proofs.WellFormed.{formed_around, formed_lost, formed_more, made_of_pieces}
use Rattle.svg_text.proofs.content.Content.around.Goals as goal

pub invariant_of-self : goal.invariant_of-self
invariant_of-self c =
    let old = string_bytes c.self.inside.text in
    let inside = string_bytes c.inside.inside.text in
    let piece = element_text c.args.tag c.args.attributes.now inside in
    formed_more c.self.inside.is_whole old piece _
    (c.in-Ok.ensures.bytes ∙ ap (λ more. old ++ more) (made_of_pieces c.args.tag c.args.attributes.now c.as_str-inside_text.result.now ∙ ap (λ text. element_text c.args.tag c.args.attributes.now text) c.as_str-inside_text.ensures.value))
    (formed_around c.inside.inside.is_whole inside c.args.tag c.args.attributes.now piece c.if-inside.true refl c.inside.invariant) c.self.invariant

pub invariant_of-self-in-Err : goal.invariant_of-self-in-Err
invariant_of-self-in-Err c = formed_lost _
