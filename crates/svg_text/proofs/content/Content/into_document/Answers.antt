use Rattle.std.proofs.Common.{◌∙◌, string_bytes}
use Rattle.svg_text.specs.declared.markup.Tag.TheVariants.{Svg}
use Rattle.svg_text.proofs.WellFormed.{document_formed, made_of_pieces}
use Rattle.svg_text.proofs.content.Content.into_document.Goals as goal

pub returns-then-is_whole-clause-formed : goal.returns-then-is_whole-clause-formed
returns-then-is_whole-clause-formed c =
    document_formed c.self.inside.is_whole (string_bytes c.self.inside.text) c.args.attributes.now _ c.if-is_whole.true
    (c.in_ok-document.ensures.ok ∙ made_of_pieces Svg c.args.attributes.now (string_bytes c.self.inside.text)) c.self.invariant
