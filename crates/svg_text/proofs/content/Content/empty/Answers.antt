use Rattle.std.proofs.Common.{refl, string_bytes}
use Rattle.svg_text.specs.Elements.{empty_text}
use Rattle.svg_text.proofs.WellFormed.{formed_empty, formed_lost, formed_more}
use Rattle.svg_text.proofs.content.Content.empty.Goals as goal

pub invariant_of-self : goal.invariant_of-self
invariant_of-self c =
    let piece = empty_text c.args.tag c.args.attributes.now in
    formed_more c.self.inside.is_whole (string_bytes c.self.inside.text) piece _ c.in-Ok.ensures.bytes (formed_empty c.args.tag c.args.attributes.now piece refl) c.self.invariant

pub invariant_of-self-in-Err : goal.invariant_of-self-in-Err
invariant_of-self-in-Err c = formed_lost _
