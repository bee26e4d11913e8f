use Rattle.std.proofs.Common.{string_bytes}
use Rattle.svg_text.proofs.WellFormed.{formed_lost, formed_more}
use Rattle.svg_text.proofs.content.Content.add.Goals as goal

pub invariant_of-self : goal.invariant_of-self
invariant_of-self c = formed_more c.self.inside.is_whole (string_bytes c.self.inside.text) c.args.piece.now _ c.in-Ok.ensures.bytes c.requires c.self.invariant

pub invariant_of-self-2 : goal.invariant_of-self-2
invariant_of-self-2 c = formed_lost _
