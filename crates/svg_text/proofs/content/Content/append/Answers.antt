use Rattle.std.proofs.Common.{string_bytes}
use Rattle.svg_text.proofs.WellFormed.{machine_state_of_whole}
use Rattle.svg_text.proofs.content.Content.append.Goals as goal

pub add-requires : goal.add-requires
add-requires c = machine_state_of_whole c.more.inside.is_whole (string_bytes c.more.inside.text) _ c.if-more.true c.as_str.ensures.value c.more.invariant
