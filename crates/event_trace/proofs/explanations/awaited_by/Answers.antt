use Rattle.std.proofs.Common.{◌∙◌, ap, map}
use Rattle.event_trace.proofs.Names.{built_in_entry}
use Rattle.event_trace.proofs.explanations.awaited_by.Goals as goal

pub wait_text_of-requires : goal.wait_text_of-requires
wait_text_of-requires c = ap (map built_in_entry) c.built_ins.ensures ∙ c.requires.built_ins
