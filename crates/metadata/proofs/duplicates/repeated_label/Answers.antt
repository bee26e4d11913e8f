use Rattle.std.proofs.Common.{sym, ap, ◌∙◌}
use Rattle.cil_model.specs.Same.{same_text}
use Rattle.cil_model.specs.Legality.{has_repeat}
use Rattle.name_tables.specs.Keys.{text_of_key}
use Rattle.resolved_code.proofs.ListLaws.Repeats.{has_repeat-map, if_ok_then}
use Rattle.metadata.proofs.duplicates.repeated_label.Goals as goal

pub returns : goal.returns
returns c = if_ok_then c.repeated_key.result _ _ (λ r e. e ∙ sym (has_repeat-map text_of_key same_text c.in_ok-labels.labels.items) ∙ ap (has_repeat same_text) c.in_ok-labels.ensures) c.repeated_key.ensures
