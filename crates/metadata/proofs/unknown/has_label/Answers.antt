use Rattle.std.proofs.Common.{sym, ap, ◌∙◌, is_some}
use Rattle.cil_model.specs.Same.{same_text}
use Rattle.name_tables.specs.declared.keys.TextKey.{TextKey}
use Rattle.name_tables.specs.Keys.{text_of_key}
use Rattle.name_tables.proofs.FirstIndices.{is_some-position_from}
use Rattle.resolved_code.proofs.ListLaws.Repeats.{list_any-map}
use Rattle.metadata.proofs.unknown.has_label.Goals as goal

pub returns : goal.returns
returns c =
    c.is_some.ensures ∙ ap is_some c.first.ensures ∙ is_some-position_from (λ (k : TextKey). same_text c.args.label.now (text_of_key k)) 0 c.args.labels.now ∙
    sym (list_any-map text_of_key (same_text c.args.label.now) c.args.labels.now)
