use Rattle.std.proofs.Common.{◌≡◌, Some, None, option_and_then, slice_get, sym, ap, ◌∙◌}
use Rattle.std.specs.Prelude.{flat_map}
use Rattle.std.specs.List.{position_from}
use Rattle.cil_model.specs.declared.trees.Line.{Line}
use Rattle.cil_model.specs.Same.{same_text}
use Rattle.name_tables.specs.Keys.{text_of_key}
use Rattle.name_tables.proofs.NumberLaws.{position_from-map}
use Rattle.resolved_code.specs.LabelIndices.{label_indices}
use Rattle.resolved_code.proofs.LegalPrograms.Labels.{label_pc_is}
use Rattle.resolved_code.proofs.labels.Labels.index.Goals as goal

pub returns-in-None : goal.returns-in-None
returns-in-None c =
    let s = c.args.self.now in
    let label = c.args.label.now in
    let found : position_from (same_text label) 0 (flat_map (λ (x : Line). x.labels) s.lines.now) ≡ None =
    ap (position_from (same_text label) 0) (sym s.names_are) ∙ position_from-map text_of_key (same_text label) 0 s.names ∙ sym c.first.ensures ∙ c.in-None.is in
    sym (ap (option_and_then (slice_get (label_indices 0 s.lines.now))) found) ∙ label_pc_is label s.lines.now

pub returns-in-Some : goal.returns-in-Some
returns-in-Some c =
    let s = c.args.self.now in
    let label = c.args.label.now in
    let found : position_from (same_text label) 0 (flat_map (λ (x : Line). x.labels) s.lines.now) ≡ Some c.in-Some.number =
    ap (position_from (same_text label) 0) (sym s.names_are) ∙ position_from-map text_of_key (same_text label) 0 s.names ∙ sym c.first.ensures ∙ c.in-Some.is in
    c.index_at.ensures ∙ ap (λ xs. slice_get xs c.in-Some.number) (c.as_slice.ensures.value ∙ s.indices_are) ∙ sym (ap (option_and_then (slice_get (label_indices 0 s.lines.now))) found) ∙ label_pc_is label s.lines.now
