use Rattle.std.proofs.Common.{map, sym, ap, ◌∙◌}
use Rattle.std.specs.Prelude.{flat_map}
use Rattle.cil_model.specs.declared.trees.Line.{Line}
use Rattle.name_tables.specs.Keys.{text_of_key}
use Rattle.resolved_code.proofs.labels.Labels.new.Goals as goal

pub invariant_of-result : goal.invariant_of-result
invariant_of-result c = record {
  names_are = ap (map text_of_key) c.in_ok-names.ensures ∙ c.in_ok-label_keys.ensures ∙ sym (ap (flat_map (λ (line : Line). line.labels)) c.lines_of-lines.ensures);
  indices_are = c.in_ok-indices.ensures;
}

pub returns : goal.returns
returns c = c.lines_of-lines.ensures
