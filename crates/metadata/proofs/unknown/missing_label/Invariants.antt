use Rattle.std.proofs.Common.{◌≡◌, map, drop}
use Rattle.std.specs.List.{list_any, list_all}
use Rattle.cil_model.specs.Same.{same_text}
use Rattle.name_tables.specs.Keys.{text_of_key}
use Rattle.metadata.proofs.unknown.missing_label.Given as goal

abbrev pub invariant-loop-target : goal.invariant-loop-target
invariant-loop-target l = list_all (λ w. list_any (same_text w) (map text_of_key l.labels)) (drop l.target l.required) ≡ list_all (λ w. list_any (same_text w) (map text_of_key l.labels)) l.required
