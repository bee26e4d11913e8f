use Rattle.std.proofs.Common.{◌≡◌, ◌&&◌, map, drop}
use Rattle.std.specs.List.{list_all}
use Rattle.name_tables.specs.Keys.{text_of_key}
use Rattle.metadata.proofs.UnknownLaws.{is_instruction, are_labels}
use Rattle.metadata.proofs.unknown.unknown_by_lines.Given as goal

abbrev pub invariant-loop-line : goal.invariant-loop-line
invariant-loop-line l = list_all (λ x. is_instruction l.names.classes.tree.now x.instruction && are_labels (map text_of_key l.labels) x.instruction) (drop l.line l.lines) ≡ list_all (λ x. is_instruction l.names.classes.tree.now x.instruction && are_labels (map text_of_key l.labels) x.instruction) l.lines
