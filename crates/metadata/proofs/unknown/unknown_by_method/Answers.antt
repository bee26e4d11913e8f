use Rattle.std.proofs.Common.{◌&&◌, ap, ◌∙◌, map}
use Rattle.std.specs.List.{list_all}
use Rattle.cil_model.specs.declared.trees.Line.{Line}
use Rattle.cil_model.specs.Legality.{labels_before}
use Rattle.name_tables.specs.Keys.{text_of_key}
use Rattle.metadata.proofs.UnknownLaws.{is_instruction, are_labels, method_known}
use Rattle.metadata.proofs.unknown.unknown_by_method.Goals as goal

pub returns : goal.returns
returns c =
    let t = c.args.names.now.classes.tree.now in
    let m = c.args.declared.now in
    c.unknown_by_lines.ensures ∙ ap (λ ks. list_all (λ (x : Line). is_instruction t x.instruction && are_labels (map text_of_key ks) x.instruction) c.lines_of.result.now) c.in_ok-labels.ensures ∙
    ap (λ ls. list_all (λ (x : Line). is_instruction t x.instruction && are_labels ls x.instruction) c.lines_of.result.now) c.in_ok-label_keys.ensures ∙
    ap (λ xs. list_all (λ (x : Line). is_instruction t x.instruction && are_labels (labels_before m) x.instruction) xs) c.lines_of.ensures ∙ method_known t m
