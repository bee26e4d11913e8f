use Rattle.std.proofs.Common.{◌++◌, ◌∷◌, [], append_assoc, arith, sym, ap, ◌∙◌, map, take}
use Rattle.std.specs.Prelude.{flat_map}
use Rattle.std.proofs.lemmas.List.{map-append}
use Rattle.cil_model.specs.declared.trees.Line.{Line}
use Rattle.name_tables.specs.Keys.{text_of_key}
use Rattle.name_tables.proofs.Lists.{take_one_more, at_end}
use Rattle.name_tables.proofs.bodies.label_keys.Goals as goal

pub loop-label-preserved : goal.loop-label-preserved
loop-label-preserved c =
    let before = flat_map (λ (x : Line). x.labels) (take c.loop-line.line-index c.lines_of-line-items.result.now) in
    let labels = c.as_slice-label-items.result.now in
    let one = c.label-item.result ∷ [] in
    ap (map text_of_key) c.in_ok-push.ensures.items ∙ map-append text_of_key c.loop-label.keys.items _ ∙ ap (λ z. z ++ one) c.loop-label.invariant ∙ append_assoc before (take c.loop-label.label-index labels) one ∙
    ap (λ z. before ++ z) (sym (take_one_more labels c.loop-label.label-index c.label-item.result (omega arith) c.label-item.is))

pub returns : goal.returns
returns c =
    at_end (flat_map (λ (x : Line). x.labels)) c.lines_of-line-items.result.now c.loop-line.line-index c.loop-line-test.false c.loop-line.invariant ∙
    ap (flat_map (λ (x : Line). x.labels)) c.lines_of-line-items.ensures

pub loop-line-init : goal.loop-line-init
loop-line-init c = ap (map text_of_key) c.new-keys.ensures.items
