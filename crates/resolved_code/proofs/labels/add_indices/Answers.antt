use Rattle.std.proofs.Common.{◌++◌, ◌∷◌, [], append_assoc, arith, sym, ap, ◌∙◌, map, take}
use Rattle.name_tables.proofs.Lists.{map-take_more}
use Rattle.std.proofs.Math.Seq.{take_all}
use Rattle.std.proofs.lemmas.List.{append-nil}
use Rattle.resolved_code.proofs.labels.add_indices.Goals as goal

pub loop-label-preserved : goal.loop-label-preserved
loop-label-preserved c =
    let labels = c.as_slice-label-items.result.now in
    let own = c.args.indices.now.items in
    let before = map (λ x. c.args.index) (take c.loop-label._label-index labels) in
    c.in_ok-push.ensures.items ∙ ap (λ z. z ++ c.args.index ∷ []) c.loop-label.invariant ∙ append_assoc own before (c.args.index ∷ []) ∙
    ap (λ z. own ++ z) (sym (map-take_more (λ x. c.args.index) labels c.loop-label._label-index c._label-item.result (omega arith) c._label-item.is))

pub loop-label-init : goal.loop-label-init
loop-label-init c = sym (append-nil c.args.indices.now.items)

pub returns : goal.returns
returns c =
    let labels = c.as_slice-label-items.result.now in
    c.loop-label.invariant ∙ ap (λ ls. c.args.indices.now.items ++ map (λ label. c.args.index) ls) (take_all c.loop-label._label-index labels c.loop-label-test.false ∙ c.as_slice-label-items.ensures)
