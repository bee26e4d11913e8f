use Rattle.std.proofs.Common.{◌++◌, map, sym, ap, ◌∙◌, arith}
use Rattle.resolved_code.proofs.LegalPrograms.Labels.{label_indices_more}
use Rattle.std.proofs.Math.Seq.{take_all}
use Rattle.resolved_code.specs.LabelIndices.{label_indices}
use Rattle.resolved_code.proofs.labels.label_indices.Goals as goal

pub loop-index-preserved : goal.loop-index-preserved
loop-index-preserved c =
    c.in_ok-add_indices.ensures ∙ ap (λ z. z ++ map (λ label. c.loop-index.index) c.index-lines-index.result.labels) c.loop-index.invariant ∙
    sym (label_indices_more c.args.lines.now c.loop-index.index c.index-lines-index.result (omega arith) c.index-lines-index.is)

pub loop-index-init : goal.loop-index-init
loop-index-init c = c.new-indices.ensures.items

pub returns : goal.returns
returns c = c.loop-index.invariant ∙ ap (label_indices 0) (take_all c.loop-index.index c.args.lines.now c.loop-index-test.false)
