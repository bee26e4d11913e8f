use Rattle.std.proofs.Common.{◌++◌, ◌∷◌, [], ◌∙◌, ap, map}
use Rattle.std.proofs.lemmas.List.{take_all}
use Rattle.threads_monitors.specs.Frames.{zero_value}
use Rattle.interleaving_core.specs.Statics.{zeros_of}
use Rattle.interleaving_core.proofs.InitialContents.StaticFields.{static_more, static_no_more}
use Rattle.interleaving_core.proofs.initial_states.push_zeros.Goals as goal
use Rattle.interleaving_core.proofs.initial_states.push_zeros.Goals.{then-field+in_ok-push, else-field}

pub loop-field-preserved : goal.loop-field-preserved
loop-field-preserved c =
    let fields = c.args.fields.now in
    let i = c.loop-field.field-index in
    let old = c.args.statics.now.items in
    elim c.if-field.branch [
      | then-field+in_ok-push w ↦ ap (λ v. v.items) w.statics-is ∙ static_more (λ f. f.now) fields i c.field-item.result c.loop-field-test.true c.field-item.is old c.loop-field.statics.items c.loop-field.invariant w.push.new.self.items w.if-field.true
          (w.in_ok-push.ensures.items ∙ ap (λ zero. c.loop-field.statics.items ++ zero ∷ []) (w.zero_value.ensures ∙ ap zero_value w.kind.ensures))
      | else-field w ↦ ap (λ v. v.items) w.statics-is ∙ static_no_more (λ f. f.now) fields i c.field-item.result c.loop-field-test.true c.field-item.is old c.loop-field.statics.items c.loop-field.invariant w.if-field.false
    ]

pub returns : goal.returns
returns c = c.loop-field.invariant ∙ ap (λ fields. c.args.statics.now.items ++ zeros_of (map (λ f. f.now) fields)) (take_all c.loop-field.field-index c.args.fields.now c.loop-field-test.false)
