use Rattle.std.proofs.Common.{◌∙◌, inl, inr, refl, subst, sym}
use Rattle.schedule_text.specs.Items.{events_of}
use Rattle.driver.proofs.Names.{IsTraced, IsTracedInPart, HasNotTraced, IsTraceInPart, output_state, IsOfWriting, handed_on}
use Rattle.driver.proofs.OutcomeLemmas.{breaks_later, cut_breaks, has_traced, no_refusal, nothing_written, traced_in_part, write_failed}
use Rattle.driver.proofs.Refusals.{not_run_by}
use Rattle.driver.proofs.driving.show_trace.Goals as goal

-- no run
pub returns-in_err-machine-clause-given_up : goal.returns-in_err-machine-clause-given_up
returns-in_err-machine-clause-given_up g c =
    let at = output_state g.W.Out.taken g.E.Out.taken in
    handed_on c.from_residual.result c.from_residual.ensures.1 (λ failure same.
    nothing_written (at c.args.outputs.now) (at c.args.outputs.now) failure (subst (HasNotTraced c.args.source.now c.args.limits c.args.text.now) (sym same) (inl c.in_err-machine.ensures.refused))
    (λ device. not_run_by c.args.source.now c.args.limits c.args.text.now _ c.in_err-machine.ensures.refused (sym same ∙ device)) (refl, refl) refl)

-- a trace in part
pub returns-in_err-write_trace-clause-given_up : goal.returns-in_err-write_trace-clause-given_up
returns-in_err-write_trace-clause-given_up g c =
    let at = output_state g.W.Out.taken g.E.Out.taken in
    let machine = c.in_ok-machine.machine in
    let after = c.write_trace.new.machine in
    let o = at c.args.outputs.now in
    let between = g.W.Out.taken c.write_trace.new.out in
    let ready = c.in_ok-machine.ensures.opened in
    let traced = subst (λ items. IsTracedInPart machine (events_of items) after o.out.contents between.contents) c.as_slice.ensures.value c.in_err-write_trace.ensures.stopped in
    let cut : IsTraceInPart c.args.source.now c.args.limits c.args.text.now o (record o { out = between })
    = record { events = events_of c.in_ok-machine.items.items; initial = machine; ready = ready; after = after; traced = traced; silent = refl } in
    handed_on c.from_residual-in_err-write_trace.result c.from_residual-in_err-write_trace.ensures.1 (λ failure same.
    let writing = subst IsOfWriting (sym same) c.in_err-write_trace.ensures.failed in
    record {
      reason = inr ((ready.tree, ready.is_accepted), writing);
      untouched = λ refused. absurd (no_refusal failure writing refused);
      device = λ device. inl (c.in_err-write_trace.ensures.device (sym same ∙ device));
      in_part = inr (inl cut);
      same = refl;
    })

-- a write of what the run leaves failed
pub returns-in_err-show-clause-given_up : goal.returns-in_err-show-clause-given_up
returns-in_err-show-clause-given_up g c =
    let at = output_state g.W.Out.taken g.E.Out.taken in
    let machine = c.in_ok-machine.machine in
    let after = c.write_trace.new.machine in
    let o = at c.args.outputs.now in
    let between = g.W.Out.taken c.write_trace.new.out in
    let ready = c.in_ok-machine.ensures.opened in
    let traced = c.in_ok-write_trace.ensures.traced in
    let cut = c.in_err-show.ensures.cut in
    handed_on c.from_residual-in_err-show.result c.from_residual-in_err-show.ensures.1 (λ failure is.
    write_failed o (at c.show.new.outputs) failure (inr ((ready.tree, ready.is_accepted), inr is)) (inr is) (breaks_later o between (at c.show.new.outputs) c.in_ok-write_trace.ensures.kept (cut_breaks _ _ (record o { out = between }) (at c.show.new.outputs) cut.2))
    (inr (traced_in_part c.args.source.now c.args.limits c.args.text.now c.args.explain (events_of c.in_ok-machine.items.items) machine after traced.0 o between (at c.show.new.outputs) ready
    (subst (λ items. IsTraced machine (events_of items) after traced.0 o.out.contents between.contents) c.as_slice.ensures.value traced.1) cut)) c.in_err-show.ensures.same)

-- all is written
pub returns-clause-done : goal.returns-clause-done
returns-clause-done g c =
    let at = output_state g.W.Out.taken g.E.Out.taken in
    let machine = c.in_ok-machine.machine in
    let after = c.write_trace.new.machine in
    let o = at c.args.outputs.now in
    let between = g.W.Out.taken c.write_trace.new.out in
    let ready = c.in_ok-machine.ensures.opened in
    let traced = c.in_ok-write_trace.ensures.traced in
    has_traced c.args.source.now c.args.limits c.args.text.now c.args.explain (events_of c.in_ok-machine.items.items) machine after traced.0 o between (at c.show.new.outputs) ready
    (subst (λ items. IsTraced machine (events_of items) after traced.0 o.out.contents between.contents) c.as_slice.ensures.value traced.1) _ c.in_ok-show.ensures.whole c.in_ok-show.ensures.same
