use Rattle.std.proofs.Common.{◌∙◌, inl, inr, None, refl, subst, sym}
use Rattle.driver.proofs.Names.{events_of, reports_of, HasNotRun, output_state, differences_from, handed_on}
use Rattle.driver.proofs.OutcomeLemmas.{cut_breaks, has_run, nothing_written, run_in_part, run_then_in_part, write_failed}
use Rattle.driver.proofs.Refusals.{not_run_by}
use Rattle.driver.proofs.driving.show_run.Goals as goal

-- no run
pub returns-in_err-outcome-clause-given_up : goal.returns-in_err-outcome-clause-given_up
returns-in_err-outcome-clause-given_up g c =
    let at = output_state g.W.Out.taken g.E.Out.taken in
    handed_on c.from_residual.result c.from_residual.ensures.1 (λ failure same.
    nothing_written (at c.args.outputs.now) (at c.args.outputs.now) failure (subst (HasNotRun c.args.source.now c.args.limits c.args.text.now) (sym same) (inl c.in_err-outcome.ensures.refused))
    (λ device. not_run_by c.args.source.now c.args.limits c.args.text.now _ c.in_err-outcome.ensures.refused (sym same ∙ device)) (refl, refl) refl)

-- a write of what the run leaves failed
pub returns-in_err-status-clause-given_up : goal.returns-in_err-status-clause-given_up
returns-in_err-status-clause-given_up g c =
    let at = output_state g.W.Out.taken g.E.Out.taken in
    let outcome = c.in_ok-outcome.outcome in
    let ran = c.in_ok-outcome.ensures.ran.ran in
    let cut = c.in_err-status.ensures.cut in
    handed_on c.from_residual-in_err-status.result c.from_residual-in_err-status.ensures.1 (λ failure is.
    write_failed (at c.args.outputs.now) (at c.show_outcome.new.outputs) failure (inr ((ran.0, ran.1), is)) (inr is) (cut_breaks _ _ (at c.args.outputs.now) (at c.show_outcome.new.outputs) cut.2)
    (run_in_part c.args.source.now c.args.limits c.args.text.now c.args.run.now.most_printed c.args.expected c.args.run.now.explain c.args.run.now.stats outcome.is_out_of_memory (events_of outcome.history.entries) (reports_of outcome.history.entries) outcome.machine c.in_ok-outcome.ensures.ran c.in_ok-outcome.ensures.printed
    (differences_from c.args.expected c.args.source.now c.args.limits outcome.machine.printed) refl None tt (at c.args.outputs.now) (at c.show_outcome.new.outputs) cut) c.in_err-status.ensures.same)

-- a write of what comes last failed
pub returns-in_err-show_last-clause-given_up : goal.returns-in_err-show_last-clause-given_up
returns-in_err-show_last-clause-given_up g c =
    let at = output_state g.W.Out.taken g.E.Out.taken in
    let outcome = c.in_ok-outcome.outcome in
    let ran = c.in_ok-outcome.ensures.ran.ran in
    let part = run_then_in_part c.args.source.now c.args.limits c.args.text.now c.args.run.now.most_printed c.args.expected c.args.run.now.explain c.args.run.now.stats outcome.is_out_of_memory (events_of outcome.history.entries) (reports_of outcome.history.entries) outcome.machine c.in_ok-outcome.ensures.ran c.in_ok-outcome.ensures.printed c.differences_from-differences.result c.differences_from-differences.ensures c.most_words_of-most.result c.most_words_of-most.ensures
    (at c.args.outputs.now) (at c.show_outcome.new.outputs) (g.E.Out.taken c.show_last.new.err) c.in_ok-status.status c.in_ok-status.ensures.whole c.in_err-show_last.ensures.cut in
    handed_on c.from_residual-in_err-show_last.result c.from_residual-in_err-show_last.ensures.1 (λ failure is.
    write_failed (at c.args.outputs.now) (record (at c.show_outcome.new.outputs) { err = g.E.Out.taken c.show_last.new.err }) failure (inr ((ran.0, ran.1), is)) (inr is) (cut_breaks _ _ (at c.args.outputs.now) (record (at c.show_outcome.new.outputs) { err = g.E.Out.taken c.show_last.new.err }) part.cut) part c.in_ok-status.ensures.same)

-- all is written
pub returns-clause-done : goal.returns-clause-done
returns-clause-done g c =
    let at = output_state g.W.Out.taken g.E.Out.taken in
    let outcome = c.in_ok-outcome.outcome in
    has_run c.args.source.now c.args.limits c.args.text.now c.args.run.now.most_printed c.args.expected c.args.run.now.explain c.args.run.now.stats outcome.is_out_of_memory (events_of outcome.history.entries) (reports_of outcome.history.entries) outcome.machine c.in_ok-outcome.ensures.ran c.in_ok-outcome.ensures.printed c.differences_from-differences.result c.differences_from-differences.ensures c.most_words_of-most.result c.most_words_of-most.ensures
    (at c.args.outputs.now) (at c.show_outcome.new.outputs) (g.E.Out.taken c.show_last.new.err) c.in_ok-status.status _ c.in_ok-status.ensures.whole c.in_ok-status.ensures.same c.in_ok-show_last.ensures.whole
