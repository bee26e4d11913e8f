use Rattle.std.proofs.Common.{◌≡◌, false, ap, inl, inr, None, refl, subst, sym, ◌∙◌, List, ℕ, Option}
use Rattle.driver.proofs.Names.{handed_on, events_of, HasEnded, HasNotRunThreads, output_state, texts_of, texts_over, run_file}
use Rattle.driver.proofs.OutcomeLemmas.{cut_breaks, nothing_written, write_failed}
use Rattle.driver.proofs.Refusals.{not_run}
use Rattle.driver.proofs.WorkerLemmas.{all_have_numbers, has_run_threads, some_record, threads_in_part, threads_then_in_part}
use Rattle.driver.proofs.running_threads.show_threads.Goals as goal

pub record_of-record-requires : goal.record_of-record-requires
record_of-record-requires g c = all_have_numbers c.args.workers.count c.in_ok-outcome.outcome.history.entries c.in_ok-outcome.ensures.own

-- no run
pub returns-in_err-outcome-clause-given_up : goal.returns-in_err-outcome-clause-given_up
returns-in_err-outcome-clause-given_up g c =
    let at = output_state g.W.Out.taken g.E.Out.taken in
    handed_on c.from_residual.result c.from_residual.ensures.1 (λ failure same.
    nothing_written (at c.args.outputs.now) (at c.args.outputs.now) failure (subst (HasNotRunThreads c.args.source.now c.args.limits) (sym same) (inl c.in_err-outcome.ensures.refused))
    (λ device. not_run c.args.source.now c.args.limits _ c.in_err-outcome.ensures.refused (sym same ∙ device)) (refl, refl) refl)

-- a write of what the run leaves failed
pub returns-in_err-status-clause-given_up : goal.returns-in_err-status-clause-given_up
returns-in_err-status-clause-given_up g c =
    let at = output_state g.W.Out.taken g.E.Out.taken in
    let outcome = c.in_ok-outcome.outcome in
    let h = outcome.history.entries in
    let ran = c.in_ok-outcome.ensures in
    let ended : outcome.is_out_of_memory ≡ false → HasEnded c.args.stop_at outcome.machine outcome.stopped = ran.ended in
    let (made, is_record) = some_record c.args.is_recorded (events_of h) (run_file c.args.source.now c.args.limits c.args.workers.count outcome.machine.printed) in
    let cut = c.in_err-status.ensures.cut in
    handed_on c.from_residual-in_err-status.result c.from_residual-in_err-status.ensures.1 (λ failure is.
    write_failed (at c.args.outputs.now) (at c.show_outcome.new.outputs) failure (inr ((ran.ran.0, ran.ran.1), is)) (inr is) (cut_breaks _ _ (at c.args.outputs.now) (at c.show_outcome.new.outputs) cut.2)
    (threads_in_part c.args.source.now c.args.limits c.args.workers.count c.args.stop_at c.args.run.now.most_printed c.args.is_recorded c.args.run.now.explain c.args.run.now.stats outcome.is_out_of_memory h outcome.machine made ran.ran ran.own ran.printed outcome.stopped ended is_record None tt
    (at c.args.outputs.now) (at c.show_outcome.new.outputs) cut) c.in_err-status.ensures.same)

-- a write of what comes last failed
pub returns-in_err-status-2-clause-given_up : goal.returns-in_err-status-2-clause-given_up
returns-in_err-status-2-clause-given_up g c =
    let at = output_state g.W.Out.taken g.E.Out.taken in
    let outcome = c.in_ok-outcome.outcome in
    let h = outcome.history.entries in
    let ran = c.in_ok-outcome.ensures in
    let ended : outcome.is_out_of_memory ≡ false → HasEnded c.args.stop_at outcome.machine outcome.stopped = ran.ended in
    let part = threads_then_in_part c.args.source.now c.args.limits c.args.workers.count c.args.stop_at c.args.run.now.most_printed c.args.is_recorded c.args.run.now.explain c.args.run.now.stats outcome.is_out_of_memory h outcome.machine c.record_of-record.result ran.ran ran.own ran.printed outcome.stopped ended c.record_of-record.ensures c.most_words_of-most.result c.most_words_of-most.ensures
    (at c.args.outputs.now) (at c.show_outcome.new.outputs) (g.E.Out.taken c.show_last_of_workers.new.err) c.in_ok-status.status c.in_ok-status.ensures.whole c.in_err-status-2.ensures.cut in
    handed_on c.from_residual-in_err-status-2.result c.from_residual-in_err-status-2.ensures.1 (λ failure is.
    write_failed (at c.args.outputs.now) (record (at c.show_outcome.new.outputs) { err = g.E.Out.taken c.show_last_of_workers.new.err }) failure (inr ((ran.ran.0, ran.ran.1), is)) (inr is) (cut_breaks _ _ (at c.args.outputs.now) (record (at c.show_outcome.new.outputs) { err = g.E.Out.taken c.show_last_of_workers.new.err }) part.cut) part c.in_ok-status.ensures.same)

-- all is written
pub returns-clause-done : goal.returns-clause-done
returns-clause-done g c =
    let at = output_state g.W.Out.taken g.E.Out.taken in
    let outcome = c.in_ok-outcome.outcome in
    let h = outcome.history.entries in
    let ran = c.in_ok-outcome.ensures in
    let ended : outcome.is_out_of_memory ≡ false → HasEnded c.args.stop_at outcome.machine outcome.stopped = ran.ended in
    let m = at c.show_outcome.new.outputs in
    let left = c.replace_files.ensures ∙ ap (λ (texts : Option (List ℕ × List ℕ)). texts_over texts m.texts) c.into_files.ensures ∙ ap (texts_over _) c.in_ok-status.ensures.same in
    has_run_threads c.args.source.now c.args.limits c.args.workers.count c.args.stop_at c.args.run.now.most_printed c.args.is_recorded c.args.run.now.explain c.args.run.now.stats outcome.is_out_of_memory h outcome.machine c.record_of-record.result ran.ran ran.own ran.printed outcome.stopped ended c.record_of-record.ensures c.most_words_of-most.result c.most_words_of-most.ensures
    (at c.args.outputs.now) m (record { out = m.out; err = g.E.Out.taken c.show_last_of_workers.new.err; texts = texts_of c.replace_files.new.kept }) c.in_ok-status.status c.in_ok-status-2.status c.in_ok-status.ensures.whole refl left
    c.in_ok-status-2.ensures.whole
