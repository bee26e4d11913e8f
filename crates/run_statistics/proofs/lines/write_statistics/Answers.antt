use Rattle.std.proofs.Common.{subst}
use Rattle.std.proofs.lemmas.Result.{on_err_weaker, on_ok_weaker}
use Rattle.outputs.specs.Streams.{Fails, Takes}
use Rattle.outputs.proofs.StreamLaws.{fails_first, fails_second, takes_both}
use Rattle.shared_machine.specs.Histories.{events_of, reports_of}
use Rattle.run_statistics.specs.Lines.{heap_words, steps_text, total_text}
use Rattle.run_statistics.proofs.LineLemmas.{on_err}
use Rattle.run_statistics.proofs.lines.write_statistics.Goals as goal

pub returns-in_err-write_steps-clause-cut : goal.returns-in_err-write_steps-clause-cut
returns-in_err-write_steps-clause-cut g c =
    let h = c.args.outcome.now.history.entries in
    on_err c.from_residual.result (fails_first _ _ _ _
    (subst (λ n. Fails (g.E.Out.taken c.args.err.now) (g.E.Out.taken c.write_steps.new.err) (steps_text (events_of h) (reports_of h) n)) c.started.ensures.all c.in_err-write_steps.ensures.cut))

pub returns-clause-whole : goal.returns-clause-whole
returns-clause-whole g c =
    let h = c.args.outcome.now.history.entries in
    let first = subst (λ n. Takes (g.E.Out.taken c.args.err.now) (g.E.Out.taken c.write_steps.new.err) (steps_text (events_of h) (reports_of h) n)) c.started.ensures.all c.in_ok-write_steps.ensures.whole in
    on_ok_weaker c.write_totals.result (λ more. takes_both _ _ _ _ _ first
    (subst (λ n. Takes (g.E.Out.taken c.write_steps.new.err) (g.E.Out.taken c.write_totals.new.err) (total_text (events_of h) (reports_of h) n (heap_words c.args.outcome.now.machine) c.args.most)) c.words_in_use.ensures
    (subst (λ n. Takes (g.E.Out.taken c.write_steps.new.err) (g.E.Out.taken c.write_totals.new.err) (total_text (events_of h) (reports_of h) c.words_in_use.result n c.args.most)) c.heap_words.ensures more))) c.write_totals.ensures.whole

pub returns-clause-cut : goal.returns-clause-cut
returns-clause-cut g c =
    let h = c.args.outcome.now.history.entries in
    let first = subst (λ n. Takes (g.E.Out.taken c.args.err.now) (g.E.Out.taken c.write_steps.new.err) (steps_text (events_of h) (reports_of h) n)) c.started.ensures.all c.in_ok-write_steps.ensures.whole in
    on_err_weaker c.write_totals.result (λ cut. fails_second _ _ _ _ _ first
    (subst (λ n. Fails (g.E.Out.taken c.write_steps.new.err) (g.E.Out.taken c.write_totals.new.err) (total_text (events_of h) (reports_of h) n (heap_words c.args.outcome.now.machine) c.args.most)) c.words_in_use.ensures
    (subst (λ n. Fails (g.E.Out.taken c.write_steps.new.err) (g.E.Out.taken c.write_totals.new.err) (total_text (events_of h) (reports_of h) c.words_in_use.result n c.args.most)) c.heap_words.ensures cut))) c.write_totals.ensures.cut
