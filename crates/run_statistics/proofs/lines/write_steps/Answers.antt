use Rattle.std.proofs.Common.{◌≡◌, ◌++◌, arith, subst, sym}
use Rattle.outputs.specs.Streams.{Fails, Takes}
use Rattle.outputs.proofs.StreamLaws.{fails_first, fails_second, takes_both}
use Rattle.shared_machine.specs.Histories.{events_of, reports_of}
use Rattle.run_statistics.specs.Lines.{steps_text, thread_text}
use Rattle.run_statistics.proofs.LineLemmas.{on_err, steps_around, steps_more}
use Rattle.run_statistics.proofs.lines.write_steps.Goals as goal

pub loop-thread-preserved : goal.loop-thread-preserved
loop-thread-preserved g c =
    let h = c.args.history.now.entries in
    subst (Takes (g.E.Out.taken c.args.err.now) (g.E.Out.taken c.write_thread.new.err)) (steps_more (events_of h) (reports_of h) c.loop-thread.thread)
    (takes_both _ _ _ _ _ c.loop-thread.invariant c.in_ok-write_thread.ensures.whole)

pub returns-in_err-write_thread-clause-cut : goal.returns-in_err-write_thread-clause-cut
returns-in_err-write_thread-clause-cut g c =
    let h = c.args.history.now.entries in
    let thread = c.loop-thread.thread in
    let (rest, is) = steps_around (events_of h) (reports_of h) thread c.args.threads c.loop-thread-test.true in
    on_err c.from_residual.result
    (subst (Fails (g.E.Out.taken c.args.err.now) (g.E.Out.taken c.write_thread.new.err)) (sym is)
    (fails_second _ _ _ (steps_text (events_of h) (reports_of h) thread) (thread_text (events_of h) (reports_of h) thread ++ rest) c.loop-thread.invariant
    (fails_first _ _ (thread_text (events_of h) (reports_of h) thread) rest c.in_err-write_thread.ensures.cut)))

pub returns-clause-whole : goal.returns-clause-whole
returns-clause-whole g c =
    let h = c.args.history.now.entries in
    let all : c.loop-thread.thread ≡ c.args.threads = omega (arith, c.loop-thread-test.false) in
    subst (λ n. Takes (g.E.Out.taken c.args.err.now) (g.E.Out.taken c.loop-thread.err) (steps_text (events_of h) (reports_of h) n)) all c.loop-thread.invariant
