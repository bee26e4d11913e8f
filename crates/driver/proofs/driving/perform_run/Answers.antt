use Rattle.std.proofs.Common.{subst}
use Rattle.std.specs.Prelude.{IfErr, IfOk, None}
use Rattle.driver.proofs.Names.{HasNotRun, HasNotRunThreads, HasRunSource, HasRunThreads, IsRunByWorkersInPart, IsRunInPart, IsGivenUp, output_state}
use Rattle.driver.proofs.driving.perform_run.Goals as goal

pub returns-in-Schedule-clause-done : goal.returns-in-Schedule-clause-done
returns-in-Schedule-clause-done g c =
    let at = output_state g.W.Out.taken g.E.Out.taken in
    rw c.in-Schedule.is (subst (λ text. IfOk c.show_run.result (HasRunSource c.args.source.now c.in-Schedule.limits text c.args.run.now.most_printed None c.args.run.now.explain c.args.run.now.stats (at c.args.outputs.now) (at c.show_run.new.outputs))) c.as_bytes-text.ensures.value c.show_run.ensures.done)

pub returns-in-Schedule-clause-given_up : goal.returns-in-Schedule-clause-given_up
returns-in-Schedule-clause-given_up g c =
    let at = output_state g.W.Out.taken g.E.Out.taken in
    rw c.in-Schedule.is (subst (λ text. IfErr c.show_run.result (IsGivenUp (HasNotRun c.args.source.now c.in-Schedule.limits text) (IsRunInPart c.args.source.now c.in-Schedule.limits text c.args.run.now.most_printed None c.args.run.now.explain c.args.run.now.stats c.args.run.now.explain) (at c.args.outputs.now) (at c.show_run.new.outputs))) c.as_bytes-text.ensures.value c.show_run.ensures.given_up)

pub returns-in-Replay-clause-done : goal.returns-in-Replay-clause-done
returns-in-Replay-clause-done g c =
    let at = output_state g.W.Out.taken g.E.Out.taken in
    rw c.in-Replay.is (subst (λ limits. IfOk c.show_run-in-Replay.result (HasRunSource c.args.source.now limits c.args.schedule.now c.args.run.now.most_printed c.in-Replay.expected c.args.run.now.explain c.args.run.now.stats (at c.args.outputs.now) (at c.show_run-in-Replay.new.outputs))) c.limits_for-limits.ensures c.show_run-in-Replay.ensures.done)

pub returns-in-Replay-clause-given_up : goal.returns-in-Replay-clause-given_up
returns-in-Replay-clause-given_up g c =
    let at = output_state g.W.Out.taken g.E.Out.taken in
    rw c.in-Replay.is (subst (λ limits. IfErr c.show_run-in-Replay.result (IsGivenUp (HasNotRun c.args.source.now limits c.args.schedule.now) (IsRunInPart c.args.source.now limits c.args.schedule.now c.args.run.now.most_printed c.in-Replay.expected c.args.run.now.explain c.args.run.now.stats c.args.run.now.explain) (at c.args.outputs.now) (at c.show_run-in-Replay.new.outputs))) c.limits_for-limits.ensures c.show_run-in-Replay.ensures.given_up)

pub returns-in-Workers-clause-done : goal.returns-in-Workers-clause-done
returns-in-Workers-clause-done g c =
    let at = output_state g.W.Out.taken g.E.Out.taken in
    rw c.in-Workers.is (subst (λ asked. IfOk c.show_threads.result (HasRunThreads c.args.source.now c.in-Workers.limits c.in-Workers.workers.count c.in-Workers.stop_at c.args.run.now.most_printed asked c.args.run.now.explain c.args.run.now.stats (at c.args.outputs.now) (at c.show_threads.new.outputs))) c.is_some-is_recorded.ensures c.show_threads.ensures.done)

pub returns-in-Workers-clause-given_up : goal.returns-in-Workers-clause-given_up
returns-in-Workers-clause-given_up g c =
    let at = output_state g.W.Out.taken g.E.Out.taken in
    rw c.in-Workers.is (subst (λ asked. IfErr c.show_threads.result (IsGivenUp (HasNotRunThreads c.args.source.now c.in-Workers.limits) (IsRunByWorkersInPart c.args.source.now c.in-Workers.limits c.in-Workers.workers.count c.in-Workers.stop_at c.args.run.now.most_printed asked c.args.run.now.explain c.args.run.now.stats) (at c.args.outputs.now) (at c.show_threads.new.outputs))) c.is_some-is_recorded.ensures c.show_threads.ensures.given_up)
