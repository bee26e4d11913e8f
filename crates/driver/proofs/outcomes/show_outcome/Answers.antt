use Rattle.driver.proofs.Names.{events_of, reports_of, on_err, output_state}
use Rattle.driver.proofs.EndLemmas.{cut_run, ends_cut, live_run, whole_run}
use Rattle.driver.proofs.outcomes.show_outcome.Goals as goal

pub returns-in_err-status-clause-cut : goal.returns-in_err-status-clause-cut
returns-in_err-status-clause-cut g c =
    let outcome = c.args.outcome.now in
    let at = output_state g.W.Out.taken g.E.Out.taken in
    on_err c.from_residual.result
    (cut_run c.args.explain c.args.source.now c.args.limits (events_of outcome.history.entries) (reports_of outcome.history.entries) outcome.machine
    (at c.args.outputs.now) (at c.show.new.outputs) c.in_err-status.ensures.cut)

pub returns-in_err-write_ends-clause-cut : goal.returns-in_err-write_ends-clause-cut
returns-in_err-write_ends-clause-cut g c =
    let outcome = c.args.outcome.now in
    let at = output_state g.W.Out.taken g.E.Out.taken in
    on_err c.from_residual-in_err-write_ends.result
    (ends_cut c.args.explain c.args.source.now c.args.limits (events_of outcome.history.entries) (reports_of outcome.history.entries) outcome.machine
    (at c.args.outputs.now) (at c.show.new.outputs) (g.E.Out.taken c.write_ends.new.err) c.in_ok-status.status
    c.in_ok-status.ensures.whole c.in_err-write_ends.ensures.cut)

pub returns-clause-whole : goal.returns-clause-whole
returns-clause-whole g c =
    let outcome = c.args.outcome.now in
    let at = output_state g.W.Out.taken g.E.Out.taken in
    whole_run c.args.explain c.args.source.now c.args.limits (events_of outcome.history.entries) (reports_of outcome.history.entries) outcome.machine
    (at c.args.outputs.now) (at c.show.new.outputs) (g.E.Out.taken c.write_ends.new.err) c.in_ok-status.status
    c.in_ok-status.ensures.whole c.in_ok-write_ends.ensures.whole

pub returns-then-status-eq0-clause-whole : goal.returns-then-status-eq0-clause-whole
returns-then-status-eq0-clause-whole g c =
    let outcome = c.args.outcome.now in
    let at = output_state g.W.Out.taken g.E.Out.taken in
    live_run c.args.explain c.args.source.now c.args.limits (events_of outcome.history.entries) (reports_of outcome.history.entries) outcome.machine
    (at c.args.outputs.now) (at c.show.new.outputs) c.in_ok-status.status c.in_ok-status.ensures.whole
