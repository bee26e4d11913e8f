use Rattle.std.proofs.Common.{subst, sym}
use Rattle.std.specs.Prelude.{OnErr}
use Rattle.driver.proofs.Names.{Fails, events_of, reports_of, stats_text}
use Rattle.driver.proofs.statistics.show_statistics.Goals as goal

pub returns-clause-cut : goal.returns-clause-cut
returns-clause-cut g c =
    let outcome = c.args.outcome.now in
    subst (λ asked. OnErr c.write_statistics.result (Fails (g.E.Out.taken c.args.err.now) (g.E.Out.taken c.write_statistics.new.err)
    (stats_text asked (events_of outcome.history.entries) (reports_of outcome.history.entries) outcome.machine c.args.most))) (sym c.if-not-stats.false) c.write_statistics.ensures.cut
