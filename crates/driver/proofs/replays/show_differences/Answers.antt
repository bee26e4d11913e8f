use Rattle.std.proofs.Common.{subst}
use Rattle.driver.proofs.Names.{on_err_weaker, on_ok_weaker, Fails, Takes}
use Rattle.driver.proofs.ReplayLemmas.{three_texts}
use Rattle.driver.proofs.replays.show_differences.Goals as goal

pub returns-clause-whole : goal.returns-clause-whole
returns-clause-whole g c =
    on_ok_weaker c.write_texts.result (λ shown. subst (Takes (g.E.Out.taken c.args.err.now) (g.E.Out.taken c.write_texts.new.self)) (three_texts c.line_if.ensures c.line_if-2.ensures c.line_if-3.ensures) shown) c.write_texts.ensures.whole

pub returns-clause-cut : goal.returns-clause-cut
returns-clause-cut g c =
    on_err_weaker c.write_texts.result (λ cut. subst (Fails (g.E.Out.taken c.args.err.now) (g.E.Out.taken c.write_texts.new.self)) (three_texts c.line_if.ensures c.line_if-2.ensures c.line_if-3.ensures) cut) c.write_texts.ensures.cut
