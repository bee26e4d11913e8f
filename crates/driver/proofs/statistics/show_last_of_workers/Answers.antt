use Rattle.driver.proofs.Names.{on_err, fails_first, fails_second, takes_both}
use Rattle.driver.proofs.statistics.show_last_of_workers.Goals as goal

pub returns-in_err-status-clause-cut : goal.returns-in_err-status-clause-cut
returns-in_err-status-clause-cut g c = on_err c.from_residual.result (fails_first _ _ _ _ c.in_err-status.ensures.cut)

pub returns-in_err-show_statistics-clause-cut : goal.returns-in_err-show_statistics-clause-cut
returns-in_err-show_statistics-clause-cut g c =
    on_err c.from_residual-in_err-show_statistics.result (fails_second _ _ _ _ _ c.in_ok-status.ensures.whole.1 c.in_err-show_statistics.ensures.cut)

pub returns-clause-whole : goal.returns-clause-whole
returns-clause-whole g c =
    (c.in_ok-status.ensures.whole.0, takes_both _ _ _ _ _ c.in_ok-status.ensures.whole.1 c.in_ok-show_statistics.ensures.whole)
