use Rattle.std.proofs.Common.{ap, ◌∙◌}
use Rattle.driver.proofs.Names.{on_err, fails_first, fails_second, takes_both, status_after}
use Rattle.driver.proofs.statistics.show_last.Goals as goal

pub returns-in_err-status-clause-cut : goal.returns-in_err-status-clause-cut
returns-in_err-status-clause-cut g c = on_err c.from_residual.result (fails_first _ _ _ _ (fails_first _ _ _ _ c.in_err-status.ensures.cut))

pub returns-in_err-show_differences-clause-cut : goal.returns-in_err-show_differences-clause-cut
returns-in_err-show_differences-clause-cut g c =
    on_err c.from_residual-in_err-show_differences.result
    (fails_first _ _ _ _ (fails_second _ _ _ _ _ c.in_ok-status.ensures.whole.1 c.in_err-show_differences.ensures.cut))

pub returns-in_err-show_statistics-clause-cut : goal.returns-in_err-show_statistics-clause-cut
returns-in_err-show_statistics-clause-cut g c =
    on_err c.from_residual-in_err-show_statistics.result
    (fails_second _ _ _ _ _ (takes_both _ _ _ _ _ c.in_ok-status.ensures.whole.1 c.in_ok-show_differences.ensures.whole) c.in_err-show_statistics.ensures.cut)

pub returns-clause-whole : goal.returns-clause-whole
returns-clause-whole g c = (
  c.in_ok-status.ensures.whole.0 ∙ ap (λ status. status_after c.args.outcome.now.is_out_of_memory status) c.status_if_same-status.ensures,
  takes_both _ _ _ _ _ (takes_both _ _ _ _ _ c.in_ok-status.ensures.whole.1 c.in_ok-show_differences.ensures.whole) c.in_ok-show_statistics.ensures.whole,
)
