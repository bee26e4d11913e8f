use Rattle.std.proofs.Common.{[], subst}
use Rattle.driver.proofs.Names.{fails_first, fails_second, message_of, IsExplanation}
use Rattle.driver.proofs.OutcomeLemmas.{for_err, no_explanation}
use Rattle.driver.proofs.explaining.report_failure.Goals as goal

pub returns-in_err-write_report-clause-cut : goal.returns-in_err-write_report-clause-cut
returns-in_err-write_report-clause-cut g c =
    for_err c.from_residual.result ([], no_explanation _, fails_first _ _ (message_of c.args.failure) [] c.in_err-write_report.ensures.cut)

pub returns-in_err-write_reason-clause-cut : goal.returns-in_err-write_reason-clause-cut
returns-in_err-write_reason-clause-cut g c =
    let (text, explains, cut) = c.in_err-write_reason.ensures.cut in
    for_err c.from_residual-in_err-write_reason.result (
      text,
      subst (λ reported. IsExplanation reported text) c.has_explanation.ensures explains,
      fails_second _ _ _ (message_of c.args.failure) text c.in_ok-write_report.ensures.whole cut,
    )
