use Rattle.std.proofs.Common.{subst}
use Rattle.driver.proofs.Names.{message_of, on_err, on_err_of, Fails, Takes, fails_first, fails_second}
use Rattle.driver.proofs.recording.report_record.Goals as goal

pub returns-in_err-write_report-in-TooLong-clause-cut : goal.returns-in_err-write_report-in-TooLong-clause-cut
returns-in_err-write_report-in-TooLong-clause-cut g c =
    let cut = subst (λ f. Fails (g.E.Out.taken c.args.err.now) (g.E.Out.taken c.write_report.new.err) (message_of f)) c.from-refusal.ensures c.in_err-write_report-in-TooLong.ensures.cut in
    rw c.in-TooLong.is (on_err c.from_residual.result (fails_first _ _ _ _ cut))

pub returns-in_ok-write_report-in-TooLong-clause-cut : goal.returns-in_ok-write_report-in-TooLong-clause-cut
returns-in_ok-write_report-in-TooLong-clause-cut g c =
    let taken = subst (λ f. Takes (g.E.Out.taken c.args.err.now) (g.E.Out.taken c.write_report.new.err) (message_of f)) c.from-refusal.ensures c.in_ok-write_report-in-TooLong.ensures.whole in
    rw c.in-TooLong.is (on_err_of c.show_stop.result c.show_stop.ensures.cut (λ cut. fails_second _ _ _ _ _ taken cut))
