use Rattle.std.proofs.Common.{inr}
use Rattle.driver.proofs.Names.{if_ok, on_err_of}
use Rattle.driver.proofs.driving.carry_out.Goals as goal

pub returns-clause-reported : goal.returns-clause-reported
returns-clause-reported g c =
    if_ok c.report_failure.result c.report_failure.ensures.whole (λ _ reported. inr record {
      failure = c.in-Err.failure;
      before = g.E.Out.taken c.perform.new.outputs.err;
      given_up = c.in-Err.ensures.given_up;
      text = reported.1.0;
      explains = reported.1.1;
      written = reported.1.2;
      status_is = reported.0;
    })

pub returns-clause-cut : goal.returns-clause-cut
returns-clause-cut g c =
    on_err_of c.report_failure.result c.report_failure.ensures.cut (λ reported. record {
      failure = c.in-Err.failure;
      before = g.E.Out.taken c.perform.new.outputs.err;
      given_up = c.in-Err.ensures.given_up;
      text = reported.0;
      explains = reported.1;
      cut = reported.2;
    })
