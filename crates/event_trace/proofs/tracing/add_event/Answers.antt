use Rattle.std.proofs.Common.{inr}
use Rattle.event_trace.proofs.Names.{on_err}
use Rattle.event_trace.proofs.tracing.add_event.Goals as goal

pub returns-in_err-text-clause-stopped : goal.returns-in_err-text-clause-stopped
returns-in_err-text-clause-stopped c = on_err c.from_residual-in_err-text.result (inr (c.in_ok-report.report, c.in_ok-report.ensures.transitions))

pub returns-in_err-extend_from_slice-clause-stopped : goal.returns-in_err-extend_from_slice-clause-stopped
returns-in_err-extend_from_slice-clause-stopped c = on_err c.from_residual-in_err-extend_from_slice.result (inr (c.in_ok-report.report, c.in_ok-report.ensures.transitions))
