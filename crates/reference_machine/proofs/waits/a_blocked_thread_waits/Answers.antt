use Rattle.reference_machine.proofs.Deadlocks.Reports.{unwaiting_reports, waiting_reports}
use Rattle.reference_machine.proofs.waits.a_blocked_thread_waits.Goals as goal

pub returns-clause-waiting : goal.returns-clause-waiting
returns-clause-waiting c = waiting_reports

pub returns-clause-others : goal.returns-clause-others
returns-clause-others c = unwaiting_reports
