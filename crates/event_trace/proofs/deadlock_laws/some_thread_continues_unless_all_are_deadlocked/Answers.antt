use Rattle.event_trace.proofs.Names.{continues_unless_all}
use Rattle.event_trace.proofs.Greatest.{holders_started}
use Rattle.event_trace.proofs.deadlock_laws.some_thread_continues_unless_all_are_deadlocked.Goals as goal

pub returns : goal.returns
returns k c s r deadlocked is = continues_unless_all c.tree s (holders_started c s r) deadlocked (is.deadlocked s r)
