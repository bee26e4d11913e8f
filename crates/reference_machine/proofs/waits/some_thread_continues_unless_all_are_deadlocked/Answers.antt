use Rattle.reference_machine.proofs.Deadlocks.ReadyThreads.{continues_unless_all}
use Rattle.reference_machine.proofs.waits.some_thread_continues_unless_all_are_deadlocked.Goals as goal

pub returns : goal.returns
returns c = continues_unless_all
