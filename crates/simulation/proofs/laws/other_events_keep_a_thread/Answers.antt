use Rattle.simulation.proofs.Threads.OtherThreads.{thread_stays}
use Rattle.simulation.proofs.laws.other_events_keep_a_thread.Goals as goal

pub returns : goal.returns
returns c = λ machine_state after t thread there e transition step ack. thread_stays machine_state after t thread there e transition step ack
