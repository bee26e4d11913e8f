use Rattle.interleaving_core.specs.simulation.reference_machine.Runs.{step_reports, thread_part}
use Rattle.event_trace.proofs.Names.{zip, transitions_follow, runs_last}
use Rattle.event_trace.proofs.deadlock_laws.deadlocked_threads_stay_blocked.Goals as goal

pub returns : goal.returns
returns k c after s r deadlocked is events reports transitions =
    let runs = transitions_follow c after events reports transitions s r in
    runs_last c.tree c.limits r.accepted deadlocked (thread_part (zip events reports)) s r.typed (is.deadlocked s r).blocked (step_reports (zip events reports)) runs.state runs.gives
