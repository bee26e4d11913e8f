-- Contents that differ in nothing but the remaining steps of threads (this profile).
use Rattle.std.specs.Prelude.{◌≡◌, map}
use Rattle.threads_monitors.specs.declared.threads.ThreadStatus.{ThreadStatus}
use Rattle.threads_monitors.specs.declared.threads.Thread.{Thread}
use Rattle.simulation.specs.MachineStates.{MachineState}

abbrev pub status_of : Thread → ThreadStatus
status_of t = t.thread_status

-- equal except for the remaining steps of each thread
pub record AreAlike (c d : MachineState) : Type 0 where
  pub rest : d ≡ record c { threads = d.threads }
  pub statuses : map status_of c.threads ≡ map status_of d.threads
