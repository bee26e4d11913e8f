-- The deadlocked threads of a machine (this profile).
use Rattle.std.specs.Prelude.{◌≡◌, Bool, List, length}
use Rattle.interleaving_core.specs.simulation.reference_machine.States.{State}
use Rattle.interleaving_core.specs.simulation.MachineStates.{MachineState}
use Rattle.interleaving_core.specs.simulation.Refines.{Represents}
use Rattle.interleaving_core.specs.simulation.reference_machine.Blocking.{AreDeadlocked}

-- An entry for each thread that was started: whether it is deadlocked, in every state that the machine represents.
pub record IsDeadlockOf (c : MachineState) (set : List Bool) : Type 0 where
  pub each : length set ≡ length c.threads
  pub deadlocked : (s : State) → Represents c s → AreDeadlocked c.tree s set
