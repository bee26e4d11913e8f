-- Machines of one program within the same limits (this profile).
use Rattle.std.specs.Prelude.{◌≡◌, Some}
use Rattle.interleaving_core.specs.simulation.MachineStates.{MachineState}
use Rattle.interleaving_core.specs.simulation.Transitions.{initial_machine_state}

-- the second machine state is the initial machine state of a machine with the program and the limits of the first
abbrev pub HasInitialState : MachineState → MachineState → Type 0
HasInitialState c first = initial_machine_state c.tree c.limits ≡ Some first
