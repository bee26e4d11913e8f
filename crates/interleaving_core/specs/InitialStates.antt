-- The initial state of a machine, from the parts that depend on its program (this profile).
use Rattle.std.specs.Prelude.{[], ℕ, List, None}
use Rattle.cil_model.specs.declared.limits.Limits.{Limits}
use Rattle.cil_model.specs.declared.trees.Tree.{Tree}
use Rattle.object_memory.specs.Objects.{Objects, no_objects}
use Rattle.object_memory.specs.declared.values.Value.{Value}
use Rattle.phase_handshake.specs.Handshakes.{first_handshakes}
use Rattle.simulation.specs.collector.Phases.{no_progress}
use Rattle.threads_monitors.specs.declared.threads.Thread.{Thread}
use Rattle.simulation.specs.MachineStates.{MachineState}

abbrev pub initial_machine_state_of : Tree → Limits → List Thread → Objects → List Value → List ℕ → MachineState
initial_machine_state_of tree limits threads objects statics printed =
    record { tree = tree; limits = limits; threads = threads; posts = first_handshakes; progress = no_progress; objects = objects; statics = statics; printed = printed }

-- the state of no machine
abbrev pub no_machine_state : MachineState
no_machine_state = initial_machine_state_of (record { externs = []; assembly = None; classes = [] }) (record { words = 0; max_words = 0; budget = 0; depth = 0 }) [] (no_objects 0 0) [] []
