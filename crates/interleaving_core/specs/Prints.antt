-- What an event prints (this profile; Partition IV).
use Rattle.std.specs.Prelude.{ℕ, List, [], ◌∷◌, slice_get, unwrap_or}
use Rattle.std.specs.Option.{option_map_or}
use Rattle.cil_model.specs.declared.events.Event.{Event}
use Rattle.cil_model.specs.declared.events.Event.TheVariants.{Step, Ack, Gc}
use Rattle.cil_model.specs.declared.trees.Tree.{Tree}
use Rattle.cil_model.specs.Mentions.{literals_of}
use Rattle.reference_machine.specs.BuiltIn.{Action, Write}
use Rattle.object_memory.specs.declared.values.Value.{Value}
use Rattle.threads_monitors.specs.Frames.{Frames}
use Rattle.threads_monitors.specs.declared.threads.ThreadStatus.{ThreadStatus}
use Rattle.threads_monitors.specs.declared.threads.ThreadStatus.TheVariants.{Live, Ended}
use Rattle.threads_monitors.specs.declared.threads.Thread.{Thread}
use Rattle.simulation.specs.instructions.BuiltInTransitions.{line_of}
use Rattle.simulation.specs.MachineStates.{MachineState}
use Rattle.interleaving_core.specs.Waits.{action_at}

-- the line that an action prints with the topmost value of the stack; nothing unless it is Console.WriteLine
abbrev pub print_by : Tree → Action → List Value → List ℕ
print_by tree Write (v ∷ rest) = unwrap_or (line_of (literals_of tree) v) []
print_by tree _ stack = []

-- the line that the running frame is about to print
abbrev pub print_in : Tree → Frames → List ℕ
print_in tree m = option_map_or (λ a. print_by tree a m.running.stack) (action_at tree m) []

-- a thread that has ended prints nothing
abbrev pub status_print : Tree → ThreadStatus → List ℕ
status_print tree (Live m) = print_in tree m
status_print tree (Ended e) = []

-- the bytes that an event prints: the line of a live thread's next instruction, else nothing
abbrev pub next_print : MachineState → Event → List ℕ
next_print c (Step t) = option_map_or (λ (x : Thread). status_print c.tree x.thread_status) (slice_get c.threads t) []
next_print c (Ack t) = []
next_print c Gc = []
