-- The object whose monitor a thread's next instruction is for (this profile; I.12.6.5).
use Rattle.std.specs.Prelude.{◌==◌, ℕ, if◌then◌else◌, List, Option, Some, None, option_and_then, slice_get}
use Rattle.cil_model.specs.declared.trees.Tree.{Tree}
use Rattle.reference_machine.specs.BuiltIn.{Action, Enter, Exit}
use Rattle.object_memory.specs.declared.addresses.Addr.{Addr}
use Rattle.object_memory.specs.declared.values.Value.{Value}
use Rattle.threads_monitors.specs.Frames.{Frames}
use Rattle.threads_monitors.specs.declared.threads.ThreadStatus.{ThreadStatus}
use Rattle.threads_monitors.specs.declared.threads.ThreadStatus.TheVariants.{Live, Ended}
use Rattle.threads_monitors.specs.declared.threads.Thread.{Thread}
use Rattle.simulation.specs.interpreter.Calls.{top_reference}
use Rattle.simulation.specs.MachineStates.{MachineState}
use Rattle.interleaving_core.specs.Waits.{action_at}

-- null has no monitor
abbrev pub unless_null : Addr → Option Addr
unless_null a = if a.number == 0 then None else Some a

-- the object whose monitor an action enters or leaves, with the topmost value of the stack; none of any other action
abbrev pub monitor_by : Action → List Value → Option Addr
monitor_by Enter stack = option_and_then unless_null (top_reference stack)
monitor_by Exit stack = option_and_then unless_null (top_reference stack)
monitor_by _ stack = None

-- the one whose monitor the running frame is about to enter or to leave
abbrev pub monitor_in : Tree → Frames → Option Addr
monitor_in tree m = option_and_then (λ a. monitor_by a m.running.stack) (action_at tree m)

-- a thread that has ended enters and leaves none
abbrev pub status_monitor : Tree → ThreadStatus → Option Addr
status_monitor tree (Live m) = monitor_in tree m
status_monitor tree (Ended e) = None

-- the one whose monitor the next instruction of the thread of a number is for; none where it is for none, and where the thread is not live
abbrev pub next_monitor : MachineState → ℕ → Option Addr
next_monitor c t = option_and_then (λ (x : Thread). status_monitor c.tree x.thread_status) (slice_get c.threads t)
