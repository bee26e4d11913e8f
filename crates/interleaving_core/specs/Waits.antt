-- What threads of a machine wait for.
use Rattle.std.specs.Prelude.{◌≡◌, ◌≢◌, ◌<◌, ℕ, ◌==◌, if◌then◌else◌, List, length, Option, Some, None, IsSome, option_and_then, slice_get}
use Rattle.cil_model.specs.declared.trees.Line.{Line}
use Rattle.cil_model.specs.declared.trees.Tree.{Tree}
use Rattle.reference_machine.specs.BuiltIn.{Action, Enter, Join as JoinAction}
use Rattle.simulation.specs.reference_machine.Waits.{called_action}
use Rattle.name_tables.specs.declared.ids.MethodId.{MethodId}
use Rattle.resolved_code.specs.declared.operations.Operation.{Operation}
use Rattle.resolved_code.specs.declared.operations.Operation.TheVariants.{Call, CallVirtual}
use Rattle.object_memory.specs.declared.addresses.Addr.{Addr}
use Rattle.object_memory.specs.declared.monitors.Monitor.{Monitor as AnyMonitor}
use Rattle.object_memory.specs.declared.monitors.Monitor.TheVariants.{Free, Held}
use Rattle.object_memory.specs.declared.values.Value.{Value}
use Rattle.object_memory.specs.Cells.{null}
use Rattle.object_memory.specs.Objects.{Objects, monitor_at, object_slots}
use Rattle.threads_monitors.specs.Frames.{Frames}
use Rattle.threads_monitors.specs.Threads.{is_live_at, thread_on}
use Rattle.threads_monitors.specs.declared.threads.ThreadStatus.{ThreadStatus}
use Rattle.threads_monitors.specs.declared.threads.ThreadStatus.TheVariants.{Live, Ended}
use Rattle.threads_monitors.specs.declared.threads.Thread.{Thread}
use Rattle.simulation.specs.interpreter.Calls.{class_at, top_reference}
use Rattle.simulation.specs.interpreter.Instructions.{IsAt, line_at}
use Rattle.simulation.specs.MachineStates.{MachineState}
use Rattle.interleaving_core.specs.declared.waits.Wait.{Wait}
use Rattle.interleaving_core.specs.declared.waits.Wait.TheVariants.{Monitor, Join}

-- the method that a resolved instruction calls; none of one that is no call
abbrev pub called_member : Operation → Option MethodId
called_member (Call is_instance owner method) = Some method
called_member (CallVirtual owner method) = Some method
called_member _ = None

-- the class of what lies at an address, by its number; an array has none
abbrev pub class_of_object : Objects → Addr → Option ℕ
class_of_object o a = option_and_then (λ (class : Option ℕ). class) (class_at o a)

-- a monitor that another thread holds is waited for
abbrev pub held_by_another : Option ℕ → ℕ → AnyMonitor → Option Wait
held_by_another class t Free = None
held_by_another class t (Held owner count) = if owner == t then None else Some (Monitor class owner)

abbrev pub monitor_wait : Objects → ℕ → Addr → Option Wait
monitor_wait o t a = if a.number == 0 then None else option_and_then (held_by_another (class_of_object o a) t) (monitor_at o a)

-- the end of a thread that is live is waited for
abbrev pub end_awaited : List Thread → ℕ → Option Wait
end_awaited threads n = if is_live_at threads n then Some (Join n) else None

abbrev pub join_wait : List Thread → Objects → Addr → Option Wait
join_wait threads o a = if a.number == 0 then None else option_and_then (end_awaited threads) (thread_on o a)

-- what a thread waits for that is about to do this with the topmost value of its stack
abbrev pub wait_by : MachineState → ℕ → Action → List Value → Option Wait
wait_by c t Enter stack = option_and_then (monitor_wait c.objects t) (top_reference stack)
wait_by c t JoinAction stack = option_and_then (join_wait c.threads c.objects) (top_reference stack)
wait_by c t _ stack = None

-- the built-in member that the running frame is about to call, by what it does
abbrev pub action_at : Tree → Frames → Option Action
action_at tree m = option_and_then (λ (l : Line). called_action tree l.instruction) (line_at tree m)

-- what a live thread with these frames waits for
abbrev pub wait_in : MachineState → ℕ → Frames → Option Wait
wait_in c t m = option_and_then (λ a. wait_by c t a m.running.stack) (action_at c.tree m)

-- one that has ended waits for nothing
abbrev pub status_wait : MachineState → ℕ → ThreadStatus → Option Wait
status_wait c t (Live m) = wait_in c t m
status_wait c t (Ended e) = None

-- what the thread of a number waits for; none where its next step is not blocked, and where it is not live
abbrev pub wait_at : MachineState → ℕ → Option Wait
wait_at c t = option_and_then (λ (x : Thread). status_wait c t x.thread_status) (slice_get c.threads t)

-- what lies at the address that a frame is about to enter or to join, where it does that: a monitor, or the slot that identifies a thread
pub record HasObject (tree : Tree) (o : Objects) (m : Frames) : Type 0 where
  pub pc : IsSome (line_at tree m)
  pub monitor : (op : Operation) → IsAt tree m op → action_at tree m ≡ Some Enter → (a : Addr) → top_reference m.running.stack ≡ Some a → a ≢ null → IsSome (monitor_at o a)
  pub slot : (op : Operation) → IsAt tree m op → action_at tree m ≡ Some JoinAction → (a : Addr) → top_reference m.running.stack ≡ Some a → a ≢ null → 0 < length (object_slots o a)
