-- What a thread waits for, whose next step is blocked (I.12.6.5; Cilvm.Thread is this profile's).
use Rattle.std.specs.Prelude.{ℕ, ◌==◌, true, if◌then◌else◌, List, [], ◌∷◌, Option, Some, None, option_and_then, slice_get}
use Rattle.cil_model.specs.declared.instructions.Instruction.{Instruction}
use Rattle.cil_model.specs.declared.instructions.Instruction.TheVariants.{Call, CallVirtual}
use Rattle.cil_model.specs.declared.trees.Tree.{Tree}
use Rattle.cil_model.specs.declared.trees.Method.{Method}
use Rattle.cil_model.specs.declared.types.ClassName.{ClassName}
use Rattle.cil_model.specs.Bodies.{virtual_reference}
use Rattle.cil_model.specs.Chains.{find_method}
use Rattle.reference_machine.specs.BuiltIn.{Action, Enter, Join, action_of}
use Rattle.reference_machine.specs.States.{Monitor, Free, Held, HeapObject, Frame, Thread, State, is_live, is_live_thread, monitor_of, object_at}
use Rattle.reference_machine.specs.Steps.{instruction_at}
use Rattle.reference_machine.specs.Values.{ObjectName, Value, Reference}

-- for the monitor of an object, which its owner holds; or for the end of a thread
pub data Wait : Type 0 where
  ForMonitor : (object : ObjectName) (owner : ℕ) → Wait
  ForEnd : (thread : ℕ) → Wait

-- the built-in member that a call of this method is, by what it does
abbrev pub action_found : Option (ClassName × Method) → Option Action
action_found found = option_and_then (λ (x : ClassName × Method). action_of x.0 x.1) found

-- the built-in member that an instruction calls, by what it does; none of any other instruction
abbrev pub called_action : Tree → Instruction → Option Action
called_action tree (Call is_instance r) = action_found (find_method tree is_instance r)
called_action tree (CallVirtual owner name signature) = action_found (find_method tree true (virtual_reference owner name signature))
called_action tree _ = None

-- a monitor that another thread holds is waited for
abbrev pub held_by_another : ObjectName → ℕ → Monitor → Option Wait
held_by_another n t Free = None
held_by_another n t (Held owner count) = if owner == t then None else Some (ForMonitor n owner)

-- the end of a thread that is live is waited for
abbrev pub end_awaited : State → ℕ → Option Wait
end_awaited s u = if is_live s u then Some (ForEnd u) else None

-- the object that is the topmost value of a stack
abbrev pub top_object : List Value → Option ObjectName
top_object (Reference n ∷ rest) = Some n
top_object _ = None

-- what a thread waits for that is about to do this with the topmost value of its stack
abbrev pub wait_by : State → ℕ → Action → List Value → Option Wait
wait_by s t Enter stack = option_and_then (λ n. option_and_then (held_by_another n t) (monitor_of s n)) (top_object stack)
wait_by s t Join stack = option_and_then (λ n. option_and_then (λ (o : HeapObject). option_and_then (end_awaited s) o.thread) (object_at s n)) (top_object stack)
wait_by s t _ stack = None

-- the same, of the frame that runs
abbrev pub wait_in : Tree → State → ℕ → Frame → Option Wait
wait_in tree s t f = option_and_then (λ i. option_and_then (λ a. wait_by s t a f.stack) (called_action tree i)) (instruction_at f)

-- what the thread of a number waits for; none where its next step is not blocked, and where it is not live
abbrev pub wait_of_thread : Tree → State → ℕ → Thread → Option Wait
wait_of_thread tree s t thread = if is_live_thread thread then option_and_then (wait_in tree s t) (slice_get thread.frames 0) else None

abbrev pub wait_of : Tree → State → ℕ → Option Wait
wait_of tree s t = option_and_then (wait_of_thread tree s t) (slice_get s.threads t)
