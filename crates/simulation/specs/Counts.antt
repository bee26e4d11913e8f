-- How often monitors are held, beside the steps that threads have left (this profile).
use Rattle.std.specs.Prelude.{◌≡◌, ◌≤◌, ◌+◌, ℕ, List, Some, None, slice_get}
use Rattle.interpreter.specs.cil_model.declared.limits.Limits.{Limits}
use Rattle.interpreter.specs.cil_model.Same.{same_text}
use Rattle.interpreter.specs.reference_machine.States.{Monitor, Free, Held, HeapObject, Thread, State, entry_at}

-- whoever holds a monitor entered it in steps of its own, which its budget has no more
abbrev pub IsCountedMonitor : Limits → State → Monitor → Type 0
IsCountedMonitor limits s Free = Unit {0}
IsCountedMonitor limits s (Held owner count) = (t : Thread) × (slice_get s.threads owner ≡ Some t) × (count + t.steps_left ≤ limits.budget)

-- so it is with every object and every literal; no thread has more steps left than its budget, and a live one has one left
pub record IsCounted (limits : Limits) (s : State) : Type 0 where
  pub objects : (n : ℕ) (o : HeapObject) → slice_get s.objects n ≡ Some o → IsCountedMonitor limits s o.monitor
  pub literals : (characters : List ℕ) (m : Monitor) → entry_at same_text characters s.literal_monitors ≡ Some m → IsCountedMonitor limits s m
  pub live : (n : ℕ) (t : Thread) → slice_get s.threads n ≡ Some t → t.ended ≡ None → 1 ≤ t.steps_left
  pub within : (n : ℕ) (t : Thread) → slice_get s.threads n ≡ Some t → t.steps_left ≤ limits.budget
