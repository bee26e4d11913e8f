-- What one instruction does to its thread's frames and to the state.
use Rattle.std.specs.Prelude.{ℕ, ◌+◌, Bool, true, false, ◌&&◌, if◌then◌else◌, nat_le, List, [], ◌∷◌, map, reverse, take, drop, length, Option, Some, None, Result, Ok, Err}
use Rattle.cil_model.specs.declared.types.DeclaredType.{DeclaredType}
use Rattle.cil_model.specs.declared.trees.Code.{Code}
use Rattle.cil_model.specs.declared.trees.Method.{Method}
use Rattle.cil_model.specs.declared.types.ClassName.{ClassName}
use Rattle.cil_model.specs.declared.trees.Tree.{Tree}
use Rattle.cil_model.specs.declared.limits.Limits.{Limits}
use Rattle.cil_model.specs.declared.reports.Fault.{Fault}
use Rattle.reference_machine.specs.Values.{ObjectName, Value, Int32, Int64, Native, Null, Reference, zero_of, is_of_kind}
use Rattle.reference_machine.specs.States.{Frame, State}

-- what a step is made in: the program, the limits of its run, the thread that makes it, and whether a birth is refused
pub record StepContext : Type 0 where
  pub tree : Tree
  pub limits : Limits
  pub thread : ℕ
  pub is_refused : Bool

-- The thread continues with these frames and this state (with no frame it is done), or it is blocked with nothing
-- changed, or it ends by a fault; or the instruction has no meaning here.
pub data Effect : Type 0 where
  Goes : List Frame → State → Effect
  Blocks : Effect
  Raises : Fault → Effect
  Sticks : Effect

-- continues with what is there, and sticks where it is missing
abbrev pub when_some : {X : Type 0} → Option X → (X → Effect) → Effect
when_some None go = Sticks
when_some (Some x) go = go x

-- continues with a result, or ends by its fault
abbrev pub unless_fault : {X : Type 0} → Result X Fault → (X → Effect) → Effect
unless_fault (Ok x) go = go x
unless_fault (Err f) go = Raises f

-- takes n operands, the first pushed first
abbrev pub pop_many : ℕ → List Value → (List Value → List Value → Effect) → Effect
pop_many n stack go = if nat_le n (length stack) then go (reverse (take n stack)) (drop n stack) else Sticks

-- continues with the object of a reference; null ends by the fault
abbrev pub not_null : Value → Fault → (ObjectName → Effect) → Effect
not_null Null f go = Raises f
not_null (Reference n) f go = go n
not_null (Int32 z) f go = Sticks
not_null (Int64 z) f go = Sticks
not_null (Native z) f go = Sticks

-- each value is of the kind of its type
abbrev pub are_of_kinds : List DeclaredType → List Value → Bool
are_of_kinds [] [] = true
are_of_kinds (t ∷ ts) (v ∷ vs) = is_of_kind t v && are_of_kinds ts vs
are_of_kinds [] (v ∷ vs) = false
are_of_kinds (t ∷ ts) [] = false

-- ---- frames

-- a frame at the beginning of a method; its locals are zero or null
abbrev pub new_frame : ClassName → Method → Code → List Value → Option ObjectName → Frame
new_frame owner method code arguments constructed =
    record { owner = owner; method = method; pc = 0; arguments = arguments; locals = map zero_of code.locals; stack = []; constructed = constructed }

-- the frame at its next instruction, with this stack
abbrev pub after : Frame → List Value → Frame
after f stack = record f { pc = f.pc + 1; stack = stack }

-- on to the next instruction with this stack, in this state
abbrev pub onward : Frame → List Frame → State → List Value → Effect
onward f below s stack = Goes (after f stack ∷ below) s

-- the frames after a return, with the value that it leaves, if any (III.3.57)
abbrev pub return_value : Option Value → List Frame → List Frame
return_value v [] = []
return_value None (f ∷ fs) = f ∷ fs
return_value (Some v) (f ∷ fs) = record f { stack = v ∷ f.stack } ∷ fs
