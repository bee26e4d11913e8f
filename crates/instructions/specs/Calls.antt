-- What calls and returns do to frames (III.3.19, III.4.21, III.3.57). A rule has no result where an operand is missing or of another
-- kind, or where there is no room for it: no verified program comes there.
use Rattle.std.specs.Prelude.{ℕ, ◌+◌, ◌-◌, ◌==◌, Bool, true, false, ◌&&◌, if◌then◌else◌, nat_lt, nat_le, List, ◌∷◌, length, Option, Some, None}
use Rattle.cil_model.specs.declared.limits.TheConstants.{MOST_INSTRUCTIONS}
use Rattle.cil_model.specs.declared.reports.Fault.TheVariants.{OutOfMemory, StackOverflow}
use Rattle.cil_model.specs.declared.phases.Phase.{Phase}
use Rattle.object_memory.specs.declared.addresses.Addr.{Addr}
use Rattle.object_memory.specs.declared.values.Value.{Value}
use Rattle.cil_model.specs.declared.values.ValueKind.{ValueKind}
use Rattle.object_memory.specs.declared.values.Value.TheVariants.{Ref}
use Rattle.threads_monitors.specs.Frames.{Frames, size, with_pc, with_stack, with_inserted, with_call, return_frames}
use Rattle.threads_monitors.specs.declared.effects.Effect.TheVariants.{Continues, Returns, Raises}
use Rattle.object_memory.specs.declared.kinds.Kind.TheVariants.{Instance}
use Rattle.object_memory.specs.Objects.{Objects}
use Rattle.instructions.specs.Frames.{Transition, with_top}
use Rattle.instructions.specs.ObjectTransitions.{ObjectTransition, allocate_then, with_objects, birth_transition}
use Rattle.instructions.specs.declared.calls.Callee.{Callee}

-- continues once the frame is at the next instruction
abbrev pub at_next_pc : Frames → (Frames → Transition) → Transition
at_next_pc m go = if nat_lt m.running.pc MOST_INSTRUCTIONS then go (with_pc m (m.running.pc + 1)) else None

-- ---- calls

-- a method that is called: its number, how many arguments it has, and what its locals hold
pub record CalledMethod : Type 0 where
  pub method : ℕ
  pub arguments : ℕ
  pub locals : List ValueKind

abbrev pub call_of : Callee → CalledMethod
call_of c = record { method = c.method; arguments = c.arguments; locals = c.locals.now }

-- the number of frames is at its limit
abbrev pub is_full : Frames → Bool
is_full m = length m.below + 1 == m.depth

-- a frame for the method, on the uppermost operands
abbrev pub enter_callee : CalledMethod → Option Addr → Frames → Transition
enter_callee callee object m =
    if nat_lt (length m.below + 1) m.depth && nat_le callee.arguments (length m.running.stack) && nat_le (callee.arguments + length callee.locals) m.room
    then Some (with_call m callee.method callee.arguments callee.locals object, Continues) else None

-- call (III.3.19): the caller is at the next instruction when it runs again
abbrev pub call_transition : CalledMethod → Frames → Transition
call_transition callee m = if is_full m then Some (m, Raises StackOverflow) else at_next_pc m (enter_callee callee None)

-- the new object is the constructor's first argument, beneath the others (III.4.21)
abbrev pub construct_transition : CalledMethod → Addr → Frames → Transition
construct_transition callee object m =
    if nat_lt 0 callee.arguments && (nat_lt (size m.running) m.room && nat_le (callee.arguments - 1) (length m.running.stack))
    then at_next_pc (with_inserted m (callee.arguments - 1) (Ref object)) (enter_callee callee (Some object)) else None

-- ---- births

-- the constructor's frame for an object that was born, or memory is refused
abbrev pub enter_constructor : CalledMethod → Frames → Objects × Option Addr → ObjectTransition
enter_constructor callee m (o, None) = Some (m, o, Raises OutOfMemory)
enter_constructor callee m (o, Some a) = with_objects o (construct_transition callee a m)

-- newobj (III.4.21) of a class with a constructor that has code: the depth is looked at before memory
abbrev pub new_object_transition : Phase → ℕ → ℕ → CalledMethod → Frames → Objects → ObjectTransition
new_object_transition phase class slots callee m o = if is_full m then Some (m, o, Raises StackOverflow) else allocate_then phase o (Instance class) slots (enter_constructor callee m)

-- the same with a constructor that is built in, which is done at once
abbrev pub new_plain_object_transition : Phase → ℕ → ℕ → Frames → Objects → ObjectTransition
new_plain_object_transition phase class slots m o = allocate_then phase o (Instance class) slots (birth_transition m)

-- ---- returns

-- the frame below continues with what it is given; without one below the thread is done
abbrev pub return_to_caller : Option Value → Frames → Transition
return_to_caller v m = if length m.below == 0 then Some (m, Returns) else given_to v (return_frames m)
  where
    given_to : Option Value → Frames → Transition
    given_to None m = Some (m, Continues)
    given_to (Some v) m = if nat_lt (size m.running) m.room then Some (with_stack m (v ∷ m.running.stack), Continues) else None

-- the object that was constructed, or what the method returns, if anything
abbrev pub return_by : Option Addr → Bool → Frames → Transition
return_by (Some object) has_value m = return_to_caller (Some (Ref object)) m
return_by None true m = with_top m (λ v n. return_to_caller (Some v) n)
return_by None false m = return_to_caller None m

abbrev pub return_transition : Bool → Frames → Transition
return_transition has_value m = return_by m.running.constructed has_value m
