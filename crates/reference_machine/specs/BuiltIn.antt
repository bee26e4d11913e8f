-- What a call of a built-in member does: one event, and no frame (Partition IV; Cilvm.Thread is this profile's).
use Rattle.cil_model.specs.Bodies.{code_of}
use Rattle.std.specs.Prelude.{ℕ, ◌+◌, ◌-◌, ◌==◌, ◌&&◌, if◌then◌else◌, nat_le, List, [], ◌∷◌, ◌++◌, length, Option, Some, None, is_some, find, option_map, codes}
use Rattle.std.specs.Fmt.{signed_decimal}
use Rattle.std.specs.Option.{option_map_or}
use Rattle.cil_model.specs.declared.types.ClassName.{ClassName}
use Rattle.cil_model.specs.declared.instructions.MethodName.{MethodName}
use Rattle.cil_model.specs.declared.instructions.MethodName.TheVariants.{Constructor, Named}
use Rattle.cil_model.specs.declared.trees.Method.{Method}
use Rattle.cil_model.specs.declared.limits.TheConstants.{MOST_THREADS}
use Rattle.cil_model.specs.declared.reports.Fault.TheVariants.{NullReference, ArgumentNull, SynchronizationLock, ThreadState, TooManyThreads}
use Rattle.cil_model.specs.Same.{same_class, same_method_name}
use Rattle.cil_model.specs.Declarations.{object_name, console_name, monitor_name, thread_name, run_method}
use Rattle.cil_model.specs.Slots.{target}
use Rattle.reference_machine.specs.Values.{ObjectName, Literal, Value, Int32, Int64, Null, Reference}
use Rattle.reference_machine.specs.States.{Monitor, Free, Held, HeapObject, Frame, State, object_at, with_object, class_of, monitor_of, with_monitor, is_live}
use Rattle.reference_machine.specs.Effects.{StepContext, Effect, Blocks, Raises, Sticks, when_some, not_null, new_frame, onward}
use Rattle.cil_model.specs.Chains.{is_thread_class}

-- what the members without code do
pub data Action : Type 0 where
  Construct : Action
  Write : Action
  Enter : Action
  Exit : Action
  Start : Action
  Join : Action

-- which member does what (Partition IV)
abbrev pub actions : List (ClassName × MethodName × Action)
actions =
    (object_name, Constructor, Construct) ∷
    (thread_name, Constructor, Construct) ∷
    (console_name, Named (codes "WriteLine"), Write) ∷
    (monitor_name, Named (codes "Enter"), Enter) ∷
    (monitor_name, Named (codes "Exit"), Exit) ∷
    (thread_name, Named (codes "Start"), Start) ∷
    (thread_name, Named (codes "Join"), Join) ∷ []

-- the action of a class's method; none for a method with code of its own
abbrev pub action_of : ClassName → Method → Option Action
action_of c m = option_map (λ (a : ClassName × MethodName × Action). a.2) (find (λ (a : ClassName × MethodName × Action). same_class a.0 c && same_method_name a.1 m.name) actions)

-- what WriteLine prints: decimal text, or a literal's characters, or nothing for null; then a line end
abbrev pub line_of : Value → Option (List ℕ)
line_of (Int32 z) = Some (signed_decimal z ++ 10 ∷ [])
line_of (Int64 z) = Some (signed_decimal z ++ 10 ∷ [])
line_of Null = Some (10 ∷ [])
line_of (Reference (Literal characters)) = Some (characters ++ 10 ∷ [])
line_of _ = None

module _ (here : StepContext) (s : State) (f : Frame) (below : List Frame) where
  -- a monitor that is free or one's own is entered once more (I.12.6.5); another's blocks
  abbrev pub enter : ObjectName → List Value → Monitor → Effect
  enter n rest Free = onward f below (with_monitor s n (Held here.thread 1)) rest
  enter n rest (Held owner count) = if owner == here.thread then onward f below (with_monitor s n (Held here.thread (count + 1))) rest else Blocks

  -- the owner leaves it once; another thread may not
  abbrev pub exit : ObjectName → List Value → Monitor → Effect
  exit n rest Free = Raises SynchronizationLock
  exit n rest (Held owner count) =
      if owner == here.thread
      then onward f below (with_monitor s n (if nat_le count 1 then Free else Held here.thread (count - 1))) rest
      else Raises SynchronizationLock

  -- the state after a start: the object names its thread, which is at the beginning of its Run with its whole budget
  abbrev pub with_thread : ObjectName → HeapObject → Frame → State
  with_thread n o first =
      let marked : State = with_object s n (record o { thread = Some (length s.threads) }) in
      record marked { threads = s.threads ++ record { frames = first ∷ []; steps_left = here.limits.budget; ended = None } ∷ [] }

  -- continues beside a new thread, which is at the beginning of that method
  abbrev pub begin : ObjectName → List Value → HeapObject → Option (ClassName × Method) → Effect
  begin n rest o run =
      when_some run (λ found. when_some (code_of found.1.kind) (λ code.
      onward f below (with_thread n o (new_frame found.0 found.1 code (Reference n ∷ []) None)) rest))

  -- started already, or there are 16 threads already; otherwise a new thread runs the virtual target of Run
  abbrev pub start : ObjectName → List Value → HeapObject → Effect
  start n rest o =
      if is_some o.thread then Raises ThreadState
      else if nat_le MOST_THREADS (length s.threads) then Raises TooManyThreads
      else when_some (class_of s n) (λ c. begin n rest o (target here.tree c thread_name run_method))

  -- a fault where it is not started; otherwise it waits while the thread is live
  abbrev pub join : List Value → HeapObject → Effect
  join rest o = option_map_or (λ t. if is_live s t then Blocks else onward f below s rest) o.thread (Raises ThreadState)

  -- the object of a reference to a thread
  abbrev pub thread_object : ObjectName → (HeapObject → Effect) → Effect
  thread_object n go = when_some (class_of s n) (λ c. if is_thread_class here.tree c then when_some (object_at s n) go else Sticks)

  -- the action on its operands, with the stack below them
  abbrev pub act : Action → List Value → List Value → Effect
  act Construct (v ∷ []) rest = onward f below s rest
  act Write (v ∷ []) rest = when_some (line_of v) (λ line. onward f below (record s { printed = s.printed ++ line }) rest)
  act Enter (v ∷ []) rest = not_null v ArgumentNull (λ n. when_some (monitor_of s n) (enter n rest))
  act Exit (v ∷ []) rest = not_null v ArgumentNull (λ n. when_some (monitor_of s n) (exit n rest))
  act Start (v ∷ []) rest = not_null v NullReference (λ n. thread_object n (start n rest))
  act Join (v ∷ []) rest = not_null v NullReference (λ n. thread_object n (join rest))
  act _ _ rest = Sticks
