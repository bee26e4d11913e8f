-- Local instructions: what a thread may do with the frame that runs while it holds nothing else of its machine (III.3; which they are is this
-- profile's).
use Rattle.std.specs.Prelude.{◌≡◌, ◌⊎◌, ℕ, zero, suc, Bool, true, false, List, [], IsSome, None}
use Rattle.std.specs.Option.{option_map_or}
use Rattle.cil_model.specs.declared.reports.Fault.{Fault}
use Rattle.cil_model.specs.declared.trees.Tree.{Tree}
use Rattle.resolved_code.specs.declared.operations.Operation.{Operation}
use Rattle.object_memory.specs.declared.values.Value.{Value}
use Rattle.object_memory.specs.declared.values.Value.TheVariants.{Int32, Int64, Ref}
use Rattle.object_memory.specs.Cells.{null}
use Rattle.object_memory.specs.Objects.{Objects}
use Rattle.loaded_program.specs.declared.instructions.LinkedInstruction.{LinkedInstruction}
use Rattle.loaded_program.specs.declared.instructions.LinkedInstruction.TheVariants as Linked
use Rattle.threads_monitors.specs.declared.mutators.Mutator.{Mutator}
use Rattle.threads_monitors.specs.declared.effects.Effect.TheVariants.{Continues, Raises}
use Rattle.threads_monitors.specs.Frames.{Frame, Frames}
use Rattle.instructions.specs.Frames.{Transition, onward, value_pushed, argument_transition, local_transition, store_argument_transition, store_local_transition, duplicate_transition, pop_transition, binary_transition, unary_transition, shift_transition, convert_32_transition, convert_64_transition, switch_transition}
use Rattle.instructions.specs.LocalTransitions.{compare_integers_transition, is_local_branch, is_ordered, local_branch_transition}
use Rattle.interpreter.specs.declared.outcomes.InstructionOutcome.TheVariants.{OwnEffect}
use Rattle.interpreter.specs.Instructions.{HasSmallConstant, IsAt, IsDone, answer_of, line_at, link_of, operation_transition}

-- ---- which they are

-- constants, arguments, locals and the stack, arithmetic, comparisons that integers alone have, and branches: they use no object, static field, call
-- or comparison of references
abbrev pub is_local_link : LinkedInstruction → Bool
is_local_link Linked.NoOperation = true
is_local_link (Linked.LoadInt32 z) = true
is_local_link (Linked.LoadInt64 z) = true
is_local_link Linked.LoadNull = true
is_local_link (Linked.LoadArgument n) = true
is_local_link (Linked.StoreArgument n) = true
is_local_link (Linked.LoadLocal n) = true
is_local_link (Linked.StoreLocal n) = true
is_local_link Linked.Duplicate = true
is_local_link Linked.Pop = true
is_local_link (Linked.Binary op) = true
is_local_link (Linked.Unary op) = true
is_local_link (Linked.Shift op) = true
is_local_link (Linked.Compare op) = is_ordered op
is_local_link Linked.ConvertInt32 = true
is_local_link Linked.ConvertInt64 = true
is_local_link (Linked.Branch condition pc) = is_local_branch condition
is_local_link (Linked.Switch pcs) = true
is_local_link _ = false

-- a resolved instruction is local if its link is
abbrev pub is_local : Tree → Frames → Operation → Bool
is_local tree m op = option_map_or is_local_link (link_of tree m op) false

-- ---- a frame's local instructions

-- the frames of a thread of which this one runs
abbrev pub frames_over : Frame → List Frame → (depth room : ℕ) → Frames
frames_over f below depth room = record { running = f; below = below; depth = depth; room = room }

-- a frame without others
abbrev pub single_frame : ℕ → Frame → Frames
single_frame room f = frames_over f [] 1 room

-- A local instruction of a frame is done, and its thread continues: whatever frames lie below, and whatever else the machine holds, this frame alone
-- changes.
pub record IsLocalStep (tree : Tree) (room : ℕ) (f g : Frame) : Type 0 where
  pub operation : Operation
  pub at : IsAt tree (single_frame room f) operation
  pub local : is_local tree (single_frame room f) operation ≡ true
  pub done : (below : List Frame) (depth : ℕ) (mutator : Mutator) (o : Objects) (statics : List Value) (printed : List ℕ) →
      IsDone tree mutator (frames_over f below depth room) o statics printed (answer_of (frames_over g below depth room) o statics printed (OwnEffect Continues))

-- n of them, one after another
abbrev pub AreLocalSteps : Tree → (room : ℕ) → ℕ → Frame → Frame → Type 0
AreLocalSteps tree room zero f g = g ≡ f
AreLocalSteps tree room (suc n) f g = (next : Frame) × AreLocalSteps tree room n f next × IsLocalStep tree room next g

-- whether the next instruction of the frame is local
abbrev pub IsNextLocal : Tree → (room : ℕ) → Frame → Bool → Type 0
IsNextLocal tree room f local = (op : Operation) × IsAt tree (single_frame room f) op × (is_local tree (single_frame room f) op ≡ local)

-- it is not
abbrev pub IsNoLocal : Tree → (room : ℕ) → Frame → Type 0
IsNoLocal tree room f = IsNextLocal tree room f false

-- or it is, and raises a fault, whatever else the machine holds
pub record IsFaultyLocal (tree : Tree) (room : ℕ) (f : Frame) : Type 0 where
  pub operation : Operation
  pub at : IsAt tree (single_frame room f) operation
  pub local : is_local tree (single_frame room f) operation ≡ true
  pub fault : Fault
  pub raises : (below : List Frame) (depth : ℕ) (mutator : Mutator) (o : Objects) (statics : List Value) (printed : List ℕ) →
      (m : Frames) × IsDone tree mutator (frames_over f below depth room) o statics printed (answer_of m o statics printed (OwnEffect (Raises fault)))

-- local instructions end here
abbrev pub EndsLocal : Tree → (room : ℕ) → Frame → Type 0
EndsLocal tree room f = IsNoLocal tree room f ⊎ IsFaultyLocal tree room f

-- somewhere the next instruction has a result: over some frames, in some memory
pub record IsReadySomewhere (tree : Tree) (room : ℕ) (f : Frame) : Type 0 where
  pub below : List Frame
  pub depth : ℕ
  pub mutator : Mutator
  pub objects : Objects
  pub statics : List Value
  pub printed : List ℕ
  pub pc : IsSome (line_at tree (frames_over f below depth room))
  pub there : (op : Operation) → IsAt tree (frames_over f below depth room) op → HasSmallConstant op → IsSome (operation_transition tree mutator op (frames_over f below depth room) objects statics printed)

-- ---- what they do

-- what a local one does to frames; none of another one
abbrev pub local_link_transition : LinkedInstruction → Frames → Transition
local_link_transition Linked.NoOperation m = onward m
local_link_transition (Linked.LoadInt32 z) m = value_pushed (Int32 z) m
local_link_transition (Linked.LoadInt64 z) m = value_pushed (Int64 z) m
local_link_transition Linked.LoadNull m = value_pushed (Ref null) m
local_link_transition (Linked.LoadArgument n) m = argument_transition n m
local_link_transition (Linked.StoreArgument n) m = store_argument_transition n m
local_link_transition (Linked.LoadLocal n) m = local_transition n m
local_link_transition (Linked.StoreLocal n) m = store_local_transition n m
local_link_transition Linked.Duplicate m = duplicate_transition m
local_link_transition Linked.Pop m = pop_transition m
local_link_transition (Linked.Binary op) m = binary_transition op m
local_link_transition (Linked.Unary op) m = unary_transition op m
local_link_transition (Linked.Shift op) m = shift_transition op m
local_link_transition (Linked.Compare op) m = compare_integers_transition op m
local_link_transition Linked.ConvertInt32 m = convert_32_transition m
local_link_transition Linked.ConvertInt64 m = convert_64_transition m
local_link_transition (Linked.Branch condition pc) m = local_branch_transition condition pc m
local_link_transition (Linked.Switch pcs) m = switch_transition pcs m
local_link_transition _ m = None
