-- What one instruction of a thread does to all that it may change (III.3, III.4). A rule has no result where an operand represents nothing, is missing
-- or is of another kind: no verified program comes there.
use Rattle.std.specs.Prelude.{◌≡◌, ◌<◌, ℕ, nat_lt, Bool, false, List, length, Option, Some, option_map, option_and_then, slice_get}
use Rattle.std.specs.Option.{option_map_or}
use Rattle.cil_model.specs.declared.types.ClassName.{ClassName}
use Rattle.cil_model.specs.declared.trees.Line.{Line}
use Rattle.cil_model.specs.declared.trees.Method.{Method}
use Rattle.cil_model.specs.declared.trees.Tree.{Tree}
use Rattle.cil_model.specs.Bodies.{lines_of}
use Rattle.cil_model.specs.ValueKinds.{kind_of_elements}
use Rattle.resolved_code.specs.ResolvedPrograms.{IsOperation}
use Rattle.resolved_code.specs.declared.operations.Operation.{Operation}
use Rattle.object_memory.specs.declared.values.Value.{Value}
use Rattle.object_memory.specs.declared.values.Value.TheVariants.{Int32, Int64, Ref}
use Rattle.object_memory.specs.Cells.{null}
use Rattle.object_memory.specs.Objects.{Objects}
use Rattle.loaded_program.specs.AllMethods.{all_methods}
use Rattle.loaded_program.specs.declared.instructions.LinkedInstruction.{LinkedInstruction}
use Rattle.loaded_program.specs.declared.instructions.LinkedInstruction.TheVariants.{NoOperation, LoadInt32, LoadInt64, LoadNull, LoadString, LoadArgument, StoreArgument, LoadLocal, StoreLocal, Duplicate, Pop, Binary, Unary, Shift, Compare, ConvertInt32, ConvertInt64, Branch, Switch, LoadField, StoreField, LoadStaticField, StoreStaticField, NewArray, LoadLength, LoadElement, StoreElement, CastClass, IsInstance, Call, CallVirtual, NewObject, Return}
use Rattle.loaded_program.specs.Links.{link}
use Rattle.loaded_program.specs.LoadedPrograms.{has_value}
pub use Rattle.loaded_program.specs.Operands.{HasSmallConstant}
use Rattle.threads_monitors.specs.declared.mutators.Mutator.{Mutator}
use Rattle.threads_monitors.specs.declared.effects.Effect.{Effect}
use Rattle.threads_monitors.specs.Frames.{Frames}
use Rattle.instructions.specs.Frames.{Transition, when_some, onward, value_pushed, argument_transition, local_transition, store_argument_transition, store_local_transition, duplicate_transition, pop_transition, binary_transition, unary_transition, shift_transition, compare_transition, convert_32_transition, convert_64_transition, branch_transition, switch_transition}
use Rattle.instructions.specs.ObjectTransitions.{ObjectTransition, StaticTransition, load_field_transition, store_field_transition, load_length_transition, load_element_transition, new_array_transition, load_static_transition, store_static_transition}
use Rattle.instructions.specs.TypeTransitions.{cast_class_transition, is_instance_transition, element_store_transition}
use Rattle.instructions.specs.Calls.{return_transition}
use Rattle.interpreter.specs.declared.outcomes.InstructionOutcome.{InstructionOutcome}
use Rattle.interpreter.specs.declared.outcomes.InstructionOutcome.TheVariants.{OwnEffect}
use Rattle.interpreter.specs.Calls.{CallAnswer, CallTransition, call_by_id, made_by_id, virtual_by_id}

-- the frames of the thread, the objects, the static fields and the printed bytes after an instruction, and its outcome
pub record Answer : Type 0 where
  pub frames : Frames
  pub objects : Objects
  pub statics : List Value
  pub printed : List ℕ
  pub outcome : InstructionOutcome

abbrev pub answer_of : Frames → Objects → List Value → List ℕ → InstructionOutcome → Answer
answer_of m o statics console outcome = record { frames = m; objects = o; statics = statics; printed = console; outcome = outcome }

-- or there is none
abbrev pub MachineTransition : Type 0
MachineTransition = Option Answer

module _ (o : Objects) (statics : List Value) (console : List ℕ) where
  -- what changes the frames alone
  abbrev pub of_frames : Transition → MachineTransition
  of_frames transition = option_map (λ (t : Frames × Effect). answer_of t.0 o statics console (OwnEffect t.1)) transition

  -- what changes objects too
  abbrev pub of_objects : ObjectTransition → MachineTransition
  of_objects transition = option_map (λ (t : Frames × Objects × Effect). answer_of t.0 t.1 statics console (OwnEffect t.2)) transition

  -- or static fields
  abbrev pub of_statics : StaticTransition → MachineTransition
  of_statics transition = option_map (λ (t : Frames × (Objects × List Value) × Effect). answer_of t.0 t.1.0 t.1.1 console (OwnEffect t.2)) transition

  -- or the printed bytes
  abbrev pub of_calls : CallTransition → MachineTransition
  of_calls transition = option_map (λ (t : CallAnswer). answer_of t.frames t.objects statics t.printed t.outcome) transition

-- ---- linked instructions

-- what each linked instruction does
abbrev pub linked_transition : Tree → Mutator → LinkedInstruction → Frames → Objects → List Value → List ℕ → MachineTransition
linked_transition tree mutator NoOperation m o ss c = of_frames o ss c (onward m)
linked_transition tree mutator (LoadInt32 z) m o ss c = of_frames o ss c (value_pushed (Int32 z) m)
linked_transition tree mutator (LoadInt64 z) m o ss c = of_frames o ss c (value_pushed (Int64 z) m)
linked_transition tree mutator LoadNull m o ss c = of_frames o ss c (value_pushed (Ref null) m)
linked_transition tree mutator (LoadString a) m o ss c = of_frames o ss c (value_pushed (Ref a) m)
linked_transition tree mutator (LoadArgument n) m o ss c = of_frames o ss c (argument_transition n m)
linked_transition tree mutator (StoreArgument n) m o ss c = of_frames o ss c (store_argument_transition n m)
linked_transition tree mutator (LoadLocal n) m o ss c = of_frames o ss c (local_transition n m)
linked_transition tree mutator (StoreLocal n) m o ss c = of_frames o ss c (store_local_transition n m)
linked_transition tree mutator Duplicate m o ss c = of_frames o ss c (duplicate_transition m)
linked_transition tree mutator Pop m o ss c = of_frames o ss c (pop_transition m)
linked_transition tree mutator (Binary op) m o ss c = of_frames o ss c (binary_transition op m)
linked_transition tree mutator (Unary op) m o ss c = of_frames o ss c (unary_transition op m)
linked_transition tree mutator (Shift op) m o ss c = of_frames o ss c (shift_transition op m)
linked_transition tree mutator (Compare op) m o ss c = of_frames o ss c (compare_transition mutator.phase op m o)
linked_transition tree mutator ConvertInt32 m o ss c = of_frames o ss c (convert_32_transition m)
linked_transition tree mutator ConvertInt64 m o ss c = of_frames o ss c (convert_64_transition m)
linked_transition tree mutator (Branch condition pc) m o ss c = of_frames o ss c (branch_transition mutator.phase condition pc m o)
linked_transition tree mutator (Switch pcs) m o ss c = of_frames o ss c (switch_transition pcs m)
linked_transition tree mutator (LoadField slot kind) m o ss c = of_objects o ss c (load_field_transition kind slot m o)
linked_transition tree mutator (StoreField slot) m o ss c = of_objects o ss c (store_field_transition mutator.phase slot m o)
linked_transition tree mutator (LoadStaticField number) m o ss c = of_frames o ss c (load_static_transition number m ss)
linked_transition tree mutator (StoreStaticField number) m o ss c = of_statics o ss c (store_static_transition mutator.phase number m o ss)
linked_transition tree mutator (NewArray element) m o ss c = of_objects o ss c (new_array_transition mutator.phase element m o)
linked_transition tree mutator LoadLength m o ss c = of_objects o ss c (load_length_transition m o)
linked_transition tree mutator (LoadElement kind) m o ss c = of_objects o ss c (load_element_transition (kind_of_elements kind) m o)
linked_transition tree mutator (StoreElement kind) m o ss c = of_objects o ss c (element_store_transition mutator.phase tree kind m o)
linked_transition tree mutator (CastClass t) m o ss c = of_objects o ss c (cast_class_transition tree t m o)
linked_transition tree mutator (IsInstance t) m o ss c = of_objects o ss c (is_instance_transition tree t m o)
linked_transition tree mutator (Call number) m o ss c = of_calls o ss c (call_by_id tree mutator number m o c)
linked_transition tree mutator (CallVirtual number operands) m o ss c = of_calls o ss c (virtual_by_id tree mutator number operands m o c)
linked_transition tree mutator (NewObject class slots number) m o ss c = of_objects o ss c (made_by_id tree mutator class slots number m o)
linked_transition tree mutator (Return has_result) m o ss c = of_frames o ss c (return_transition has_result m)

-- whether an instruction has a result that prints
abbrev pub is_printing : List ℕ → MachineTransition → Bool
is_printing c transition = option_map_or (λ (t : Answer). nat_lt (length c) (length t.printed)) transition false

-- ---- a resolved instruction at a frame's pc

-- the method of the frame
abbrev pub method_of : Tree → Frames → Option (ClassName × Method)
method_of tree m = slice_get (all_methods tree) m.running.method

-- its line
abbrev pub line_at : Tree → Frames → Option Line
line_at tree m = option_and_then (λ (found : ClassName × Method). slice_get (lines_of found.1) m.running.pc) (method_of tree m)

-- whether that method returns a value (II.15.3)
abbrev pub returns_value : Tree → Frames → Bool
returns_value tree m = option_map_or has_value (method_of tree m) false

-- what a resolved instruction of the method is linked to
abbrev pub link_of : Tree → Frames → Operation → Option LinkedInstruction
link_of tree m op = link tree (returns_value tree m) op

-- a resolved instruction does what its link does
abbrev pub operation_transition : Tree → Mutator → Operation → Frames → Objects → List Value → List ℕ → MachineTransition
operation_transition tree mutator op m o ss c = when_some (link_of tree m op) (λ l. linked_transition tree mutator l m o ss c)

-- a resolved instruction that represents the one there
pub record IsAt (tree : Tree) (m : Frames) (op : Operation) : Type 0 where
  pub found : ClassName × Method
  pub line : Line
  pub found_is : method_of tree m ≡ Some found
  pub line_is : slice_get (lines_of found.1) m.running.pc ≡ Some line
  pub refines : IsOperation tree (lines_of found.1) line.instruction op

-- what a thread's next instruction has done: its result is that of a resolved instruction there
pub record IsDone (tree : Tree) (mutator : Mutator) (m : Frames) (o : Objects) (ss : List Value) (c : List ℕ) (answer : Answer) : Type 0 where
  pub operation : Operation
  pub at : IsAt tree m operation
  pub constant : HasSmallConstant operation
  pub is : Some answer ≡ operation_transition tree mutator operation m o ss c

-- what a thread's next instruction would have done prints
abbrev pub Prints : Tree → Mutator → Frames → Objects → List Value → List ℕ → Type 0
Prints tree mutator m o ss c = (answer : Answer) × IsDone tree mutator m o ss c answer × (length c < length answer.printed)
