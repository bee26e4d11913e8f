-- One instruction of the reference machine (III.3, III.4), and one step of one thread.
use Rattle.cil_model.specs.Bodies.{at_index, code_of, constructor_reference, virtual_reference, reference_operands, lines_of, pc_of}
use Rattle.cil_model.specs.Fields.{FieldKey, same_key}
use Rattle.std.specs.Prelude.{ℕ, zero, suc, ◌-◌, ℤ, pos, negsuc, Bool, true, false, if◌then◌else◌, nat_le, List, [], ◌∷◌, length, replicate, Option, Some, None, is_some, slice_get, slice_set, option_map, option_and_then}
use Rattle.std.specs.Int.{w32, cast_unsigned}
use Rattle.std.specs.Option.{option_map_or}
use Rattle.cil_model.specs.declared.types.ClassName.{ClassName}
use Rattle.cil_model.specs.declared.types.DeclaredType.{DeclaredType}
use Rattle.cil_model.specs.declared.instructions.BranchCondition.TheVariants as conditions
use Rattle.cil_model.specs.declared.instructions.ElementKind.TheVariants as kinds
use Rattle.cil_model.specs.declared.instructions.Instruction.{Instruction}
use Rattle.cil_model.specs.declared.instructions.Instruction.TheVariants.{NoOperation, LoadInt32, LoadInt64, LoadNull, LoadString, LoadArgument, StoreArgument, LoadLocal, StoreLocal, Duplicate, Pop, Binary, Unary, Shift, Compare, ConvertInt32, ConvertInt64, Branch, Switch, LoadField, StoreField, LoadStaticField, StoreStaticField, NewArray, LoadLength, LoadElement, StoreElement, CastClass, IsInstance, Call, CallVirtual, NewObject, Return}
use Rattle.cil_model.specs.declared.trees.Tree.{Tree}
use Rattle.cil_model.specs.declared.trees.Field.{Field}
use Rattle.cil_model.specs.declared.trees.Method.{Method}
use Rattle.cil_model.specs.declared.trees.Line.{Line}
use Rattle.cil_model.specs.declared.limits.Limits.{Limits}
use Rattle.cil_model.specs.declared.reports.Fault.TheVariants.{NullReference, IndexOutOfRange, ArrayTypeMismatch, InvalidCast, Overflow, OutOfMemory, StackOverflow}
use Rattle.cil_model.specs.declared.reports.End.{End}
use Rattle.cil_model.specs.declared.reports.End.TheVariants.{Done, Budget, Fault as ByFault}
use Rattle.cil_model.specs.declared.reports.Report.{Report}
use Rattle.cil_model.specs.declared.reports.Report.TheVariants.{Ran, Blocked, Ended, Absent}
use Rattle.cil_model.specs.Chains.{find_field, find_method, is_virtual}
use Rattle.cil_model.specs.Slots.{target}
use Rattle.cil_model.specs.Assignable.{is_reference, is_assignable}
use Rattle.cil_model.specs.FlowRules.{is_of_element_kind}
use Rattle.reference_machine.specs.Values.{ObjectName, Literal, Value, Int32, Int64, Native, Null, Reference, zero_of, is_of_kind}
use Rattle.reference_machine.specs.Arithmetic.{binary_value, unary_value, shift_value, compare_values, branch_values, is_set, convert_32, convert_64, as_index, one_or_zero, not_option}
use Rattle.reference_machine.specs.States.{Contents, Array, Frame, Thread, State, is_live_thread, entry_at, replaced_entry, replaced_at, field_value, with_field, array_at, with_element, type_of, class_of, next_name, with_birth, new_instance}
use Rattle.reference_machine.specs.Effects.{StepContext, Effect, Goes, Blocks, Raises, Sticks, when_some, unless_fault, pop_many, not_null, are_of_kinds, new_frame, after, onward, return_value}
use Rattle.cil_model.specs.Stacks.{take_one, take_two, take_three}
use Rattle.reference_machine.specs.BuiltIn.{action_of, act}

-- the key of the field that was found
abbrev pub key_of : ClassName × Field → FieldKey
key_of found = record { declared_in = found.0; name = found.1.name }

module _ (here : StepContext) (s : State) (f : Frame) (below : List Frame) where
  -- on to the next instruction with this stack
  abbrev pub next : List Value → Effect
  next stack = onward f below s stack

  -- on to the instruction of a label
  abbrev pub jump : List ℕ → List Value → Effect
  jump label stack = when_some (pc_of label (lines_of f.method)) (λ pc. Goes (record f { pc = pc; stack = stack } ∷ below) s)

  -- there where the test holds, otherwise to the next instruction
  abbrev pub branch_if : Bool → List ℕ → List Value → Effect
  branch_if true label stack = jump label stack
  branch_if false label stack = next stack

  -- ---- objects and arrays

  -- what is born where memory is not refused
  abbrev pub birth : Contents → (ObjectName → State → Effect) → Effect
  birth contents go = if here.is_refused then Raises OutOfMemory else go (next_name s) (with_birth s contents)

  -- an array of n elements, all zero or null (III.4.20)
  abbrev pub new_array : DeclaredType → ℤ → List Value → Effect
  new_array t (negsuc n) rest = Raises Overflow
  new_array t (pos n) rest = birth (Array t (replicate n (zero_of t))) (λ name s'. onward f below s' (Reference name ∷ rest))

  -- continues with an index and the element there
  abbrev pub in_range : (ℕ → Option Value) → (ℕ → Value → Effect) → ℤ → Effect
  in_range at go (negsuc n) = Raises IndexOutOfRange
  in_range at go (pos n) = option_map_or (go n) (at n) (Raises IndexOutOfRange)

  -- an index of an array that exists and whose elements pass a test
  abbrev pub element : (DeclaredType → Bool) → Value → Value → (ObjectName → DeclaredType → ℕ → Value → Effect) → Effect
  element test array index go =
      not_null array NullReference (λ n.
      when_some (as_index index) (λ i.
      when_some (array_at s n) (λ held.
      if test held.0 then in_range (slice_get held.1) (go n held.0) i else Sticks)))

  -- ldelem.i4, ldelem.i8 and ldelem.ref (III.4.8)
  abbrev pub load_element : (DeclaredType → Bool) → Effect
  load_element test = take_two Sticks f.stack (λ array index rest. element test array index (λ n t i v. next (v ∷ rest)))

  -- stelem.i4 and stelem.i8 (III.4.27)
  abbrev pub store_element : (DeclaredType → Bool) → Effect
  store_element test = take_three Sticks f.stack (λ array index v rest. element test array index (λ n t i old. when_some (with_element s n i v) (λ s'. onward f below s' rest)))

  -- the object's own class has to fit the array's own elements (III.4.27)
  abbrev pub may_hold : DeclaredType → Value → Option Bool
  may_hold t Null = Some true
  may_hold t (Reference n) = option_map (λ own. is_assignable here.tree own t) (type_of s n)
  may_hold t _ = None

  -- stelem.ref (III.4.27): the index is checked before the class
  abbrev pub store_reference : Effect
  store_reference = take_three Sticks f.stack (λ array index v rest. element is_reference array index (λ n t i old.
      when_some (may_hold t v) (λ holds. if holds then when_some (with_element s n i v) (λ s'. onward f below s' rest) else Raises ArrayTypeMismatch)))

  -- what castclass and isinst do with an object of another class (III.4.3, III.4.6)
  abbrev pub cast : DeclaredType → (List Value → Effect) → Effect
  cast t otherwise = take_one Sticks f.stack (λ v rest. when_some (may_hold t v) (λ holds. if holds then next (v ∷ rest) else otherwise rest))

  -- ---- calls

  -- a method with code gets a frame, within the depth limit
  abbrev pub frame_for : ClassName → Method → List Value → Option ObjectName → State → List Value → Effect
  frame_for c m arguments constructed s' rest = when_some (code_of m.kind) (λ code. Goes (new_frame c m code arguments constructed ∷ after f rest ∷ below) s')

  -- the thread has the maximal number of frames
  abbrev pub is_too_deep : Bool
  is_too_deep = nat_le here.limits.depth (length (f ∷ below))

  -- runs the method on its operands: an action of its own, or a frame
  abbrev pub run_method : ClassName × Method → List Value → List Value → Effect
  run_method found arguments rest =
      option_map_or (λ a. act here s f below a arguments rest)
      (action_of found.0 found.1)
      (if is_too_deep then Raises StackOverflow else frame_for found.0 found.1 arguments None s rest)

  -- takes operands, each of the kind of its type
  abbrev pub operands : List DeclaredType → (List Value → List Value → Effect) → Effect
  operands types go = pop_many (length types) f.stack (λ arguments rest. if are_of_kinds types arguments then go arguments rest else Sticks)

  -- the method that runs for an object: the target for its class; one that isn't virtual runs itself, on an array too
  abbrev pub method_for : ObjectName → ClassName × Method → Option (ClassName × Method)
  method_for n found = if is_virtual found.1.kind then option_and_then (λ d. target here.tree d found.0 found.1) (class_of s n) else Some found

  -- runs what the object of the first operand says (III.4.2)
  abbrev pub run_virtual : ClassName × Method → List Value → List Value → Effect
  run_virtual found [] rest = Sticks
  run_virtual found (this ∷ arguments) rest =
      not_null this NullReference (λ n. when_some (method_for n found) (λ chosen. run_method chosen (this ∷ arguments) rest))

  -- a new object: at once where the constructor is built in, otherwise with a frame that pushes it at its end (III.4.21)
  abbrev pub construct : ClassName → ClassName × Method → List Value → List Value → Effect
  construct c found arguments rest =
      if is_some (action_of found.0 found.1) then birth (new_instance here.tree c) (λ name s'. onward f below s' (Reference name ∷ rest))
      else if is_too_deep then Raises StackOverflow
      else birth (new_instance here.tree c) (λ name s'. frame_for found.0 found.1 (Reference name ∷ arguments) (Some name) s' rest)

  -- back to the caller, with a value or without
  abbrev pub push_and_advance : Option Value → Effect
  push_and_advance v = Goes (return_value v below) s

  -- a value of the kind that the method returns
  abbrev pub push_and_advance_value : DeclaredType → Effect
  push_and_advance_value t = take_one Sticks f.stack (λ v rest. if is_of_kind t v then push_and_advance (Some v) else Sticks)

  -- the end of a method: its value, or the object that it constructed (III.3.57)
  abbrev pub return_from : Effect
  return_from = option_map_or (λ name. push_and_advance (Some (Reference name))) f.constructed (option_map_or push_and_advance_value f.method.signature.return_type (push_and_advance None))

  -- ---- one instruction

  -- another value at a signed index
  abbrev pub store_at : ℤ → Value → List Value → Option (List Value)
  store_at (pos n) v vs = replaced_at n v vs
  store_at (negsuc n) v vs = None

  -- to the label of that number, counted as unsigned, or on to the next instruction (III.3.66)
  abbrev pub to_label : Option (List ℕ) → List Value → Effect
  to_label None rest = next rest
  to_label (Some label) rest = jump label rest

  -- the operand has 32 bits
  abbrev pub switch_on : List (List ℕ) → Value → List Value → Effect
  switch_on labels (Int32 z) rest = to_label (slice_get labels (cast_unsigned w32 z)) rest
  switch_on labels _ rest = Sticks

  -- what each instruction does (III.3 and III.4)
  abbrev pub execute : Instruction → Effect
  execute NoOperation = next f.stack
  execute (LoadInt32 z) = next (Int32 z ∷ f.stack)
  execute (LoadInt64 z) = next (Int64 z ∷ f.stack)
  execute LoadNull = next (Null ∷ f.stack)
  execute (LoadString characters) = next (Reference (Literal characters) ∷ f.stack)
  execute (LoadArgument n) = when_some (at_index f.arguments n) (λ v. next (v ∷ f.stack))
  execute (LoadLocal n) = when_some (at_index f.locals n) (λ v. next (v ∷ f.stack))
  execute (StoreArgument n) = take_one Sticks f.stack (λ v rest. when_some (store_at n v f.arguments) (λ arguments. Goes (after (record f { arguments = arguments }) rest ∷ below) s))
  execute (StoreLocal n) = take_one Sticks f.stack (λ v rest. when_some (store_at n v f.locals) (λ locals. Goes (after (record f { locals = locals }) rest ∷ below) s))
  execute Duplicate = take_one Sticks f.stack (λ v rest. next (v ∷ v ∷ rest))
  execute Pop = take_one Sticks f.stack (λ v rest. next rest)
  execute (Binary op) = take_two Sticks f.stack (λ v w rest. when_some (binary_value op v w) (λ result. unless_fault result (λ u. next (u ∷ rest))))
  execute (Unary op) = take_one Sticks f.stack (λ v rest. when_some (unary_value op v) (λ u. next (u ∷ rest)))
  execute (Shift op) = take_two Sticks f.stack (λ v amount rest. when_some (shift_value op v amount) (λ u. next (u ∷ rest)))
  execute (Compare op) = take_two Sticks f.stack (λ v w rest. when_some (compare_values op v w) (λ holds. next (one_or_zero holds ∷ rest)))
  execute ConvertInt32 = take_one Sticks f.stack (λ v rest. when_some (convert_32 v) (λ u. next (u ∷ rest)))
  execute ConvertInt64 = take_one Sticks f.stack (λ v rest. when_some (convert_64 v) (λ u. next (u ∷ rest)))
  execute (Branch conditions.Always label) = jump label f.stack
  execute (Branch conditions.IfTrue label) = take_one Sticks f.stack (λ v rest. when_some (is_set v) (λ holds. branch_if holds label rest))
  execute (Branch conditions.IfFalse label) = take_one Sticks f.stack (λ v rest. when_some (not_option (is_set v)) (λ holds. branch_if holds label rest))
  execute (Branch (conditions.Compare op) label) = take_two Sticks f.stack (λ v w rest. when_some (branch_values op v w) (λ holds. branch_if holds label rest))
  execute (Switch labels) = take_one Sticks f.stack (switch_on labels)
  execute (LoadField r) = take_one Sticks f.stack (λ object rest. when_some (find_field here.tree false r) (λ found.
      not_null object NullReference (λ n. when_some (field_value s n (key_of found)) (λ v. next (v ∷ rest)))))
  execute (StoreField r) = take_two Sticks f.stack (λ object v rest. when_some (find_field here.tree false r) (λ found.
      not_null object NullReference (λ n. when_some (with_field s n (key_of found) v) (λ s'. onward f below s' rest))))
  execute (LoadStaticField r) = when_some (find_field here.tree true r) (λ found. when_some (entry_at same_key (key_of found) s.statics) (λ v. next (v ∷ f.stack)))
  execute (StoreStaticField r) = take_one Sticks f.stack (λ v rest. when_some (find_field here.tree true r) (λ found.
      when_some (replaced_entry (key_of found) v s.statics) (λ statics. onward f below (record s { statics = statics }) rest)))
  execute (NewArray t) = take_one Sticks f.stack (λ v rest. when_some (as_index v) (λ z. new_array t z rest))
  execute LoadLength = take_one Sticks f.stack (λ array rest. not_null array NullReference (λ n. when_some (array_at s n) (λ held. next (Native (pos (length held.1)) ∷ rest))))
  execute (LoadElement kind) = load_element (is_of_element_kind kind)
  execute (StoreElement kinds.Reference) = store_reference
  execute (StoreElement kind) = store_element (is_of_element_kind kind)
  execute (CastClass t) = cast t (λ rest. Raises InvalidCast)
  execute (IsInstance t) = cast t (λ rest. next (Null ∷ rest))
  execute (Call is_instance r) = when_some (find_method here.tree is_instance r) (λ found. operands (reference_operands is_instance r) (run_method found))
  execute (CallVirtual owner name signature) = when_some (find_method here.tree true (virtual_reference owner name signature)) (λ found.
      operands (reference_operands true (virtual_reference owner name signature)) (run_virtual found))
  execute (NewObject c parameters) = when_some (find_method here.tree true (constructor_reference c parameters)) (λ found.
      operands parameters (construct c found))
  execute Return = return_from

-- ---- one step of a thread

-- the report of a step, with the state after it; or it meets a missing operand, one of the wrong kind, an absent member or an unknown name
pub data StepOutcome : Type 0 where
  Answers : Report → State → StepOutcome
  Stuck : StepOutcome

-- the instruction that a frame is at
abbrev pub instruction_at : Frame → Option Instruction
instruction_at f = option_map (λ (l : Line). l.instruction) (slice_get (lines_of f.method) f.pc)

-- what the thread's frames do next
abbrev pub effect_of : StepContext → State → List Frame → Effect
effect_of here s [] = Sticks
effect_of here s (f ∷ below) = when_some (instruction_at f) (execute here s f below)

-- the state with another thread of that number
abbrev pub with_thread_at : State → ℕ → Thread → State
with_thread_at s t thread = record s { threads = slice_set s.threads t thread }

-- a thread that ends drops its frames; monitors that it holds stay held
abbrev pub ended_as : State → ℕ → ℕ → End → StepOutcome
ended_as s t left e = Answers (Ended e) (with_thread_at s t (record { frames = []; steps_left = left; ended = Some e }))

-- a live thread continues, unless its budget is used up
abbrev pub continues : Report → State → ℕ → ℕ → List Frame → StepOutcome
continues report s t zero frames = ended_as s t 0 Budget
continues report s t (suc left) frames = Answers report (with_thread_at s t (record { frames = frames; steps_left = suc left; ended = None }))

-- the report, where this number of steps is left after this one
abbrev pub charge : State → ℕ → ℕ → List Frame → Effect → StepOutcome
charge s t left frames (Goes [] s') = ended_as s' t left Done
charge s t left frames (Goes (f ∷ below) s') = continues Ran s' t left (f ∷ below)
charge s t left frames Blocks = continues Blocked s t left frames
charge s t left frames (Raises fault) = ended_as s t left (ByFault fault)
charge s t left frames Sticks = Stuck

-- a thread that has ended is absent; each step of a live one takes one from its budget
abbrev pub step_of : StepContext → State → Thread → StepOutcome
step_of here s thread =
    if is_live_thread thread then charge s here.thread (thread.steps_left - 1) thread.frames (effect_of here s thread.frames) else Answers Absent s

-- one step of thread t, where it was started; `refused` counts where an allocation is due
abbrev pub step : Tree → Limits → State → ℕ → Bool → StepOutcome
step tree limits s t refused = option_map_or (step_of (record { tree = tree; limits = limits; thread = t; is_refused = refused }) s) (slice_get s.threads t) (Answers Absent s)
