-- After each instruction no monitor is held more often than its owner made steps.
use Rattle.std.proofs.Common.{◌≡◌, ◌≤◌, ◌+◌, ◌==◌, ◌-◌, ℕ, ℤ, pos, negsuc, Bool, true, false, if◌then◌else◌, nat_le, List, [], ◌∷◌, length, reverse, take, drop, replicate, Option, Some, None, Result, Ok, Err, is_some, slice_get, refl, inl, inr, arith}
use Rattle.std.specs.Option.{option_map_or}
use Rattle.interpreter.specs.cil_model.declared.types.ClassName.{ClassName}
use Rattle.interpreter.specs.cil_model.declared.types.DeclaredType.{DeclaredType}
use Rattle.interpreter.specs.cil_model.declared.instructions.BranchCondition.TheVariants as conditions
use Rattle.interpreter.specs.cil_model.declared.instructions.ElementKind.TheVariants as kinds
use Rattle.interpreter.specs.cil_model.declared.instructions.Instruction.{Instruction}
use Rattle.interpreter.specs.cil_model.declared.instructions.Instruction.TheVariants.{NoOperation, LoadArgument, StoreArgument, LoadLocal, StoreLocal, Duplicate, Pop, Binary, Unary, Shift, Compare, ConvertInt32, ConvertInt64, Branch, Switch, LoadField, StoreField, LoadStaticField, StoreStaticField, NewArray, LoadLength, LoadElement, StoreElement, CastClass, IsInstance, Call, CallVirtual, NewObject, Return}
use Rattle.interpreter.specs.cil_model.declared.trees.Method.{Method}
use Rattle.interpreter.specs.cil_model.declared.limits.TheConstants.{MOST_THREADS}
use Rattle.interpreter.specs.cil_model.declared.reports.Fault.{Fault}
use Rattle.interpreter.specs.cil_model.declared.reports.Fault.TheVariants.{NullReference, IndexOutOfRange, ArrayTypeMismatch, InvalidCast, Overflow, OutOfMemory, TooManyThreads, StackOverflow, ArgumentNull, SynchronizationLock, ThreadState}
use Rattle.std.specs.Int.{w32, cast_unsigned}
use Rattle.interpreter.specs.cil_model.Declarations.{thread_name, run_method}
use Rattle.interpreter.specs.cil_model.Chains.{find_field, find_method, is_thread_class}
use Rattle.interpreter.specs.cil_model.Fields.{same_key}
use Rattle.interpreter.specs.cil_model.Slots.{target}
use Rattle.interpreter.specs.cil_model.Assignable.{is_reference}
use Rattle.interpreter.specs.cil_model.Bodies.{at_index, constructor_reference, virtual_reference, reference_operands, code_of, lines_of, pc_of}
use Rattle.interpreter.specs.reference_machine.Values.{ObjectName, Value, Int32, Null, Reference, zero_of, is_of_kind}
use Rattle.interpreter.specs.reference_machine.Arithmetic.{binary_value, unary_value, shift_value, compare_values, branch_values, is_set, convert_32, convert_64, as_index, not_option}
use Rattle.interpreter.specs.reference_machine.States.{Monitor, Free, Held, Contents, Array, HeapObject, Frame, State, entry_at, replaced_entry, field_value, with_field, object_at, class_of, monitor_of, is_live, array_at, with_element, next_name, with_birth, new_instance}
use Rattle.interpreter.specs.cil_model.Stacks.{take_one, take_two, take_three}
use Rattle.interpreter.specs.reference_machine.Effects.{StepContext, Effect, Goes, Blocks, Raises, Sticks, when_some, unless_fault, not_null, are_of_kinds, after, onward}
use Rattle.interpreter.specs.reference_machine.BuiltIn.{Action, Construct, Write, Enter, Exit, Start, Join, action_of, line_of, enter, exit, begin, start, join, thread_object, act}
use Rattle.interpreter.specs.reference_machine.Steps.{instruction_at, effect_of, key_of, store_at, execute, jump, branch_if, birth, new_array, in_range, element, load_element, store_element, may_hold, store_reference, cast, frame_for, is_too_deep, run_method as run_found, operands, method_for, run_virtual, construct, return_from, to_label, switch_on}
use Rattle.std.proofs.lemmas.Bool.{eqb-true}
use Rattle.simulation.proofs.MonitorCounts.StateChanges.{IsStepping, IsCountedAfter, KeepsCounts, monitor_counted, own_count, own_budget, itself_keeps, monitor_keeps, birth_keeps, field_keeps, element_keeps, aside_keeps, start_keeps}

-- an effect that leaves monitors counted after the step
pub data KeepsInEffect (here : StepContext) (s : State) (left : ℕ) : Effect → Type 0 where
  goes : (fs : List Frame) (after : State) → KeepsCounts here s left after → KeepsInEffect here s left (Goes fs after)
  blocks : KeepsInEffect here s left Blocks
  raises : (x : Fault) → KeepsInEffect here s left (Raises x)
  sticks : KeepsInEffect here s left Sticks

module _ (here : StepContext) (s : State) (left : ℕ) where
  -- ---- what effects are put together from

  -- the same, in this step
  abbrev Keeps : Effect → Type 0
  Keeps e = KeepsInEffect here s left e

  -- with what is there
  given_keeps : {X : Type 0} {go : X → Effect} (o : Option X) → ((x : X) → o ≡ Some x → Keeps (go x)) → Keeps (when_some o go)
  given_keeps None each = sticks
  given_keeps (Some x) each = each x refl

  -- with what is there, or with something else
  or_keeps : {X : Type 0} {go : X → Effect} {other : Effect} (o : Option X) → ((x : X) → Keeps (go x)) → Keeps other → Keeps (option_map_or go o other)
  or_keeps None each h = h
  or_keeps (Some x) each h = each x

  -- one or the other
  if_keeps : {x y : Effect} (b : Bool) → (b ≡ true → Keeps x) → Keeps y → Keeps (if b then x else y)
  if_keeps true h k = h refl
  if_keeps false h k = k

  -- with an operand
  one_keeps : {go : Value → List Value → Effect} (vs : List Value) → ((v : Value) (rest : List Value) → Keeps (go v rest)) → Keeps (take_one Sticks vs go)
  one_keeps [] each = sticks
  one_keeps (v ∷ rest) each = each v rest

  -- with two
  two_keeps : {go : Value → Value → List Value → Effect} (vs : List Value) → ((v w : Value) (rest : List Value) → Keeps (go v w rest)) → Keeps (take_two Sticks vs go)
  two_keeps (w ∷ v ∷ rest) each = each v w rest
  two_keeps _ each = sticks

  -- with three
  three_keeps : {go : Value → Value → Value → List Value → Effect} (vs : List Value) → ((u v w : Value) (rest : List Value) → Keeps (go u v w rest)) → Keeps (take_three Sticks vs go)
  three_keeps (w ∷ v ∷ u ∷ rest) each = each u v w rest
  three_keeps _ each = sticks

  -- with an object
  null_keeps : {go : ObjectName → Effect} (v : Value) (x : Fault) → ((n : ObjectName) → Keeps (go n)) → Keeps (not_null v x go)
  null_keeps Null x each = raises x
  null_keeps (Reference n) x each = each n
  null_keeps _ x each = sticks

  -- with a result, or by its fault
  fault_keeps : {X : Type 0} {go : X → Effect} (r : Result X Fault) → ((x : X) → Keeps (go x)) → Keeps (unless_fault r go)
  fault_keeps (Ok x) each = each x
  fault_keeps (Err x) each = raises x

  module _ (stepping : IsStepping here s left) (f : Frame) (below : List Frame) where
    -- on in the same state
    on : (fs : List Frame) → Keeps (Goes fs s)
    on fs = goes fs s (itself_keeps here s left stepping)

    -- on to the next instruction
    onward_keeps : (rest : List Value) → Keeps (onward f below s rest)
    onward_keeps rest = on (after f rest ∷ below)

    -- ---- built-in members

    -- an entry makes the count one more, and the steps left one less
    enter_keeps : (n : ObjectName) (rest : List Value) (m : Monitor) → monitor_of s n ≡ Some m → Keeps (enter here s f below n rest m)
    enter_keeps n rest Free h = let budget = own_budget here s left stepping in goes _ _ (monitor_keeps here s left stepping n (Held here.thread 1) (inr (refl, omega (arith, budget))))
    enter_keeps n rest (Held owner count) h =
        if_keeps (owner == here.thread) (λ own.
        let budget = own_count here s left stepping owner count (eqb-true owner here.thread own) (monitor_counted here s left stepping n (Held owner count) h) in
        goes _ _ (monitor_keeps here s left stepping n (Held here.thread (count + 1)) (inr (refl, omega (arith, budget))))) blocks

    -- an exit leaves it free, or makes the count one less
    exit_keeps : (n : ObjectName) (rest : List Value) (m : Monitor) → monitor_of s n ≡ Some m → Keeps (exit here s f below n rest m)
    exit_keeps n rest Free h = raises SynchronizationLock
    exit_keeps n rest (Held owner count) h =
        if_keeps (owner == here.thread) (λ own.
        let budget = own_count here s left stepping owner count (eqb-true owner here.thread own) (monitor_counted here s left stepping n (Held owner count) h) in
        goes _ _ (monitor_keeps here s left stepping n _ (by_last (nat_le count 1) (omega (arith, budget))))) (raises SynchronizationLock)
      where
        by_last : (b : Bool) → (count - 1) + left ≤ here.limits.budget → IsCountedAfter here s left (if b then Free else Held here.thread (count - 1))
        by_last true within = inl tt
        by_last false within = inr (refl, within)

    -- a start makes a thread with its whole budget
    begin_keeps : (n : ObjectName) (rest : List Value) (o : HeapObject) (run : Option (ClassName × Method)) → object_at s n ≡ Some o → Keeps (begin here s f below n rest o run)
    begin_keeps n rest o run there = given_keeps run (λ found e. given_keeps (code_of found.1.kind) (λ code e'. goes _ _ (start_keeps here s left stepping n o _ _ there refl)))

    -- it does so at most once for an object
    started_keeps : (n : ObjectName) (rest : List Value) (o : HeapObject) → object_at s n ≡ Some o → Keeps (start here s f below n rest o)
    started_keeps n rest o there =
        if_keeps (is_some o.thread) (λ e. raises ThreadState) (
        if_keeps (nat_le MOST_THREADS (length s.threads)) (λ e. raises TooManyThreads) (
        given_keeps (class_of s n) (λ c e. begin_keeps n rest o (target here.tree c thread_name run_method) there)))

    -- a join changes nothing
    join_keeps : (rest : List Value) (o : HeapObject) → Keeps (join here s f below rest o)
    join_keeps rest o = or_keeps o.thread (λ t. if_keeps (is_live s t) (λ e. blocks) (onward_keeps rest)) (raises ThreadState)

    -- with the object of a thread
    thread_keeps : {go : HeapObject → Effect} (n : ObjectName) → ((o : HeapObject) → object_at s n ≡ Some o → Keeps (go o)) → Keeps (thread_object here s f below n go)
    thread_keeps n each = given_keeps (class_of s n) (λ c e. if_keeps (is_thread_class here.tree c) (λ e'. given_keeps (object_at s n) each) sticks)

    -- each built-in member
    act_keeps : (a : Action) (arguments rest : List Value) → Keeps (act here s f below a arguments rest)
    act_keeps Construct (v ∷ []) rest = onward_keeps rest
    act_keeps Write (v ∷ []) rest = given_keeps (line_of v) (λ line e. goes _ _ (aside_keeps here s left stepping _ _))
    act_keeps Enter (v ∷ []) rest = null_keeps v ArgumentNull (λ n. given_keeps (monitor_of s n) (λ m e. enter_keeps n rest m e))
    act_keeps Exit (v ∷ []) rest = null_keeps v ArgumentNull (λ n. given_keeps (monitor_of s n) (λ m e. exit_keeps n rest m e))
    act_keeps Start (v ∷ []) rest = null_keeps v NullReference (λ n. thread_keeps n (λ o e. started_keeps n rest o e))
    act_keeps Join (v ∷ []) rest = null_keeps v NullReference (λ n. thread_keeps n (λ o e. join_keeps rest o))
    act_keeps _ _ rest = sticks

    -- ---- the parts of an instruction

    -- on at a label
    jump_keeps : (label : List ℕ) (stack : List Value) → Keeps (jump here s f below label stack)
    jump_keeps label stack = given_keeps (pc_of label (lines_of f.method)) (λ slot_index e. on _)

    -- on at a label or at the next instruction
    branch_keeps : (b : Bool) (label : List ℕ) (stack : List Value) → Keeps (branch_if here s f below b label stack)
    branch_keeps true label stack = jump_keeps label stack
    branch_keeps false label stack = onward_keeps stack

    -- on at the label of that number
    label_keeps : (o : Option (List ℕ)) (rest : List Value) → Keeps (to_label here s f below o rest)
    label_keeps None rest = onward_keeps rest
    label_keeps (Some label) rest = jump_keeps label rest

    -- the number is an operand
    switch_keeps : (labels : List (List ℕ)) (v : Value) (rest : List Value) → Keeps (switch_on here s f below labels v rest)
    switch_keeps labels (Int32 z) rest = label_keeps (slice_get labels (cast_unsigned w32 z)) rest
    switch_keeps labels _ rest = sticks

    -- a birth may be refused
    birth_or_fault : (go : ObjectName → State → Effect) (contents : Contents) → Keeps (go (next_name s) (with_birth s contents)) → Keeps (birth here s f below contents go)
    birth_or_fault go contents each = if_keeps here.is_refused (λ e. raises OutOfMemory) each

    -- a new array
    array_keeps : (t : DeclaredType) (z : ℤ) (rest : List Value) → Keeps (new_array here s f below t z rest)
    array_keeps t (negsuc n) rest = raises Overflow
    array_keeps t (pos n) rest = birth_or_fault (λ name s'. onward f below s' (Reference name ∷ rest)) (Array t (replicate n (zero_of t))) (goes _ _ (birth_keeps here s left stepping (Array t (replicate n (zero_of t)))))

    -- with the element of that number
    range_keeps : {go : ℕ → Value → Effect} (at : ℕ → Option Value) (z : ℤ) → ((n : ℕ) (v : Value) → Keeps (go n v)) → Keeps (in_range here s f below at go z)
    range_keeps at (negsuc n) each = raises IndexOutOfRange
    range_keeps at (pos n) each = or_keeps (at n) (each n) (raises IndexOutOfRange)

    -- of that array
    element_of_keeps : {go : ObjectName → DeclaredType → ℕ → Value → Effect} (test : DeclaredType → Bool) (array index : Value) → ((n : ObjectName) (t : DeclaredType) (i : ℕ) (v : Value) → Keeps (go n t i v)) → Keeps (element here s f below test array index go)
    element_of_keeps test array index each =
        null_keeps array NullReference (λ n. given_keeps (as_index index) (λ i e. given_keeps (array_at s n) (λ held e'.
        if_keeps (test held.0) (λ fits. range_keeps (slice_get held.1) i (each n held.0)) sticks)))

    -- ldelem
    load_keeps : (test : DeclaredType → Bool) → Keeps (load_element here s f below test)
    load_keeps test = two_keeps f.stack (λ array index rest. element_of_keeps test array index (λ n t i v. onward_keeps (v ∷ rest)))

    -- another element
    put_keeps : (n : ObjectName) (i : ℕ) (v : Value) (rest : List Value) → Keeps (when_some (with_element s n i v) (λ s'. onward f below s' rest))
    put_keeps n i v rest = given_keeps (with_element s n i v) (λ s' e. goes _ s' (element_keeps here s left stepping n i v s' e))

    -- stelem
    store_keeps : (test : DeclaredType → Bool) → Keeps (store_element here s f below test)
    store_keeps test = three_keeps f.stack (λ array index v rest. element_of_keeps test array index (λ n t i old. put_keeps n i v rest))

    -- stelem.ref
    reference_keeps : Keeps (store_reference here s f below)
    reference_keeps = three_keeps f.stack (λ array index v rest. element_of_keeps is_reference array index (λ n t i old.
        given_keeps (may_hold here s f below t v) (λ holds e. if_keeps holds (λ e'. put_keeps n i v rest) (raises ArrayTypeMismatch))))

    -- castclass and isinst
    cast_keeps : {otherwise : List Value → Effect} (t : DeclaredType) → ((rest : List Value) → Keeps (otherwise rest)) → Keeps (cast here s f below t otherwise)
    cast_keeps t each = one_keeps f.stack (λ v rest. given_keeps (may_hold here s f below t v) (λ holds e. if_keeps holds (λ e'. onward_keeps (v ∷ rest)) (each rest)))

    -- a frame of a method with code
    frame_keeps : (c : ClassName) (m : Method) (arguments : List Value) (constructed : Option ObjectName) (s' : State) (rest : List Value) → KeepsCounts here s left s' → Keeps (frame_for here s f below c m arguments constructed s' rest)
    frame_keeps c m arguments constructed s' rest h = given_keeps (code_of m.kind) (λ code e. goes _ s' h)

    -- a method on its operands
    run_keeps : (found : ClassName × Method) (arguments rest : List Value) → Keeps (run_found here s f below found arguments rest)
    run_keeps found arguments rest =
        or_keeps (action_of found.0 found.1) (λ a. act_keeps a arguments rest)
        (if_keeps (is_too_deep here s f below) (λ e. raises StackOverflow) (frame_keeps found.0 found.1 arguments None s rest (itself_keeps here s left stepping)))

    -- with operands of these types
    operands_keep : {go : List Value → List Value → Effect} (types : List DeclaredType) → ((arguments rest : List Value) → Keeps (go arguments rest)) → Keeps (operands here s f below types go)
    operands_keep types each =
        if_keeps (nat_le (length types) (length f.stack)) (λ e.
        if_keeps (are_of_kinds types (reverse (take (length types) f.stack))) (λ e'. each (reverse (take (length types) f.stack)) (drop (length types) f.stack)) sticks) sticks

    -- the method that an object's class says
    virtual_keeps : (found : ClassName × Method) (arguments rest : List Value) → Keeps (run_virtual here s f below found arguments rest)
    virtual_keeps found [] rest = sticks
    virtual_keeps found (this ∷ arguments) rest =
        null_keeps this NullReference (λ n. given_keeps (method_for here s f below n found) (λ chosen e. run_keeps chosen (this ∷ arguments) rest))

    -- a new object
    construct_keeps : (c : ClassName) (found : ClassName × Method) (arguments rest : List Value) → Keeps (construct here s f below c found arguments rest)
    construct_keeps c found arguments rest =
        let born : KeepsCounts here s left (with_birth s (new_instance here.tree c)) = birth_keeps here s left stepping (new_instance here.tree c) in
        if_keeps (is_some (action_of found.0 found.1)) (λ e. birth_or_fault (λ name s'. onward f below s' (Reference name ∷ rest)) (new_instance here.tree c) (goes _ _ born)) (
        if_keeps (is_too_deep here s f below) (λ e. raises StackOverflow) (
        birth_or_fault (λ name s'. frame_for here s f below found.0 found.1 (Reference name ∷ arguments) (Some name) s' rest) (new_instance here.tree c) (
        frame_keeps found.0 found.1 (Reference (next_name s) ∷ arguments) (Some (next_name s)) (with_birth s (new_instance here.tree c)) rest born)))

    -- back to the caller
    return_keeps : Keeps (return_from here s f below)
    return_keeps = or_keeps f.constructed (λ name. on _) (or_keeps f.method.signature.return_type (λ t. one_keeps f.stack (λ v rest. if_keeps (is_of_kind t v) (λ e. on _) sticks)) (on _))

    -- ---- one instruction

    -- each instruction
    pub instruction_keeps : (i : Instruction) → Keeps (execute here s f below i)
    instruction_keeps NoOperation = onward_keeps f.stack
    instruction_keeps (LoadArgument n) = given_keeps (at_index f.arguments n) (λ v e. onward_keeps _)
    instruction_keeps (LoadLocal n) = given_keeps (at_index f.locals n) (λ v e. onward_keeps _)
    instruction_keeps (StoreArgument n) = one_keeps f.stack (λ v rest. given_keeps (store_at here s f below n v f.arguments) (λ arguments e. on _))
    instruction_keeps (StoreLocal n) = one_keeps f.stack (λ v rest. given_keeps (store_at here s f below n v f.locals) (λ locals e. on _))
    instruction_keeps Duplicate = one_keeps f.stack (λ v rest. onward_keeps _)
    instruction_keeps Pop = one_keeps f.stack (λ v rest. onward_keeps _)
    instruction_keeps (Binary op) = two_keeps f.stack (λ v w rest. given_keeps (binary_value op v w) (λ result e. fault_keeps result (λ u. onward_keeps _)))
    instruction_keeps (Unary op) = one_keeps f.stack (λ v rest. given_keeps (unary_value op v) (λ u e. onward_keeps _))
    instruction_keeps (Shift op) = two_keeps f.stack (λ v amount rest. given_keeps (shift_value op v amount) (λ u e. onward_keeps _))
    instruction_keeps (Compare op) = two_keeps f.stack (λ v w rest. given_keeps (compare_values op v w) (λ holds e. onward_keeps _))
    instruction_keeps ConvertInt32 = one_keeps f.stack (λ v rest. given_keeps (convert_32 v) (λ u e. onward_keeps _))
    instruction_keeps ConvertInt64 = one_keeps f.stack (λ v rest. given_keeps (convert_64 v) (λ u e. onward_keeps _))
    instruction_keeps (Branch conditions.Always label) = jump_keeps label f.stack
    instruction_keeps (Branch conditions.IfTrue label) = one_keeps f.stack (λ v rest. given_keeps (is_set v) (λ holds e. branch_keeps holds label rest))
    instruction_keeps (Branch conditions.IfFalse label) = one_keeps f.stack (λ v rest. given_keeps (not_option (is_set v)) (λ holds e. branch_keeps holds label rest))
    instruction_keeps (Branch (conditions.Compare op) label) = two_keeps f.stack (λ v w rest. given_keeps (branch_values op v w) (λ holds e. branch_keeps holds label rest))
    instruction_keeps (Switch labels) = one_keeps f.stack (switch_keeps labels)
    instruction_keeps (LoadField r) = one_keeps f.stack (λ object rest. given_keeps (find_field here.tree false r) (λ found e. null_keeps object NullReference (λ n. given_keeps (field_value s n (key_of found)) (λ v e'. onward_keeps _))))
    instruction_keeps (StoreField r) = two_keeps f.stack (λ object v rest. given_keeps (find_field here.tree false r) (λ found e.
        null_keeps object NullReference (λ n. given_keeps (with_field s n (key_of found) v) (λ s' e'. goes _ s' (field_keeps here s left stepping n (key_of found) v s' e')))))
    instruction_keeps (LoadStaticField r) = given_keeps (find_field here.tree true r) (λ found e. given_keeps (entry_at same_key (key_of found) s.statics) (λ v e'. onward_keeps _))
    instruction_keeps (StoreStaticField r) = one_keeps f.stack (λ v rest. given_keeps (find_field here.tree true r) (λ found e. given_keeps (replaced_entry (key_of found) v s.statics) (λ statics e'. goes _ _ (aside_keeps here s left stepping _ _))))
    instruction_keeps (NewArray t) = one_keeps f.stack (λ v rest. given_keeps (as_index v) (λ z e. array_keeps t z rest))
    instruction_keeps LoadLength = one_keeps f.stack (λ array rest. null_keeps array NullReference (λ n. given_keeps (array_at s n) (λ held e. onward_keeps _)))
    instruction_keeps (LoadElement _) = load_keeps _
    instruction_keeps (StoreElement kinds.Reference) = reference_keeps
    instruction_keeps (StoreElement _) = store_keeps _
    instruction_keeps (CastClass t) = cast_keeps t (λ rest. raises InvalidCast)
    instruction_keeps (IsInstance t) = cast_keeps t (λ rest. onward_keeps _)
    instruction_keeps (Call is_instance r) = given_keeps (find_method here.tree is_instance r) (λ found e. operands_keep (reference_operands is_instance r) (run_keeps found))
    instruction_keeps (CallVirtual owner name signature) = given_keeps (find_method here.tree true (virtual_reference owner name signature)) (λ found e.
        operands_keep (reference_operands true (virtual_reference owner name signature)) (virtual_keeps found))
    instruction_keeps (NewObject c parameters) = given_keeps (find_method here.tree true (constructor_reference c parameters)) (λ found e. operands_keep parameters (construct_keeps c found))
    instruction_keeps Return = return_keeps
    instruction_keeps _ = onward_keeps _

  -- whatever the running frame is at
  pub effect_keeps : IsStepping here s left → (frames : List Frame) → Keeps (effect_of here s frames)
  effect_keeps stepping [] = sticks
  effect_keeps stepping (f ∷ below) = given_keeps (instruction_at f) (λ i e. instruction_keeps stepping f below i)
