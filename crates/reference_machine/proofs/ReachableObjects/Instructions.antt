-- Each instruction keeps the frames and the state within a set of objects that is closed.
use Rattle.std.proofs.Common.{◌≡◌, ◌==◌, ℕ, ℤ, pos, negsuc, Bool, true, false, if◌then◌else◌, nat_le, List, [], ◌∷◌, ◌++◌, length, reverse, take, drop, replicate, Option, Some, None, Result, Ok, Err, is_some, slice_get, refl}
use Rattle.std.specs.Option.{option_map_or}
use Rattle.std.specs.Int.{w32, cast_unsigned}
use Rattle.cil_model.specs.declared.types.ClassName.{ClassName}
use Rattle.cil_model.specs.declared.types.DeclaredType.{DeclaredType}
use Rattle.cil_model.specs.declared.instructions.FieldReference.{FieldReference}
use Rattle.cil_model.specs.declared.instructions.BranchCondition.TheVariants as conditions
use Rattle.cil_model.specs.declared.instructions.ElementKind.TheVariants as kinds
use Rattle.cil_model.specs.declared.instructions.Instruction.{Instruction}
use Rattle.cil_model.specs.declared.instructions.Instruction.TheVariants.{NoOperation, LoadArgument, StoreArgument, LoadLocal, StoreLocal, Duplicate, Pop, Binary, Unary, Shift, Compare, ConvertInt32, ConvertInt64, Branch, Switch, LoadField, StoreField, LoadStaticField, StoreStaticField, NewArray, LoadLength, LoadElement, StoreElement, CastClass, IsInstance, Call, CallVirtual, NewObject, Return}
use Rattle.cil_model.specs.declared.trees.Method.{Method}
use Rattle.cil_model.specs.declared.limits.TheConstants.{MOST_THREADS}
use Rattle.cil_model.specs.declared.reports.Fault.{Fault}
use Rattle.cil_model.specs.declared.reports.Fault.TheVariants.{NullReference, IndexOutOfRange, ArrayTypeMismatch, InvalidCast, Overflow, OutOfMemory, TooManyThreads, StackOverflow, ArgumentNull, SynchronizationLock, ThreadState}
use Rattle.cil_model.specs.Declarations.{thread_name, run_method}
use Rattle.cil_model.specs.Chains.{find_field, find_method, is_thread_class}
use Rattle.cil_model.specs.Fields.{instance_fields, same_key}
use Rattle.cil_model.specs.Slots.{target}
use Rattle.cil_model.specs.Assignable.{is_reference}
use Rattle.cil_model.specs.Bodies.{at_index, constructor_reference, virtual_reference, reference_operands, code_of, lines_of, pc_of}
use Rattle.cil_model.specs.Stacks.{take_one, take_two, take_three}
use Rattle.cil_model.proofs.Lists.{none_is_some}
use Rattle.reference_machine.specs.Values.{ObjectName, Value, Int32, Null, Reference, zero_of, is_of_kind}
use Rattle.reference_machine.specs.Arithmetic.{binary_value, unary_value, shift_value, compare_values, branch_values, is_set, convert_32, convert_64, as_index, not_option}
use Rattle.reference_machine.specs.States.{Monitor, Free, Held, Contents, Array, HeapObject, Frame, State, entry_at, replaced_entry, field_value, with_field, object_at, with_object, class_of, monitor_of, is_live, array_at, with_element, next_name, with_birth, new_instance}
use Rattle.reference_machine.specs.Effects.{StepContext, Effect, Goes, Blocks, Raises, Sticks, when_some, unless_fault, pop_many, not_null, are_of_kinds, new_frame, after, onward, return_value}
use Rattle.reference_machine.specs.BuiltIn.{Action, Construct, Write, Enter, Exit, Start, Join, action_of, line_of, enter, exit, with_thread, begin, start, join, thread_object, act}
use Rattle.reference_machine.specs.Reachable.{constructed_value, values_of_contents}
use Rattle.reference_machine.specs.Steps.{key_of, store_at, execute, jump, branch_if, birth, new_array, in_range, element, load_element, store_element, may_hold, store_reference, cast, frame_for, is_too_deep, run_method as run_found, operands, method_for, run_virtual, construct, push_and_advance_value, return_from, to_label, switch_on}
use Rattle.reference_machine.proofs.ReachableObjects.Values.{IsWithin, AreWithin, element_within, index_within, take_within, drop_within, reverse_within, replaced_within, entry_within, zeroed_within, elements_within, binary_within, unary_within, shift_within, convert_32_within, convert_64_within, one_or_zero_within}
use Rattle.reference_machine.proofs.ReachableObjects.States.{IsFrameWithin, AreFramesWithin, IsClosed, after_within, new_frame_within, returned_within, left_within, field_within, array_within, closed_marks, closed_field, closed_element, closed_birth, newborn_within, closed_monitor, closed_statics, closed_printed, closed_thread_more}

-- an effect that continues with frames and a state that refer to objects of the set alone
pub data KeepsWithin (Inside : ℕ → Type 0) : Effect → Type 0 where
  goes : (fs : List Frame) (s' : State) → IsClosed Inside s' → AreFramesWithin Inside fs → KeepsWithin Inside (Goes fs s')
  blocks : KeepsWithin Inside Blocks
  raises : (x : Fault) → KeepsWithin Inside (Raises x)
  sticks : KeepsWithin Inside Sticks

module _ (Inside : ℕ → Type 0) where
  -- ---- what effects are put together from

  pub given_within : {X : Type 0} {go : X → Effect} (o : Option X) → ((x : X) → o ≡ Some x → KeepsWithin Inside (go x)) → KeepsWithin Inside (when_some o go)
  given_within None each = sticks
  given_within (Some x) each = each x refl

  or_within : {X : Type 0} {go : X → Effect} {d : Effect} (o : Option X) → ((x : X) → o ≡ Some x → KeepsWithin Inside (go x)) → KeepsWithin Inside d → KeepsWithin Inside (option_map_or go o d)
  or_within None each other = other
  or_within (Some x) each other = each x refl

  if_within : {x y : Effect} (b : Bool) → KeepsWithin Inside x → KeepsWithin Inside y → KeepsWithin Inside (if b then x else y)
  if_within true h k = h
  if_within false h k = k

  one_within : {go : Value → List Value → Effect} (vs : List Value) → AreWithin Inside vs → ((v : Value) (rest : List Value) → IsWithin Inside v → AreWithin Inside rest → KeepsWithin Inside (go v rest)) → KeepsWithin Inside (take_one Sticks vs go)
  one_within [] h each = sticks
  one_within (v ∷ rest) h each = each v rest h.0 h.1

  two_within : {go : Value → Value → List Value → Effect} (vs : List Value) → AreWithin Inside vs →
      ((v w : Value) (rest : List Value) → IsWithin Inside v → IsWithin Inside w → AreWithin Inside rest → KeepsWithin Inside (go v w rest)) → KeepsWithin Inside (take_two Sticks vs go)
  two_within (w ∷ v ∷ rest) h each = each v w rest h.1.0 h.0 h.1.1
  two_within _ h each = sticks

  three_within : {go : Value → Value → Value → List Value → Effect} (vs : List Value) → AreWithin Inside vs →
      ((u v w : Value) (rest : List Value) → IsWithin Inside u → IsWithin Inside v → IsWithin Inside w → AreWithin Inside rest → KeepsWithin Inside (go u v w rest)) → KeepsWithin Inside (take_three Sticks vs go)
  three_within (w ∷ v ∷ u ∷ rest) h each = each u v w rest h.1.1.0 h.1.0 h.0 h.1.1.1
  three_within _ h each = sticks

  many_within : {go : List Value → List Value → Effect} (n : ℕ) (vs : List Value) → AreWithin Inside vs → ((arguments rest : List Value) → AreWithin Inside arguments → AreWithin Inside rest → KeepsWithin Inside (go arguments rest)) →
      KeepsWithin Inside (pop_many n vs go)
  many_within n vs h each = if_within (nat_le n (length vs)) (each (reverse (take n vs)) (drop n vs) (reverse_within Inside (take n vs) (take_within Inside n vs h)) (drop_within Inside n vs h)) sticks

  null_within : {go : ObjectName → Effect} (v : Value) (x : Fault) → IsWithin Inside v → ((n : ObjectName) → IsWithin Inside (Reference n) → KeepsWithin Inside (go n)) → KeepsWithin Inside (not_null v x go)
  null_within Null x h each = raises x
  null_within (Reference n) x h each = each n h
  null_within _ x h each = sticks

  fault_within : {X : Type 0} {go : X → Effect} (r : Result X Fault) → ((x : X) → r ≡ Ok x → KeepsWithin Inside (go x)) → KeepsWithin Inside (unless_fault r go)
  fault_within (Ok x) each = each x refl
  fault_within (Err x) each = raises x

-- a thread that runs the first of its frames, in a state; all of which refer to objects of the set alone
pub record IsRunningWithin (Inside : ℕ → Type 0) (s : State) (f : Frame) (below : List Frame) : Type 0 where
  pub closed : IsClosed Inside s
  pub frame : IsFrameWithin Inside f
  pub waiting : AreFramesWithin Inside below

module _ (Inside : ℕ → Type 0) (here : StepContext) (s : State) (f : Frame) (below : List Frame) (running : IsRunningWithin Inside s f below) where
  -- ---- what an instruction continues with

  -- in another state
  onward_within : (s' : State) (rest : List Value) → IsClosed Inside s' → AreWithin Inside rest → KeepsWithin Inside (onward f below s' rest)
  onward_within s' rest h k = goes (after f rest ∷ below) s' h (after_within Inside f rest running.frame k, running.waiting)

  -- in the same
  next_within : (rest : List Value) → AreWithin Inside rest → KeepsWithin Inside (onward f below s rest)
  next_within rest k = onward_within s rest running.closed k

  -- ---- the built-in members

  enter_within : (n : ObjectName) (rest : List Value) (m : Monitor) → IsWithin Inside (Reference n) → AreWithin Inside rest → KeepsWithin Inside (enter here s f below n rest m)
  enter_within n rest Free h k = onward_within _ rest (closed_monitor Inside s running.closed n _ h) k
  enter_within n rest (Held owner count) h k = if_within Inside (owner == here.thread) (onward_within _ rest (closed_monitor Inside s running.closed n _ h) k) blocks

  exit_within : (n : ObjectName) (rest : List Value) (m : Monitor) → IsWithin Inside (Reference n) → AreWithin Inside rest → KeepsWithin Inside (exit here s f below n rest m)
  exit_within n rest Free h k = raises SynchronizationLock
  exit_within n rest (Held owner count) h k = if_within Inside (owner == here.thread) (onward_within _ rest (closed_monitor Inside s running.closed n _ h) k) (raises SynchronizationLock)

  -- one thread more, which has a reference to its object
  started_closed : (n : ObjectName) (o : HeapObject) (first : Frame) → IsWithin Inside (Reference n) → object_at s n ≡ Some o → IsFrameWithin Inside first → IsClosed Inside (with_thread here s f below n o first)
  started_closed n o first h there frame =
      let marked : State = with_object s n (record o { thread = Some (length s.threads) }) in
      let noted : IsClosed Inside marked = closed_marks Inside s running.closed n o (record o { thread = Some (length s.threads) }) h there refl in
      let threads : IsClosed Inside (record s { threads = s.threads ++ record { frames = first ∷ []; steps_left = here.limits.budget; ended = None } ∷ [] }) =
      closed_thread_more Inside s running.closed (record { frames = first ∷ []; steps_left = here.limits.budget; ended = None }) (λ live. (frame, tt)) in
      record { unborn = noted.unborn; holds = record { objects = noted.holds.objects; statics = noted.holds.statics; threads = threads.holds.threads } }

  begin_within : (n : ObjectName) (rest : List Value) (o : HeapObject) (run : Option (ClassName × Method)) → IsWithin Inside (Reference n) → AreWithin Inside rest → object_at s n ≡ Some o → KeepsWithin Inside (begin here s f below n rest o run)
  begin_within n rest o run h k there = given_within Inside run (λ found e. given_within Inside (code_of found.1.kind) (λ code e'.
      let first : Frame = new_frame found.0 found.1 code (Reference n ∷ []) None in
      onward_within (with_thread here s f below n o first) rest (started_closed n o first h there (new_frame_within Inside found.0 found.1 code (Reference n ∷ []) None (h, tt) tt)) k))

  start_within : (n : ObjectName) (rest : List Value) (o : HeapObject) → IsWithin Inside (Reference n) → AreWithin Inside rest → object_at s n ≡ Some o → KeepsWithin Inside (start here s f below n rest o)
  start_within n rest o h k there =
      if_within Inside (is_some o.thread) (raises ThreadState) (
      if_within Inside (nat_le MOST_THREADS (length s.threads)) (raises TooManyThreads) (
      given_within Inside (class_of s n) (λ c e. begin_within n rest o (target here.tree c thread_name run_method) h k there)))

  join_within : (rest : List Value) (o : HeapObject) → AreWithin Inside rest → KeepsWithin Inside (join here s f below rest o)
  join_within rest o k = or_within Inside o.thread (λ t e. if_within Inside (is_live s t) blocks (next_within rest k)) (raises ThreadState)

  thread_within : {go : HeapObject → Effect} (n : ObjectName) → ((o : HeapObject) → object_at s n ≡ Some o → KeepsWithin Inside (go o)) → KeepsWithin Inside (thread_object here s f below n go)
  thread_within n each = given_within Inside (class_of s n) (λ c e. if_within Inside (is_thread_class here.tree c) (given_within Inside (object_at s n) each) sticks)

  act_within : (a : Action) (arguments rest : List Value) → AreWithin Inside arguments → AreWithin Inside rest → KeepsWithin Inside (act here s f below a arguments rest)
  act_within Construct (v ∷ []) rest h k = next_within rest k
  act_within Write (v ∷ []) rest h k = given_within Inside (line_of v) (λ line e. onward_within (record s { printed = s.printed ++ line }) rest (closed_printed Inside s running.closed (s.printed ++ line)) k)
  act_within Enter (v ∷ []) rest h k = null_within Inside v ArgumentNull h.0 (λ n is. given_within Inside (monitor_of s n) (λ m e. enter_within n rest m is k))
  act_within Exit (v ∷ []) rest h k = null_within Inside v ArgumentNull h.0 (λ n is. given_within Inside (monitor_of s n) (λ m e. exit_within n rest m is k))
  act_within Start (v ∷ []) rest h k = null_within Inside v NullReference h.0 (λ n is. thread_within n (λ o e. start_within n rest o is k e))
  act_within Join (v ∷ []) rest h k = null_within Inside v NullReference h.0 (λ n is. thread_within n (λ o e. join_within rest o k))
  act_within _ _ rest h k = sticks

  -- ---- branches

  jump_within : (label : List ℕ) (stack : List Value) → AreWithin Inside stack → KeepsWithin Inside (jump here s f below label stack)
  jump_within label stack k = given_within Inside (pc_of label (lines_of f.method)) (λ pc e.
      goes _ s running.closed (record { arguments = running.frame.arguments; locals = running.frame.locals; stack = k; constructed = running.frame.constructed }, running.waiting))

  branch_within : (b : Bool) (label : List ℕ) (stack : List Value) → AreWithin Inside stack → KeepsWithin Inside (branch_if here s f below b label stack)
  branch_within true label stack k = jump_within label stack k
  branch_within false label stack k = next_within stack k

  label_within : (o : Option (List ℕ)) (rest : List Value) → AreWithin Inside rest → KeepsWithin Inside (to_label here s f below o rest)
  label_within None rest k = next_within rest k
  label_within (Some label) rest k = jump_within label rest k

  switch_within : (labels : List (List ℕ)) (v : Value) (rest : List Value) → AreWithin Inside rest → KeepsWithin Inside (switch_on here s f below labels v rest)
  switch_within labels (Int32 z) rest k = label_within (slice_get labels (cast_unsigned w32 z)) rest k
  switch_within labels _ rest k = sticks

  -- ---- births

  birth_within : (contents : Contents) (go : ObjectName → State → Effect) → AreWithin Inside (values_of_contents contents) →
      (IsClosed Inside (with_birth s contents) → IsWithin Inside (Reference (next_name s)) → KeepsWithin Inside (go (next_name s) (with_birth s contents))) → KeepsWithin Inside (birth here s f below contents go)
  birth_within contents go h each = if_within Inside here.is_refused (raises OutOfMemory) (each (closed_birth Inside s running.closed contents h) (newborn_within Inside s running.closed))

  new_array_within : (t : DeclaredType) (z : ℤ) (rest : List Value) → AreWithin Inside rest → KeepsWithin Inside (new_array here s f below t z rest)
  new_array_within t (negsuc n) rest k = raises Overflow
  new_array_within t (pos n) rest k = birth_within (Array t (replicate n (zero_of t))) (λ name s'. onward f below s' (Reference name ∷ rest)) (elements_within Inside n t) (λ closed new. onward_within _ _ closed (new, k))

  -- ---- elements

  range_within : {go : ℕ → Value → Effect} (at : ℕ → Option Value) (z : ℤ) → ((n : ℕ) (v : Value) → at n ≡ Some v → KeepsWithin Inside (go n v)) → KeepsWithin Inside (in_range here s f below at go z)
  range_within at (negsuc n) each = raises IndexOutOfRange
  range_within at (pos n) each = or_within Inside (at n) (λ v e. each n v e) (raises IndexOutOfRange)

  elem_within : {go : ObjectName → DeclaredType → ℕ → Value → Effect} (test : DeclaredType → Bool) (array index : Value) → IsWithin Inside array →
      ((n : ObjectName) (t : DeclaredType) (i : ℕ) (v : Value) → IsWithin Inside (Reference n) → IsWithin Inside v → KeepsWithin Inside (go n t i v)) → KeepsWithin Inside (element here s f below test array index go)
  elem_within test array index h each =
      null_within Inside array NullReference h (λ n is. given_within Inside (as_index index) (λ i e. given_within Inside (array_at s n) (λ held e'.
      if_within Inside (test held.0) (range_within (slice_get held.1) i (λ j v e''. each n held.0 j v is (element_within Inside held.1 j v (array_within Inside s running.closed n held is e') e''))) sticks)))

  load_element_within : (test : DeclaredType → Bool) → KeepsWithin Inside (load_element here s f below test)
  load_element_within test = two_within Inside f.stack running.frame.stack (λ array index rest h h' k. elem_within test array index h (λ n t i v is value. next_within (v ∷ rest) (value, k)))

  put_within : (n : ObjectName) (i : ℕ) (v : Value) (rest : List Value) → IsWithin Inside (Reference n) → IsWithin Inside v → AreWithin Inside rest → KeepsWithin Inside (when_some (with_element s n i v) (λ s'. onward f below s' rest))
  put_within n i v rest is value k = given_within Inside (with_element s n i v) (λ s' e. onward_within s' rest (closed_element Inside s running.closed n i v s' is value e) k)

  store_element_within : (test : DeclaredType → Bool) → KeepsWithin Inside (store_element here s f below test)
  store_element_within test = three_within Inside f.stack running.frame.stack (λ array index v rest h h' value k. elem_within test array index h (λ n t i old is was. put_within n i v rest is value k))

  store_reference_within : KeepsWithin Inside (store_reference here s f below)
  store_reference_within = three_within Inside f.stack running.frame.stack (λ array index v rest h h' value k. elem_within is_reference array index h (λ n t i old is was.
      given_within Inside (may_hold here s f below t v) (λ holds e. if_within Inside holds (put_within n i v rest is value k) (raises ArrayTypeMismatch))))

  cast_within : {otherwise : List Value → Effect} (t : DeclaredType) → ((rest : List Value) → AreWithin Inside rest → KeepsWithin Inside (otherwise rest)) → KeepsWithin Inside (cast here s f below t otherwise)
  cast_within t each = one_within Inside f.stack running.frame.stack (λ v rest h k. given_within Inside (may_hold here s f below t v) (λ holds e. if_within Inside holds (next_within (v ∷ rest) (h, k)) (each rest k)))

  -- ---- calls

  frame_within : (c : ClassName) (m : Method) (arguments : List Value) (constructed : Option ObjectName) (s' : State) (rest : List Value) → AreWithin Inside arguments → AreWithin Inside (constructed_value constructed) → IsClosed Inside s' → AreWithin Inside rest →
      KeepsWithin Inside (frame_for here s f below c m arguments constructed s' rest)
  frame_within c m arguments constructed s' rest h new closed k = given_within Inside (code_of m.kind) (λ code e.
      goes _ s' closed (new_frame_within Inside c m code arguments constructed h new, (after_within Inside f rest running.frame k, running.waiting)))

  run_within : (found : ClassName × Method) (arguments rest : List Value) → AreWithin Inside arguments → AreWithin Inside rest → KeepsWithin Inside (run_found here s f below found arguments rest)
  run_within found arguments rest h k =
      or_within Inside (action_of found.0 found.1) (λ a e. act_within a arguments rest h k)
      (if_within Inside (is_too_deep here s f below) (raises StackOverflow) (frame_within found.0 found.1 arguments None s rest h tt running.closed k))

  operands_within : {go : List Value → List Value → Effect} (types : List DeclaredType) → ((arguments rest : List Value) → AreWithin Inside arguments → AreWithin Inside rest → KeepsWithin Inside (go arguments rest)) →
      KeepsWithin Inside (operands here s f below types go)
  operands_within types each = many_within Inside (length types) f.stack running.frame.stack (λ arguments rest h k. if_within Inside (are_of_kinds types arguments) (each arguments rest h k) sticks)

  virtual_within : (found : ClassName × Method) (arguments rest : List Value) → AreWithin Inside arguments → AreWithin Inside rest → KeepsWithin Inside (run_virtual here s f below found arguments rest)
  virtual_within found [] rest h k = sticks
  virtual_within found (this ∷ arguments) rest h k =
      null_within Inside this NullReference h.0 (λ n is. given_within Inside (method_for here s f below n found) (λ chosen e. run_within chosen (this ∷ arguments) rest h k))

  construct_within : (c : ClassName) (found : ClassName × Method) (arguments rest : List Value) → AreWithin Inside arguments → AreWithin Inside rest → KeepsWithin Inside (construct here s f below c found arguments rest)
  construct_within c found arguments rest h k =
      let zeros : AreWithin Inside (values_of_contents (new_instance here.tree c)) = zeroed_within Inside (instance_fields here.tree c) in
      if_within Inside (is_some (action_of found.0 found.1)) (birth_within (new_instance here.tree c) (λ name s'. onward f below s' (Reference name ∷ rest)) zeros (λ closed new. onward_within _ _ closed (new, k))) (
      if_within Inside (is_too_deep here s f below) (raises StackOverflow) (
      birth_within (new_instance here.tree c) (λ name s'. frame_for here s f below found.0 found.1 (Reference name ∷ arguments) (Some name) s' rest) zeros (λ closed new.
      frame_within found.0 found.1 (Reference (next_name s) ∷ arguments) (Some (next_name s)) (with_birth s (new_instance here.tree c)) rest (new, h) (new, tt) closed k)))

  push_and_advance_value_within : (t : DeclaredType) → KeepsWithin Inside (push_and_advance_value here s f below t)
  push_and_advance_value_within t = one_within Inside f.stack running.frame.stack (λ v rest h k. if_within Inside (is_of_kind t v) (goes _ s running.closed (returned_within Inside v below h running.waiting)) sticks)

  return_within : KeepsWithin Inside (return_from here s f below)
  return_within = by_constructed f.constructed running.frame.constructed
    where
      by_constructed : (o : Option ObjectName) → AreWithin Inside (constructed_value o) → KeepsWithin Inside (option_map_or (λ name. Goes (return_value (Some (Reference name)) below) s) o (option_map_or (push_and_advance_value here s f below) f.method.signature.return_type (Goes (return_value None below) s)))
      by_constructed None h = or_within Inside f.method.signature.return_type (λ t e. push_and_advance_value_within t) (goes _ s running.closed (left_within Inside below running.waiting))
      by_constructed (Some name) h = goes _ s running.closed (returned_within Inside (Reference name) below h.0 running.waiting)

  -- ---- loads and stores

  -- another argument, or another local
  stored_within : (z : ℤ) (v : Value) (vs vs' : List Value) → AreWithin Inside vs → IsWithin Inside v → store_at here s f below z v vs ≡ Some vs' → AreWithin Inside vs'
  stored_within (pos n) v vs vs' h k e = replaced_within Inside vs vs' n v h k e
  stored_within (negsuc n) v vs vs' h k e = none_is_some vs' e

  store_argument_within : (z : ℤ) → KeepsWithin Inside (execute here s f below (StoreArgument z))
  store_argument_within z = one_within Inside f.stack running.frame.stack (λ v rest h k. given_within Inside (store_at here s f below z v f.arguments) (λ arguments e.
      goes _ s running.closed (record { arguments = stored_within z v f.arguments arguments running.frame.arguments h e; locals = running.frame.locals; stack = k; constructed = running.frame.constructed }, running.waiting)))

  store_local_within : (z : ℤ) → KeepsWithin Inside (execute here s f below (StoreLocal z))
  store_local_within z = one_within Inside f.stack running.frame.stack (λ v rest h k. given_within Inside (store_at here s f below z v f.locals) (λ locals e.
      goes _ s running.closed (record { arguments = running.frame.arguments; locals = stored_within z v f.locals locals running.frame.locals h e; stack = k; constructed = running.frame.constructed }, running.waiting)))

  load_field_within : (r : FieldReference) → KeepsWithin Inside (execute here s f below (LoadField r))
  load_field_within r = one_within Inside f.stack running.frame.stack (λ object rest h k. given_within Inside (find_field here.tree false r) (λ found e.
      null_within Inside object NullReference h (λ n is. given_within Inside (field_value s n (key_of found)) (λ v e'. next_within (v ∷ rest) (field_within Inside s running.closed n (key_of found) v is e', k)))))

  store_field_within : (r : FieldReference) → KeepsWithin Inside (execute here s f below (StoreField r))
  store_field_within r = two_within Inside f.stack running.frame.stack (λ object v rest h value k. given_within Inside (find_field here.tree false r) (λ found e.
      null_within Inside object NullReference h (λ n is. given_within Inside (with_field s n (key_of found) v) (λ s' e'. onward_within s' rest (closed_field Inside s running.closed n (key_of found) v s' is value e') k))))

  load_static_within : (r : FieldReference) → KeepsWithin Inside (execute here s f below (LoadStaticField r))
  load_static_within r = given_within Inside (find_field here.tree true r) (λ found e. given_within Inside (entry_at same_key (key_of found) s.statics) (λ v e'.
      next_within (v ∷ f.stack) (entry_within Inside (key_of found) s.statics v running.closed.holds.statics e', running.frame.stack)))

  store_static_within : (r : FieldReference) → KeepsWithin Inside (execute here s f below (StoreStaticField r))
  store_static_within r = one_within Inside f.stack running.frame.stack (λ v rest h k. given_within Inside (find_field here.tree true r) (λ found e.
      given_within Inside (replaced_entry (key_of found) v s.statics) (λ statics e'. onward_within (record s { statics = statics }) rest (closed_statics Inside s running.closed (key_of found) v statics h e') k)))

  -- ---- one instruction

  pub instruction_within : (i : Instruction) → KeepsWithin Inside (execute here s f below i)
  instruction_within NoOperation = next_within f.stack running.frame.stack
  instruction_within (LoadArgument n) = given_within Inside (at_index f.arguments n) (λ v e. next_within (v ∷ f.stack) (index_within Inside f.arguments n v running.frame.arguments e, running.frame.stack))
  instruction_within (LoadLocal n) = given_within Inside (at_index f.locals n) (λ v e. next_within (v ∷ f.stack) (index_within Inside f.locals n v running.frame.locals e, running.frame.stack))
  instruction_within (StoreArgument n) = store_argument_within n
  instruction_within (StoreLocal n) = store_local_within n
  instruction_within Duplicate = one_within Inside f.stack running.frame.stack (λ v rest h k. next_within (v ∷ v ∷ rest) (h, (h, k)))
  instruction_within Pop = one_within Inside f.stack running.frame.stack (λ v rest h k. next_within rest k)
  instruction_within (Binary op) = two_within Inside f.stack running.frame.stack (λ v w rest h h' k. given_within Inside (binary_value op v w) (λ result e.
      fault_within Inside result (λ u e'. next_within (u ∷ rest) (binary_within Inside op v w result u e e', k))))
  instruction_within (Unary op) = one_within Inside f.stack running.frame.stack (λ v rest h k. given_within Inside (unary_value op v) (λ u e. next_within (u ∷ rest) (unary_within Inside op v u e, k)))
  instruction_within (Shift op) = two_within Inside f.stack running.frame.stack (λ v amount rest h h' k. given_within Inside (shift_value op v amount) (λ u e. next_within (u ∷ rest) (shift_within Inside op v amount u e, k)))
  instruction_within (Compare op) = two_within Inside f.stack running.frame.stack (λ v w rest h h' k. given_within Inside (compare_values op v w) (λ holds e. next_within _ (one_or_zero_within Inside holds, k)))
  instruction_within ConvertInt32 = one_within Inside f.stack running.frame.stack (λ v rest h k. given_within Inside (convert_32 v) (λ u e. next_within (u ∷ rest) (convert_32_within Inside v u e, k)))
  instruction_within ConvertInt64 = one_within Inside f.stack running.frame.stack (λ v rest h k. given_within Inside (convert_64 v) (λ u e. next_within (u ∷ rest) (convert_64_within Inside v u e, k)))
  instruction_within (Branch conditions.Always label) = jump_within label f.stack running.frame.stack
  instruction_within (Branch conditions.IfTrue label) = one_within Inside f.stack running.frame.stack (λ v rest h k. given_within Inside (is_set v) (λ holds e. branch_within holds label rest k))
  instruction_within (Branch conditions.IfFalse label) = one_within Inside f.stack running.frame.stack (λ v rest h k. given_within Inside (not_option (is_set v)) (λ holds e. branch_within holds label rest k))
  instruction_within (Branch (conditions.Compare op) label) = two_within Inside f.stack running.frame.stack (λ v w rest h h' k. given_within Inside (branch_values op v w) (λ holds e. branch_within holds label rest k))
  instruction_within (Switch labels) = one_within Inside f.stack running.frame.stack (λ v rest h k. switch_within labels v rest k)
  instruction_within (LoadField r) = load_field_within r
  instruction_within (StoreField r) = store_field_within r
  instruction_within (LoadStaticField r) = load_static_within r
  instruction_within (StoreStaticField r) = store_static_within r
  instruction_within (NewArray t) = one_within Inside f.stack running.frame.stack (λ v rest h k. given_within Inside (as_index v) (λ z e. new_array_within t z rest k))
  instruction_within LoadLength = one_within Inside f.stack running.frame.stack (λ array rest h k. null_within Inside array NullReference h (λ n is. given_within Inside (array_at s n) (λ held e. next_within _ (tt, k))))
  instruction_within (LoadElement _) = load_element_within _
  instruction_within (StoreElement kinds.Reference) = store_reference_within
  instruction_within (StoreElement _) = store_element_within _
  instruction_within (CastClass t) = cast_within t (λ rest k. raises InvalidCast)
  instruction_within (IsInstance t) = cast_within t (λ rest k. next_within (Null ∷ rest) (tt, k))
  instruction_within (Call is_instance r) = given_within Inside (find_method here.tree is_instance r) (λ found e. operands_within (reference_operands is_instance r) (λ arguments rest h k. run_within found arguments rest h k))
  instruction_within (CallVirtual owner name signature) = given_within Inside (find_method here.tree true (virtual_reference owner name signature)) (λ found e.
      operands_within (reference_operands true (virtual_reference owner name signature)) (λ arguments rest h k. virtual_within found arguments rest h k))
  instruction_within (NewObject c parameters) = given_within Inside (find_method here.tree true (constructor_reference c parameters)) (λ found e.
      operands_within parameters (λ arguments rest h k. construct_within c found arguments rest h k))
  instruction_within Return = return_within
  instruction_within _ = next_within _ (tt, running.frame.stack)
