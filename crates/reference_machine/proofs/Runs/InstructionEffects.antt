-- What an instruction may do: its change of the state is of a kind, it blocks where its thread waits, and it raises listed faults alone; and it takes
-- nothing back.
use Rattle.std.proofs.Common.{◌≡◌, ◌==◌, ◌-◌, ℕ, zero, suc, ℤ, pos, negsuc, Bool, true, false, if◌then◌else◌, nat_le, List, [], ◌∷◌, length, reverse, take, drop, replicate, Option, Some, None, Result, Ok, Err, is_some, slice_get, Contains, refl, subst, lit<, ◌⊎◌, inl, inr, sym, ap, ◌∙◌, ◌≤◌, ◌+◌, ◌++◌, option_and_then, arith}
use Rattle.std.specs.Option.{option_map_or}
use Rattle.std.proofs.lemmas.Bool.Decides.{nat_tests}
use Rattle.std.proofs.lemmas.List.{length-reverse, length-take-le}
use Rattle.std.proofs.lemmas.Option.{option_and_then_some, same_Some}
use Rattle.cil_model.specs.declared.types.ClassName.{ClassName}
use Rattle.cil_model.specs.declared.types.DeclaredType.{DeclaredType}
use Rattle.cil_model.specs.declared.instructions.BranchCondition.TheVariants as conditions
use Rattle.cil_model.specs.declared.instructions.ElementKind.TheVariants as kinds
use Rattle.cil_model.specs.declared.instructions.Instruction.{Instruction}
use Rattle.cil_model.specs.declared.instructions.Instruction.TheVariants.{NoOperation, LoadArgument, StoreArgument, LoadLocal, StoreLocal, Duplicate, Pop, Binary, Unary, Shift, Compare, ConvertInt32, ConvertInt64, Branch, Switch, LoadField, StoreField, LoadStaticField, StoreStaticField, NewArray, LoadLength, LoadElement, StoreElement, CastClass, IsInstance, Call, CallVirtual, NewObject, Return}
use Rattle.cil_model.specs.declared.trees.Method.{Method}
use Rattle.cil_model.specs.declared.trees.Tree.{Tree}
use Rattle.cil_model.specs.declared.limits.Limits.{Limits}
use Rattle.cil_model.specs.declared.limits.TheConstants.{MOST_THREADS}
use Rattle.cil_model.specs.declared.reports.Fault.{Fault}
use Rattle.cil_model.specs.declared.reports.Fault.TheVariants.{NullReference, IndexOutOfRange, ArrayTypeMismatch, InvalidCast, Overflow, OutOfMemory, TooManyThreads, StackOverflow, ArgumentNull, SynchronizationLock, ThreadState}
use Rattle.cil_model.specs.declared.reports.Report.{Report}
use Rattle.cil_model.specs.declared.reports.Report.TheVariants.{Ran, Blocked, Ended, Absent}
use Rattle.cil_model.specs.declared.reports.End.{End}
use Rattle.cil_model.specs.declared.reports.End.TheVariants.{Done, Budget, Fault as ByFault}
use Rattle.std.specs.Int.{w32, cast_unsigned}
use Rattle.cil_model.specs.Declarations.{thread_name, run_method}
use Rattle.cil_model.specs.Chains.{find_field, find_method, is_thread_class, is_virtual}
use Rattle.cil_model.specs.Fields.{FieldKey, same_key}
use Rattle.cil_model.specs.Slots.{target}
use Rattle.cil_model.specs.Assignable.{is_reference}
use Rattle.cil_model.specs.Bodies.{at_index, constructor_reference, virtual_reference, reference_operands, code_of, lines_of, pc_of}
use Rattle.reference_machine.specs.Values.{ObjectName, Value, Int32, Null, Reference, zero_of, is_of_kind}
use Rattle.reference_machine.specs.Arithmetic.{binary_value, unary_value, shift_value, compare_values, branch_values, is_set, convert_32, convert_64, as_index, not_option}
use Rattle.reference_machine.specs.States.{Monitor, Free, Held, Contents, Array, HeapObject, Frame, Thread, State, is_live_thread, entry_at, replaced_entry, field_value, with_field, object_at, with_object, class_of, monitor_of, with_monitor, is_live, array_at, with_element, next_name, with_birth, new_instance}
use Rattle.cil_model.specs.Stacks.{take_one, take_two, take_three}
use Rattle.reference_machine.specs.Effects.{StepContext, Effect, Goes, Blocks, Raises, Sticks, when_some, unless_fault, not_null, are_of_kinds, new_frame, after, onward}
use Rattle.reference_machine.specs.BuiltIn.{Action, Construct, Write, Enter, Exit, Start, Join, action_of, line_of, enter, exit, with_thread, begin, start, join, thread_object, act}
use Rattle.reference_machine.specs.Steps.{Answers, Stuck, instruction_at, effect_of, with_thread_at, ended_as, continues, charge, step_of, step, key_of, store_at, execute, jump, branch_if, birth, new_array, in_range, element, load_element, store_element, may_hold, store_reference, cast, frame_for, is_too_deep, run_method as run_found, operands, method_for, run_virtual, construct, return_from, to_label, switch_on}
use Rattle.reference_machine.specs.Faults.{faults_of_action, MayRaise, itself, member}
use Rattle.reference_machine.specs.Growth.{shapes, Follows}
use Rattle.reference_machine.specs.Waits.{Wait, ForMonitor, ForEnd, called_action, action_found, end_awaited, held_by_another, wait_by}
use Rattle.reference_machine.proofs.Programs.ActingMembers.{virtual_target_does_not_act}
use Rattle.reference_machine.proofs.Programs.MethodTypings.{IsDeclared, found_is_declared}
use Rattle.reference_machine.proofs.Runs.IntegerFaults.{operation_faults}
use Rattle.reference_machine.proofs.Runs.StateChanges.{continues_itself, follows_itself, follows_object_at, follows_birth, follows_field, follows_statics, follows_element, follows_monitor}

-- an effect that changes the state in a way of a kind, blocks for a reason, and raises faults of a kind alone
pub data Allowed (G : State → Type 0) (B : Type 0) (F : Fault → Type 0) : Effect → Type 0 where
  goes : (fs : List Frame) (s' : State) → G s' → Allowed G B F (Goes fs s')
  blocks : B → Allowed G B F Blocks
  raises : (x : Fault) → F x → Allowed G B F (Raises x)
  sticks : Allowed G B F Sticks

-- where it blocks there is the reason, and where it raises a fault that is of the kind
pub allowed_blocks : {G : State → Type 0} {B : Type 0} {F : Fault → Type 0} (e : Effect) → Allowed G B F e → e ≡ Blocks → B
allowed_blocks Blocks (blocks reason) k = reason
allowed_blocks _ a k = absurd cc

pub allowed_raises : {G : State → Type 0} {B : Type 0} {F : Fault → Type 0} (e : Effect) (x : Fault) → Allowed G B F e → e ≡ Raises x → F x
allowed_raises {F = F} (Raises y) x (raises _ h) k = let same : y ≡ x = cc in subst F same h
allowed_raises _ x a k = absurd cc

-- faults of any kind
abbrev pub AnyFault : Fault → Type 0
AnyFault x = Unit {0}

-- a kind of change that each change of a state by an instruction is of
pub record IsOfSteps (here : StepContext) (s : State) (G : State → Type 0) : Type 0 where
  pub stays : G s
  pub prints : (line : List ℕ) → G (record s { printed = s.printed ++ line })
  pub bears : (contents : Contents) → G (with_birth s contents)
  pub stores : (n : ObjectName) (k : FieldKey) (v : Value) (s' : State) → with_field s n k v ≡ Some s' → G s'
  pub stores_static : (k : FieldKey) (v : Value) (statics : List (FieldKey × Value)) → replaced_entry k v s.statics ≡ Some statics → G (record s { statics = statics })
  pub stores_element : (n : ObjectName) (i : ℕ) (v : Value) (s' : State) → with_element s n i v ≡ Some s' → G s'
  pub enters : (n : ObjectName) → monitor_of s n ≡ Some Free → G (with_monitor s n (Held here.thread 1))
  pub enters_again : (n : ObjectName) (owner count : ℕ) → monitor_of s n ≡ Some (Held owner count) → (owner == here.thread) ≡ true → G (with_monitor s n (Held here.thread (count + 1)))
  pub exits : (n : ObjectName) (owner count : ℕ) → monitor_of s n ≡ Some (Held owner count) → (owner == here.thread) ≡ true → G (with_monitor s n (if nat_le count 1 then Free else Held here.thread (count - 1)))
  pub starts : (f : Frame) (below : List Frame) (n : ObjectName) (o : HeapObject) (first : Frame) → object_at s n ≡ Some o → o.thread ≡ None → G (with_thread here s f below n o first)

-- ---- what effects are put together from

module _ {G : State → Type 0} {B : Type 0} {F : Fault → Type 0} where
  -- with what is there
  pub given_ok : {X : Type 0} {go : X → Effect} (o : Option X) → ((x : X) → o ≡ Some x → Allowed G B F (go x)) → Allowed G B F (when_some o go)
  given_ok None each = sticks
  given_ok (Some x) each = each x refl

  -- with what is there, or with something else
  or_ok : {X : Type 0} {go : X → Effect} {other : Effect} (o : Option X) → ((x : X) → o ≡ Some x → Allowed G B F (go x)) → Allowed G B F other → Allowed G B F (option_map_or go o other)
  or_ok None each h = h
  or_ok (Some x) each h = each x refl

  -- one or the other
  if_ok : {x y : Effect} (b : Bool) → (b ≡ true → Allowed G B F x) → (b ≡ false → Allowed G B F y) → Allowed G B F (if b then x else y)
  if_ok true h k = h refl
  if_ok false h k = k refl

  -- with one, two or three operands
  pub one_ok : {go : Value → List Value → Effect} (vs : List Value) → ((v : Value) (rest : List Value) → Allowed G B F (go v rest)) → Allowed G B F (take_one Sticks vs go)
  one_ok [] each = sticks
  one_ok (v ∷ rest) each = each v rest

  two_ok : {go : Value → Value → List Value → Effect} (vs : List Value) → ((v w : Value) (rest : List Value) → Allowed G B F (go v w rest)) → Allowed G B F (take_two Sticks vs go)
  two_ok (w ∷ v ∷ rest) each = each v w rest
  two_ok _ each = sticks

  three_ok : {go : Value → Value → Value → List Value → Effect} (vs : List Value) → ((u v w : Value) (rest : List Value) → Allowed G B F (go u v w rest)) → Allowed G B F (take_three Sticks vs go)
  three_ok (w ∷ v ∷ u ∷ rest) each = each u v w rest
  three_ok _ each = sticks

  -- with an object
  null_ok : {go : ObjectName → Effect} (v : Value) (x : Fault) → F x → ((n : ObjectName) → v ≡ Reference n → Allowed G B F (go n)) → Allowed G B F (not_null v x go)
  null_ok Null x h each = raises x h
  null_ok (Reference n) x h each = each n refl
  null_ok _ x h each = sticks

  -- with a result, or by its fault
  fault_ok : {X : Type 0} {go : X → Effect} (r : Result X Fault) → ((x : Fault) → r ≡ Err x → F x) → ((x : X) → Allowed G B F (go x)) → Allowed G B F (unless_fault r go)
  fault_ok (Ok x) may each = each x
  fault_ok (Err x) may each = raises x (may x refl)

-- where one value is taken, it is the topmost
top_taken : {X : Type 0} (n : ℕ) (xs : List X) → nat_le n (length xs) ≡ true → (x : X) → reverse (take n xs) ≡ x ∷ [] → xs ≡ x ∷ drop n xs
top_taken {X = X} n xs enough x is = by_count n xs one is
  where
    one : n ≡ 1
    one =
        let within : n ≤ length xs = grind (arith, nat_tests, enough) in
        sym (length-take-le n xs within) ∙ sym (length-reverse (take n xs)) ∙ ap length is

    by_count : (m : ℕ) (ys : List X) → m ≡ 1 → reverse (take m ys) ≡ x ∷ [] → ys ≡ x ∷ drop m ys
    by_count (suc zero) [] e h = absurd cc
    by_count (suc zero) (y ∷ ys) e h =
        let same : y ≡ x = cc in
        ap (λ z. z ∷ ys) same
    by_count _ ys e h = absurd (omega (arith, e))

-- what an action waits for on an operand is a reason to block
abbrev Waits : StepContext → State → Type 0 → Action → Value → Type 0
Waits here s B a v = (w : Wait) → wait_by s here.thread a (v ∷ []) ≡ Some w → B

-- and so is what the member that an instruction calls waits for
abbrev pub Waiting : StepContext → State → Frame → Type 0 → Instruction → Type 0
Waiting here s f B i = (a : Action) → called_action here.tree i ≡ Some a → (v : Value) (rest : List Value) → f.stack ≡ v ∷ rest → Waits here s B a v

module _ {G : State → Type 0} {B : Type 0} (here : StepContext) (s : State) (f : Frame) (below : List Frame) (kind : IsOfSteps here s G) where
  module _ {F : Fault → Type 0} where
    -- on in the same state
    on : (fs : List Frame) → Allowed G B F (Goes fs s)
    on fs = goes fs s kind.stays

    -- on to the next instruction
    onward_ok : (rest : List Value) → Allowed G B F (onward f below s rest)
    onward_ok rest = on (after f rest ∷ below)

    -- ---- built-in members

    enter_ok : (n : ObjectName) (rest : List Value) (m : Monitor) → monitor_of s n ≡ Some m → ((w : Wait) → held_by_another n here.thread m ≡ Some w → B) → Allowed G B F (enter here s f below n rest m)
    enter_ok n rest Free h may = goes _ _ (kind.enters n h)
    enter_ok n rest (Held owner count) h may =
        if_ok (owner == here.thread) (λ own. goes _ _ (kind.enters_again n owner count h own)) (λ other. blocks (may (ForMonitor n owner) (ap (λ b. if b then None else Some (ForMonitor n owner)) other)))

    exit_ok : (n : ObjectName) (rest : List Value) (m : Monitor) → monitor_of s n ≡ Some m → F SynchronizationLock → Allowed G B F (exit here s f below n rest m)
    exit_ok n rest Free h fault = raises SynchronizationLock fault
    exit_ok n rest (Held owner count) h fault = if_ok (owner == here.thread) (λ own. goes _ _ (kind.exits n owner count h own)) (λ other. raises SynchronizationLock fault)

    -- a start makes one thread more, at most once for an object
    begin_ok : (n : ObjectName) (rest : List Value) (o : HeapObject) (run : Option (ClassName × Method)) → object_at s n ≡ Some o → o.thread ≡ None → Allowed G B F (begin here s f below n rest o run)
    begin_ok n rest o run there new = given_ok run (λ found e. given_ok (code_of found.1.kind) (λ code e'. goes _ _ (kind.starts f below n o (new_frame found.0 found.1 code (Reference n ∷ []) None) there new)))

    start_ok : (n : ObjectName) (rest : List Value) (o : HeapObject) → object_at s n ≡ Some o → F ThreadState → F TooManyThreads → Allowed G B F (start here s f below n rest o)
    start_ok n rest o there fault fault' =
        if_ok (is_some o.thread) (λ started. raises ThreadState fault) (λ new.
        if_ok (nat_le MOST_THREADS (length s.threads)) (λ full. raises TooManyThreads fault') (λ room.
        given_ok (class_of s n) (λ c e. begin_ok n rest o (target here.tree c thread_name run_method) there (unstarted o.thread new))))
      where
        unstarted : (u : Option ℕ) → is_some u ≡ false → u ≡ None
        unstarted None e = refl
        unstarted (Some u) e = absurd cc

    -- a join changes nothing, and the end of a live thread is waited for
    join_ok : (rest : List Value) (o : HeapObject) → ((w : Wait) → option_and_then (end_awaited s) o.thread ≡ Some w → B) → F ThreadState → Allowed G B F (join here s f below rest o)
    join_ok rest o may fault =
        or_ok o.thread (λ t is.
        if_ok (is_live s t) (λ live. blocks (may (ForEnd t) (ap (option_and_then (end_awaited s)) is ∙ ap (λ b. if b then Some (ForEnd t) else None) live))) (λ ended. onward_ok rest)) (raises ThreadState fault)

    -- with the object of a thread
    thread_ok : {go : HeapObject → Effect} (n : ObjectName) → ((o : HeapObject) → object_at s n ≡ Some o → Allowed G B F (go o)) → Allowed G B F (thread_object here s f below n go)
    thread_ok n each = given_ok (class_of s n) (λ c e. if_ok (is_thread_class here.tree c) (λ is. given_ok (object_at s n) each) (λ other. sticks))

    -- each built-in member raises its own faults
    act_ok : (a : Action) (arguments rest : List Value) → ((x : Fault) → Contains (faults_of_action a) x → F x) → ((v : Value) → arguments ≡ v ∷ [] → Waits here s B a v) → Allowed G B F (act here s f below a arguments rest)
    act_ok Construct (v ∷ []) rest may waits = onward_ok rest
    act_ok Write (v ∷ []) rest may waits = given_ok (line_of v) (λ line e. goes _ _ (kind.prints line))
    act_ok Enter (v ∷ []) rest may waits =
        null_ok v ArgumentNull (may ArgumentNull (0, lit< tt, refl)) (λ n is. given_ok (monitor_of s n) (λ m e.
        enter_ok n rest m e (λ w h. waits v refl w (ap (λ x. wait_by s here.thread Enter (x ∷ [])) is ∙ (ap (option_and_then (held_by_another n here.thread)) e ∙ h)))))
    act_ok Exit (v ∷ []) rest may waits = null_ok v ArgumentNull (may ArgumentNull (0, lit< tt, refl)) (λ n is. given_ok (monitor_of s n) (λ m e. exit_ok n rest m e (may SynchronizationLock (1, lit< tt, refl))))
    act_ok Start (v ∷ []) rest may waits =
        null_ok v NullReference (may NullReference (0, lit< tt, refl)) (λ n is. thread_ok n (λ o e. start_ok n rest o e (may ThreadState (1, lit< tt, refl)) (may TooManyThreads (2, lit< tt, refl))))
    act_ok Join (v ∷ []) rest may waits =
        null_ok v NullReference (may NullReference (0, lit< tt, refl)) (λ n is. thread_ok n (λ o e.
        join_ok rest o (λ w h. waits v refl w (ap (λ x. wait_by s here.thread Join (x ∷ [])) is ∙ (ap (option_and_then (λ (x : HeapObject). option_and_then (end_awaited s) x.thread)) e ∙ h))) (may ThreadState (1, lit< tt, refl))))
    act_ok _ _ rest may waits = sticks

    -- ---- the parts of an instruction

    -- on at a label
    jump_ok : (label : List ℕ) (stack : List Value) → Allowed G B F (jump here s f below label stack)
    jump_ok label stack = given_ok (pc_of label (lines_of f.method)) (λ pc e. on _)

    -- on at a label or at the next instruction
    branch_ok : (b : Bool) (label : List ℕ) (stack : List Value) → Allowed G B F (branch_if here s f below b label stack)
    branch_ok true label stack = jump_ok label stack
    branch_ok false label stack = onward_ok stack

    -- on at the label of that number
    label_ok : (o : Option (List ℕ)) (rest : List Value) → Allowed G B F (to_label here s f below o rest)
    label_ok None rest = onward_ok rest
    label_ok (Some label) rest = jump_ok label rest

    -- the number is an operand
    switch_ok : (labels : List (List ℕ)) (v : Value) (rest : List Value) → Allowed G B F (switch_on here s f below labels v rest)
    switch_ok labels (Int32 z) rest = label_ok (slice_get labels (cast_unsigned w32 z)) rest
    switch_ok labels _ rest = sticks

    -- a birth may be refused
    birth_ok : (go : ObjectName → State → Effect) (contents : Contents) → (here.is_refused ≡ true → F OutOfMemory) → Allowed G B F (go (next_name s) (with_birth s contents)) → Allowed G B F (birth here s f below contents go)
    birth_ok go contents h each = if_ok here.is_refused (λ refused. raises OutOfMemory (h refused)) (λ room. each)

    -- a new array
    pub array_ok : (t : DeclaredType) (z : ℤ) (rest : List Value) → F Overflow → (here.is_refused ≡ true → F OutOfMemory) → Allowed G B F (new_array here s f below t z rest)
    array_ok t (negsuc n) rest h k = raises Overflow h
    array_ok t (pos n) rest h k = birth_ok (λ name s'. onward f below s' (Reference name ∷ rest)) (Array t (replicate n (zero_of t))) k (goes _ _ (kind.bears (Array t (replicate n (zero_of t)))))

    -- with the element of that number
    range_ok : {go : ℕ → Value → Effect} (at : ℕ → Option Value) (z : ℤ) → F IndexOutOfRange → ((n : ℕ) (v : Value) → Allowed G B F (go n v)) → Allowed G B F (in_range here s f below at go z)
    range_ok at (negsuc n) h each = raises IndexOutOfRange h
    range_ok at (pos n) h each = or_ok (at n) (λ v e. each n v) (raises IndexOutOfRange h)

    -- of that array
    element_ok : {go : ObjectName → DeclaredType → ℕ → Value → Effect} (test : DeclaredType → Bool) (array index : Value) → F NullReference → F IndexOutOfRange →
        ((n : ObjectName) (t : DeclaredType) (i : ℕ) (v : Value) → Allowed G B F (go n t i v)) → Allowed G B F (element here s f below test array index go)
    element_ok test array index h k each =
        null_ok array NullReference h (λ n is. given_ok (as_index index) (λ i e. given_ok (array_at s n) (λ held e'.
        if_ok (test held.0) (λ fits. range_ok (slice_get held.1) i k (each n held.0)) (λ other. sticks))))

    -- ldelem
    load_ok : (test : DeclaredType → Bool) → F NullReference → F IndexOutOfRange → Allowed G B F (load_element here s f below test)
    load_ok test h k = two_ok f.stack (λ array index rest. element_ok test array index h k (λ n t i v. onward_ok (v ∷ rest)))

    -- another element
    put_ok : (n : ObjectName) (i : ℕ) (v : Value) (rest : List Value) → Allowed G B F (when_some (with_element s n i v) (λ s'. onward f below s' rest))
    put_ok n i v rest = given_ok (with_element s n i v) (λ s' e. goes _ s' (kind.stores_element n i v s' e))

    -- stelem
    store_ok : (test : DeclaredType → Bool) → F NullReference → F IndexOutOfRange → Allowed G B F (store_element here s f below test)
    store_ok test h k = three_ok f.stack (λ array index v rest. element_ok test array index h k (λ n t i old. put_ok n i v rest))

    -- stelem.ref
    reference_ok : F NullReference → F IndexOutOfRange → F ArrayTypeMismatch → Allowed G B F (store_reference here s f below)
    reference_ok h k l = three_ok f.stack (λ array index v rest. element_ok is_reference array index h k (λ n t i old.
        given_ok (may_hold here s f below t v) (λ holds e. if_ok holds (λ may. put_ok n i v rest) (λ may_not. raises ArrayTypeMismatch l))))

    -- castclass and isinst
    cast_ok : {otherwise : List Value → Effect} (t : DeclaredType) → ((rest : List Value) → Allowed G B F (otherwise rest)) → Allowed G B F (cast here s f below t otherwise)
    cast_ok t each = one_ok f.stack (λ v rest. given_ok (may_hold here s f below t v) (λ holds e. if_ok holds (λ may. onward_ok (v ∷ rest)) (λ may_not. each rest)))

    -- a frame of a method with code
    frame_ok : (c : ClassName) (m : Method) (arguments : List Value) (constructed : Option ObjectName) (s' : State) (rest : List Value) → G s' → Allowed G B F (frame_for here s f below c m arguments constructed s' rest)
    frame_ok c m arguments constructed s' rest h = given_ok (code_of m.kind) (λ code e. goes _ s' h)

    -- a method on its operands
    run_ok : (found : ClassName × Method) (arguments rest : List Value) → ((a : Action) (x : Fault) → action_of found.0 found.1 ≡ Some a → Contains (faults_of_action a) x → F x) →
        ((a : Action) → action_of found.0 found.1 ≡ Some a → (v : Value) → arguments ≡ v ∷ [] → Waits here s B a v) → F StackOverflow → Allowed G B F (run_found here s f below found arguments rest)
    run_ok found arguments rest may waits h =
        or_ok (action_of found.0 found.1) (λ a e. act_ok a arguments rest (λ x. may a x e) (waits a e))
        (if_ok (is_too_deep here s f below) (λ deep. raises StackOverflow h) (λ room. frame_ok found.0 found.1 arguments None s rest kind.stays))

    -- with operands of these types
    pub operands_ok : {go : List Value → List Value → Effect} (types : List DeclaredType) → ((arguments rest : List Value) → ((v : Value) → arguments ≡ v ∷ [] → f.stack ≡ v ∷ rest) → Allowed G B F (go arguments rest)) →
        Allowed G B F (operands here s f below types go)
    operands_ok types each =
        if_ok (nat_le (length types) (length f.stack)) (λ enough.
        if_ok (are_of_kinds types (reverse (take (length types) f.stack))) (λ fit.
        each (reverse (take (length types) f.stack)) (drop (length types) f.stack) (top_taken (length types) f.stack enough)) (λ other. sticks)) (λ few. sticks)

    -- the method that an object's class says: the one that was found or what the class has in its place; one that acts is the one that was found
    virtual_ok : (found : ClassName × Method) → IsDeclared here.tree found.0 found.1 → (arguments rest : List Value) →
        ((chosen : ClassName × Method) (a : Action) (x : Fault) → (chosen ≡ found) ⊎ ((d : ClassName) × (target here.tree d found.0 found.1 ≡ Some chosen)) → action_of chosen.0 chosen.1 ≡ Some a → Contains (faults_of_action a) x → F x) →
        ((a : Action) → action_of found.0 found.1 ≡ Some a → (v : Value) → arguments ≡ v ∷ [] → Waits here s B a v) → F NullReference → F StackOverflow → Allowed G B F (run_virtual here s f below found arguments rest)
    virtual_ok found declared [] rest may waits h k = sticks
    virtual_ok found declared (this ∷ arguments) rest may waits h k =
        null_ok this NullReference h (λ n is. given_ok (method_for here s f below n found) (λ chosen e.
        run_ok chosen (this ∷ arguments) rest (λ a x. may chosen a x (chosen_from n chosen (is_virtual found.1.kind) e)) (λ a acts. waits a (named n chosen a (is_virtual found.1.kind) refl e acts)) k))
      where
        chosen_from : (n : ObjectName) (chosen : ClassName × Method) (b : Bool) → (if b then option_and_then (λ d. target here.tree d found.0 found.1) (class_of s n) else Some found) ≡ Some chosen →
            (chosen ≡ found) ⊎ ((d : ClassName) × (target here.tree d found.0 found.1 ≡ Some chosen))
        chosen_from n chosen true e = inr (option_and_then_some _ (class_of s n) chosen e (λ d there h'. (d, h')))
        chosen_from n chosen false e = inl (sym (same_Some found chosen e))

        named : (n : ObjectName) (chosen : ClassName × Method) (a : Action) (b : Bool) → is_virtual found.1.kind ≡ b → (if b then option_and_then (λ d. target here.tree d found.0 found.1) (class_of s n) else Some found) ≡ Some chosen →
            action_of chosen.0 chosen.1 ≡ Some a → action_of found.0 found.1 ≡ Some a
        named n chosen a true is e acts = option_and_then_some _ (class_of s n) chosen e (λ d there h'. virtual_target_does_not_act here.tree d found.0 found.1 chosen.0 chosen.1 a declared is h' acts)
        named n chosen a false is e acts = subst (λ (x : ClassName × Method). action_of x.0 x.1 ≡ Some a) (sym (same_Some found chosen e)) acts

    -- a new object
    pub construct_ok : (c : ClassName) (found : ClassName × Method) (arguments rest : List Value) → F StackOverflow → (here.is_refused ≡ true → F OutOfMemory) → Allowed G B F (construct here s f below c found arguments rest)
    construct_ok c found arguments rest h k =
        if_ok (is_some (action_of found.0 found.1)) (λ acts. birth_ok (λ name s'. onward f below s' (Reference name ∷ rest)) (new_instance here.tree c) k (goes _ _ (kind.bears (new_instance here.tree c)))) (λ own.
        if_ok (is_too_deep here s f below) (λ deep. raises StackOverflow h) (λ room.
        birth_ok (λ name s'. frame_for here s f below found.0 found.1 (Reference name ∷ arguments) (Some name) s' rest) (new_instance here.tree c) k (
        frame_ok found.0 found.1 (Reference (next_name s) ∷ arguments) (Some (next_name s)) (with_birth s (new_instance here.tree c)) rest (kind.bears (new_instance here.tree c)))))

    -- back to the caller
    return_ok : Allowed G B F (return_from here s f below)
    return_ok = or_ok f.constructed (λ name e. on _) (or_ok f.method.signature.return_type (λ t e. one_ok f.stack (λ v rest. if_ok (is_of_kind t v) (λ fits. on _) (λ other. sticks))) (on _))

  -- ---- one instruction

  -- each instruction raises faults alone that are listed for it
  pub instruction_ok : (i : Instruction) → Waiting here s f B i → Allowed G B (MayRaise here.tree i) (execute here s f below i)
  instruction_ok NoOperation waits = onward_ok f.stack
  instruction_ok (LoadArgument n) waits = given_ok (at_index f.arguments n) (λ v e. onward_ok _)
  instruction_ok (LoadLocal n) waits = given_ok (at_index f.locals n) (λ v e. onward_ok _)
  instruction_ok (StoreArgument n) waits = one_ok f.stack (λ v rest. given_ok (store_at here s f below n v f.arguments) (λ arguments e. on _))
  instruction_ok (StoreLocal n) waits = one_ok f.stack (λ v rest. given_ok (store_at here s f below n v f.locals) (λ locals e. on _))
  instruction_ok Duplicate waits = one_ok f.stack (λ v rest. onward_ok _)
  instruction_ok Pop waits = one_ok f.stack (λ v rest. onward_ok _)
  instruction_ok (Binary op) waits =
      two_ok f.stack (λ v w rest. given_ok (binary_value op v w) (λ result e. fault_ok result (λ x h. itself _ x (operation_faults op v w result x e h)) (λ u. onward_ok _)))
  instruction_ok (Unary op) waits = one_ok f.stack (λ v rest. given_ok (unary_value op v) (λ u e. onward_ok _))
  instruction_ok (Shift op) waits = two_ok f.stack (λ v amount rest. given_ok (shift_value op v amount) (λ u e. onward_ok _))
  instruction_ok (Compare op) waits = two_ok f.stack (λ v w rest. given_ok (compare_values op v w) (λ holds e. onward_ok _))
  instruction_ok ConvertInt32 waits = one_ok f.stack (λ v rest. given_ok (convert_32 v) (λ u e. onward_ok _))
  instruction_ok ConvertInt64 waits = one_ok f.stack (λ v rest. given_ok (convert_64 v) (λ u e. onward_ok _))
  instruction_ok (Branch conditions.Always label) waits = jump_ok label f.stack
  instruction_ok (Branch conditions.IfTrue label) waits = one_ok f.stack (λ v rest. given_ok (is_set v) (λ holds e. branch_ok holds label rest))
  instruction_ok (Branch conditions.IfFalse label) waits = one_ok f.stack (λ v rest. given_ok (not_option (is_set v)) (λ holds e. branch_ok holds label rest))
  instruction_ok (Branch (conditions.Compare op) label) waits = two_ok f.stack (λ v w rest. given_ok (branch_values op v w) (λ holds e. branch_ok holds label rest))
  instruction_ok (Switch labels) waits = one_ok f.stack (switch_ok labels)
  instruction_ok (LoadField r) waits = one_ok f.stack (λ object rest. given_ok (find_field here.tree false r) (λ found e.
      null_ok object NullReference (itself _ _ (0, lit< tt, refl)) (λ n is. given_ok (field_value s n (key_of found)) (λ v e'. onward_ok _))))
  instruction_ok (StoreField r) waits = two_ok f.stack (λ object v rest. given_ok (find_field here.tree false r) (λ found e.
      null_ok object NullReference (itself _ _ (0, lit< tt, refl)) (λ n is. given_ok (with_field s n (key_of found) v) (λ s' e'. goes _ s' (kind.stores n (key_of found) v s' e')))))
  instruction_ok (LoadStaticField r) waits = given_ok (find_field here.tree true r) (λ found e. given_ok (entry_at same_key (key_of found) s.statics) (λ v e'. onward_ok _))
  instruction_ok (StoreStaticField r) waits = one_ok f.stack (λ v rest. given_ok (find_field here.tree true r) (λ found e.
      given_ok (replaced_entry (key_of found) v s.statics) (λ statics e'. goes _ _ (kind.stores_static (key_of found) v statics e'))))
  instruction_ok (NewArray t) waits = one_ok f.stack (λ v rest. given_ok (as_index v) (λ z e. array_ok t z rest (itself _ _ (0, lit< tt, refl)) (λ r. itself _ _ (1, lit< tt, refl))))
  instruction_ok LoadLength waits = one_ok f.stack (λ array rest. null_ok array NullReference (itself _ _ (0, lit< tt, refl)) (λ n is. given_ok (array_at s n) (λ held e. onward_ok _)))
  instruction_ok (LoadElement _) waits = load_ok _ (itself _ _ (0, lit< tt, refl)) (itself _ _ (1, lit< tt, refl))
  instruction_ok (StoreElement kinds.Reference) waits = reference_ok (itself _ _ (0, lit< tt, refl)) (itself _ _ (1, lit< tt, refl)) (itself _ _ (2, lit< tt, refl))
  instruction_ok (StoreElement _) waits = store_ok _ (itself _ _ (0, lit< tt, refl)) (itself _ _ (1, lit< tt, refl))
  instruction_ok (CastClass t) waits = cast_ok t (λ rest. raises InvalidCast (itself _ _ (0, lit< tt, refl)))
  instruction_ok (IsInstance t) waits = cast_ok t (λ rest. onward_ok _)
  instruction_ok (Call is_instance r) waits = given_ok (find_method here.tree is_instance r) (λ found e. operands_ok (reference_operands is_instance r) (λ arguments rest taken.
      run_ok found arguments rest (λ a x acts h. member _ found a x e acts h) (λ a acts v is. waits a (ap action_found e ∙ acts) v rest (taken v is)) (itself _ _ (0, lit< tt, refl))))
  instruction_ok (CallVirtual owner name signature) waits = given_ok (find_method here.tree true (virtual_reference owner name signature)) (λ found e.
      operands_ok (reference_operands true (virtual_reference owner name signature)) (λ arguments rest taken.
      virtual_ok found (found_is_declared here.tree true (virtual_reference owner name signature) found.0 found.1 e) arguments rest (λ chosen a x runs acts h. member _ chosen a x (found, e, runs) acts h)
      (λ a acts v is. waits a (ap action_found e ∙ acts) v rest (taken v is)) (itself _ _ (0, lit< tt, refl)) (itself _ _ (1, lit< tt, refl))))
  instruction_ok (NewObject c parameters) waits = given_ok (find_method here.tree true (constructor_reference c parameters)) (λ found e.
      operands_ok parameters (λ arguments rest taken. construct_ok c found arguments rest (itself _ _ (0, lit< tt, refl)) (λ r. itself _ _ (1, lit< tt, refl))))
  instruction_ok Return waits = return_ok
  instruction_ok _ waits = onward_ok _

  -- whatever the frame is at
  pub effect_ok : ((i : Instruction) → instruction_at f ≡ Some i → Waiting here s f B i) → Allowed G B AnyFault (effect_of here s (f ∷ below))
  effect_ok waits = given_ok (instruction_at f) (λ i e. loosely (execute here s f below i) (instruction_ok i (waits i e)))
    where
      loosely : {F : Fault → Type 0} (e : Effect) → Allowed G B F e → Allowed G B AnyFault e
      loosely (Goes fs s') (goes _ _ h) = goes fs s' h
      loosely Blocks (blocks b) = blocks b
      loosely (Raises x) h = raises x tt
      loosely Sticks h = sticks

-- ---- what an instruction leaves

-- an instruction takes nothing back
pub follows_steps : (here : StepContext) (s : State) → IsOfSteps here s (Follows s)
follows_steps here s = record {
  stays = follows_itself s;
  prints = λ line. record { objects = continues_itself (shapes s); statics = refl; literals_stay = refl; printed = (line, refl) };
  bears = follows_birth s;
  stores = follows_field s;
  stores_static = follows_statics s;
  stores_element = follows_element s;
  enters = λ n h. follows_monitor s n _;
  enters_again = λ n owner count h own. follows_monitor s n _;
  exits = λ n owner count h own. follows_monitor s n _;
  starts = λ f below n o first there new.
      let h : Follows s (with_object s n (record o { thread = Some (length s.threads) })) = follows_object_at s n o (record o { thread = Some (length s.threads) }) there refl in
      record { objects = h.objects; statics = h.statics; literals_stay = h.literals_stay; printed = h.printed };
}

-- ---- steps and runs

-- a step has one report and one state
pub same_after : (r q : Report) (s t : State) → Answers r s ≡ Answers q t → s ≡ t
same_after r q s t e = cc

pub same_report : (r q : Report) (s t : State) → Answers r s ≡ Answers q t → r ≡ q
same_report r q s t e = cc

pub stuck_answers : {A : Type 0} (r : Report) (s : State) → Stuck ≡ Answers r s → A
stuck_answers r s e = absurd cc

threads_aside : (s s' : State) (threads : List Thread) → Follows s s' → Follows s (record s' { threads = threads })
threads_aside s s' threads h = record { objects = h.objects; statics = h.statics; literals_stay = h.literals_stay; printed = h.printed }

ended_ok : (s s₁ s' : State) (t left : ℕ) (e : End) (r : Report) → Follows s s₁ → ended_as s₁ t left e ≡ Answers r s' → Follows s s'
ended_ok s s₁ s' t left e r h k =
    subst (Follows s) (same_after (Ended e) r (with_thread_at s₁ t (record { frames = []; steps_left = left; ended = Some e })) s' k) (threads_aside s s₁ _ h)

going_ok : (s s₁ s' : State) (t left : ℕ) (frames : List Frame) (q r : Report) → Follows s s₁ → continues q s₁ t left frames ≡ Answers r s' → Follows s s'
going_ok s s₁ s' t zero frames q r h k = ended_ok s s₁ s' t 0 Budget r h k
going_ok s s₁ s' t (suc left) frames q r h k =
    subst (Follows s) (same_after q r (with_thread_at s₁ t (record { frames = frames; steps_left = suc left; ended = None })) s' k) (threads_aside s s₁ _ h)

step_charged_ok : (s s' : State) (t left : ℕ) (frames : List Frame) (e : Effect) (r : Report) → Allowed (Follows s) (Unit {0}) AnyFault e → charge s t left frames e ≡ Answers r s' → Follows s s'
step_charged_ok s s' t left frames (Goes [] s₁) r (goes _ _ h) k = ended_ok s s₁ s' t left Done r h k
step_charged_ok s s' t left frames (Goes (f ∷ below) s₁) r (goes _ _ h) k = going_ok s s₁ s' t left (f ∷ below) Ran r h k
step_charged_ok s s' t left frames Blocks r a k = going_ok s s s' t left frames Blocked r (follows_itself s) k
step_charged_ok s s' t left frames (Raises x) r a k = ended_ok s s s' t left (ByFault x) r (follows_itself s) k
step_charged_ok s s' t left frames Sticks r a k = stuck_answers r s' k

frames_ok : (here : StepContext) (s : State) (frames : List Frame) → Allowed (Follows s) (Unit {0}) AnyFault (effect_of here s frames)
frames_ok here s [] = sticks
frames_ok here s (f ∷ below) = effect_ok here s f below (follows_steps here s) (λ i e a acts v rest stack w h. tt)

-- a step takes nothing back
pub step_follows : (tree : Tree) (limits : Limits) (s : State) (t : ℕ) (refused : Bool) (r : Report) (s' : State) → step tree limits s t refused ≡ Answers r s' → Follows s s'
step_follows tree limits s t refused r s' e = by_thread (slice_get s.threads t) e
  where
    here : StepContext
    here = record { tree = tree; limits = limits; thread = t; is_refused = refused }

    same : Answers Absent s ≡ Answers r s' → Follows s s'
    same h = subst (Follows s) (same_after Absent r s s' h) (follows_itself s)

    by_life : (thread : Thread) (b : Bool) → (if b then charge s t (thread.steps_left - 1) thread.frames (effect_of here s thread.frames) else Answers Absent s) ≡ Answers r s' → Follows s s'
    by_life thread true h = step_charged_ok s s' t (thread.steps_left - 1) thread.frames (effect_of here s thread.frames) r (frames_ok here s thread.frames) h
    by_life thread false h = same h

    by_thread : (o : Option Thread) → option_map_or (step_of here s) o (Answers Absent s) ≡ Answers r s' → Follows s s'
    by_thread None h = same h
    by_thread (Some thread) h = by_life thread (is_live_thread thread) h

-- the faults that an instruction raises are listed
pub raised_is_listed : (here : StepContext) (s : State) (f : Frame) (below : List Frame) (i : Instruction) (x : Fault) → execute here s f below i ≡ Raises x → MayRaise here.tree i x
raised_is_listed here s f below i x e = allowed_raises {G = Follows s} {B = Unit {0}} {F = MayRaise here.tree i} (execute here s f below i) x (instruction_ok here s f below (follows_steps here s) i (λ a acts v rest stack w h. tt)) e
