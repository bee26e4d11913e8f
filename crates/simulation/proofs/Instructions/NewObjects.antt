-- newobj does the same on a machine as on the reference machine (III.4.21).
use Rattle.std.proofs.Common.{◌≡◌, ◌+◌, ℕ, Bool, true, false, nat_le, if◌then◌else◌, List, ◌∷◌, length, take, drop, reverse, Option, Some, None, is_some, refl, sym, ap, ◌∙◌, subst, arith, inl, ◌<◌, replicate, [], ◌++◌, map, ◌≤◌, ◌-◌, suc, ◌&&◌, zero}
use Rattle.std.specs.Option.{option_map_or}
use Rattle.interpreter.specs.cil_model.declared.types.ClassName.{ClassName}
use Rattle.interpreter.specs.cil_model.declared.types.DeclaredType.{DeclaredType}
use Rattle.interpreter.specs.cil_model.declared.instructions.Instruction.TheVariants as Named
use Rattle.interpreter.specs.cil_model.declared.reports.Fault.TheVariants.{OutOfMemory, StackOverflow}
use Rattle.interpreter.specs.cil_model.declared.trees.Method.{Method}
use Rattle.interpreter.specs.cil_model.declared.trees.Code.{Code}
use Rattle.interpreter.specs.cil_model.Bodies.{code_of, constructor_reference, argument_types}
use Rattle.interpreter.specs.cil_model.Fields.{slot_types, FieldKey, instance_fields}
use Rattle.interpreter.specs.cil_model.Legality.{IsLegal}
use Rattle.interpreter.specs.reference_machine.Values.{ObjectName, Value as StateValue, Reference}
use Rattle.interpreter.specs.reference_machine.States.{Contents, Frame as StateFrame, State, next_name, with_birth as with_state_birth, new_instance}
use Rattle.interpreter.specs.reference_machine.Effects.{StepContext, Effect as StateEffect, Goes, Sticks, Raises as StateRaises, when_some as state_given, are_of_kinds, after, new_frame, onward as state_onward}
use Rattle.interpreter.specs.reference_machine.BuiltIn.{Action, action_of}
use Rattle.interpreter.specs.reference_machine.Steps.{birth as state_birth, frame_for, is_too_deep, operands, construct, execute}
use Rattle.interpreter.proofs.reference_machine.TypedStates.RunningFrames.{IsTypedEffect}
use Rattle.interpreter.specs.name_tables.declared.ids.MethodId.{MethodId}
use Rattle.interpreter.specs.resolved_code.ResolvedPrograms.{IsMethod}
use Rattle.interpreter.specs.resolved_code.declared.operations.Operation.TheVariants as Resolved
use Rattle.interpreter.specs.object_memory.declared.addresses.Addr.{Addr}
use Rattle.interpreter.specs.object_memory.declared.kinds.Kind.TheVariants.{Instance}
use Rattle.interpreter.specs.object_memory.declared.values.Value.{Value}
use Rattle.interpreter.specs.object_memory.declared.values.Value.TheVariants.{Ref}
use Rattle.interpreter.specs.object_memory.Objects.{Objects}
use Rattle.interpreter.specs.object_memory.Spaces.{room_for}
use Rattle.interpreter.specs.instructions.barriers.Barriers.{object_born}
use Rattle.interpreter.specs.loaded_program.MethodNumbers.{number_of}
use Rattle.interpreter.specs.threads_monitors.Frames.{Frames, with_pc, with_stack, size, with_inserted, with_call}
use Rattle.interpreter.specs.threads_monitors.declared.effects.Effect.TheVariants.{Continues, Raises}
use Rattle.interpreter.specs.instructions.Frames.{when_some}
use Rattle.interpreter.specs.instructions.ObjectTransitions.{ObjectTransition, allocate_then, with_objects, birth_transition as born_transition}
use Rattle.interpreter.specs.instructions.Calls.{enter_constructor, is_full, new_object_transition, new_plain_object_transition, CalledMethod, at_next_pc, enter_callee, construct_transition}
use Rattle.interpreter.specs.declared.outcomes.InstructionOutcome.TheVariants.{OwnEffect}
use Rattle.interpreter.specs.Instructions.{MachineTransition, operation_transition, Answer, answer_of, of_objects}
use Rattle.interpreter.proofs.LinkedTransitions.{new_does}
use Rattle.interpreter.specs.Calls.{called_method, make_object}
use Rattle.simulation.specs.Refines.{Names, reference, hidden_words, IsOfContents, IsValue, IsFrame, AreFrames}
use Rattle.simulation.proofs.Representation.MoreNames.{values_extend, frame_list_extends, object_extends}
use Rattle.simulation.proofs.Instructions.Correspondence.{IsSetting, GoesAlike, DoesAlike}
use Rattle.simulation.proofs.Instructions.FrameProgress.{own_frame, leaves_is, onward_alike, index_is_small, room_left}
use Rattle.simulation.proofs.Instructions.StackOperands.{fine}
use Rattle.simulation.proofs.Instructions.Constructors.{constructor, finds_own, own_has_id, class_named, class_is_in, slots_are_at, plain_has_none, constructor_has_id, arguments_count, few_arguments, few_locals}
use Rattle.std.proofs.lemmas.List.{length-replicate, length-map, reverse-append}
use Rattle.simulation.proofs.Memory.CellSizes.{contents_size}
use Rattle.interpreter.proofs.cil_model.SameLaws.{never}
use Rattle.simulation.proofs.Memory.MemoryModels.{MemoryModel, IsBirth, mutator_in, IsModelled}
use Rattle.interpreter.specs.cil_model.declared.trees.Tree.{Tree}
use Rattle.interpreter.specs.object_memory.declared.kinds.Kind.{Kind}
use Rattle.interpreter.specs.cil_model.Chains.{is_thread_class}
use Rattle.interpreter.specs.resolved_code.ById.{class_name}
use Rattle.simulation.proofs.Memory.InitialValues.{words_refine, locals_refine}
use Rattle.std.specs.Prelude.{nat_lt, ◌==◌}
use Rattle.std.proofs.lemmas.Bool.{and_from, leb-true, lt-ltb, le-leb}
use Rattle.std.proofs.lemmas.Bool.Decides.{nat_tests}
use Rattle.interpreter.specs.loaded_program.LocalKinds.{local_kinds}
use Rattle.simulation.specs.Agreement.{Agree}
use Rattle.simulation.specs.MachineStates.{frame_room}
use Rattle.simulation.proofs.ListLaws.AgreeingLists.{agree_length, agree_take, agree_drop, agree_reverse}
use Rattle.simulation.proofs.Instructions.Calls.MethodExecution.{full_alike}

-- ---- A list with an item inserted: what is left after a drop, what it is in reverse, and its length.

-- ---- a value beneath the topmost ones

-- of a list with a value after its first n, the first n and one are those, and the value
take_inserted : {A : Type 0} (n : ℕ) (x : A) (xs : List A) → n ≤ length xs → take (suc n) (take n xs ++ x ∷ drop n xs) ≡ take n xs ++ x ∷ []
take_inserted zero x xs h = refl
take_inserted (suc n) x [] h = absurd (omega (arith, h))
take_inserted (suc n) x (y ∷ ys) h = ap (λ zs. y ∷ zs) (take_inserted n x ys (omega (arith, h)))

-- the others are after them
pub drop_inserted : {A : Type 0} (n : ℕ) (x : A) (xs : List A) → n ≤ length xs → drop (suc n) (take n xs ++ x ∷ drop n xs) ≡ drop n xs
drop_inserted zero x xs h = refl
drop_inserted (suc n) x [] h = absurd (omega (arith, h))
drop_inserted (suc n) x (y ∷ ys) h = drop_inserted n x ys (omega (arith, h))

-- the other way round the value comes first
pub reverse_inserted : {A : Type 0} (n : ℕ) (x : A) (xs : List A) → n ≤ length xs → reverse (take (suc n) (take n xs ++ x ∷ drop n xs)) ≡ x ∷ reverse (take n xs)
reverse_inserted n x xs h = ap reverse (take_inserted n x xs h) ∙ reverse-append (take n xs) (x ∷ [])

-- there is one more
pub length_inserted : {A : Type 0} (n : ℕ) (x : A) (xs : List A) → n ≤ length xs → length (take n xs ++ x ∷ drop n xs) ≡ suc (length xs)
length_inserted zero x xs h = refl
length_inserted (suc n) x [] h = absurd (omega (arith, h))
length_inserted (suc n) x (y ∷ ys) h = ap suc (length_inserted n x ys (omega (arith, h)))

-- ---- The frame of a constructor, and the one of the method that makes the object.

-- ---- tests on numbers

above_none : (n k : ℕ) → n ≡ suc k → nat_lt 0 n ≡ true
above_none n k h = grind (arith, nat_tests)

-- below the limit of frames
not_full : (n depth : ℕ) → n + 1 ≤ depth → (n + 1 == depth) ≡ false → n + 1 < depth
not_full n depth h k = grind (arith, nat_tests, h, k)

module _ (here : StepContext) (model : MemoryModel here.tree) (name : Names) (m : Frames) (o : Objects) (statics : List Value) (printed : List ℕ) (s : State) (f : StateFrame) (below : List StateFrame)
    (c : ClassName) (parameters : List DeclaredType) (number : MethodId) (is : IsMethod here.tree true (constructor_reference c parameters) number)
    (at : IsSetting here model name m o statics printed s f below (Named.NewObject c parameters) (Resolved.NewObject number)) where
  abbrev legal_tree : IsLegal here.tree
  legal_tree = at.running.accepted.legal

  -- the frame that runs
  own : IsFrame here.tree name m.running f
  own = own_frame here model name m o statics printed s f below (Named.NewObject c parameters) (Resolved.NewObject number) at

  abbrev own_constructor : Method
  own_constructor = constructor here.tree legal_tree c parameters number is

  -- ---- depth

  few_below : length m.below + 1 ≤ m.depth
  few_below = subst (λ d. length m.below + 1 ≤ d) (sym at.frames.depth) (omega (arith, at.frames.few))

  -- ---- the machine's frames

  module _ (enough : nat_le (length parameters) (length f.stack) ≡ true) (deep : is_full m ≡ false) (a : Addr) where
    abbrev argument_count : ℕ
    argument_count = length (argument_types own_constructor c)

    counted : argument_count ≡ suc (length parameters)
    counted = arguments_count here.tree legal_tree c parameters number is

    -- the operands with the object beneath them
    abbrev inserted : List Value
    inserted = take (length parameters) m.running.stack ++ Ref a ∷ drop (length parameters) m.running.stack

    operands_there : length parameters ≤ length m.running.stack
    operands_there =
        let same : length m.running.stack ≡ length f.stack = agree_length (IsValue name) m.running.stack f.stack own.stack in
        omega (arith, same, leb-true (length parameters) (length f.stack) enough)

    -- the caller after the instruction
    abbrev caller : Frames
    caller = with_pc (with_inserted m (length parameters) (Ref a)) (m.running.pc + 1)

    -- the frames in the constructor
    abbrev pub frames_in : Frames
    frames_in = with_call caller (constructor_has_id here.tree legal_tree c parameters number is).0 argument_count (local_kinds own_constructor) (Some a)

    object_fits : nat_lt 0 argument_count && (nat_lt (size m.running) m.room && nat_le (length parameters) (length m.running.stack)) ≡ true
    object_fits =
        let left : size m.running < frame_room = room_left here.tree legal_tree s None f at.running.frame name m.running own in
        let room : nat_lt (size m.running) m.room ≡ true = lt-ltb (size m.running) m.room (subst (λ r. size m.running < r) (sym at.frames.room) left) in
        and_from _ _ (above_none argument_count (length parameters) counted) (and_from _ _ room (le-leb (length parameters) (length m.running.stack) operands_there))

    frame_fits : nat_lt (length m.below + 1) m.depth && nat_le argument_count (length inserted) && nat_le (argument_count + length (local_kinds own_constructor)) m.room ≡ true
    frame_fits =
        let longer : length inserted ≡ suc (length m.running.stack) = length_inserted (length parameters) (Ref a) m.running.stack operands_there in
        let shallow : nat_lt (length m.below + 1) m.depth ≡ true = lt-ltb (length m.below + 1) m.depth (not_full (length m.below) m.depth few_below deep) in
        let there : nat_le argument_count (length inserted) ≡ true = le-leb argument_count (length inserted) (omega (arith, counted, longer, operands_there)) in
        let low : argument_count + length (local_kinds own_constructor) ≤ m.room =
        subst (λ r. argument_count + length (local_kinds own_constructor) ≤ r) (sym at.frames.room) (omega (arith, few_arguments here.tree legal_tree c parameters number is, few_locals here.tree legal_tree c parameters number is)) in
        and_from _ _ (and_from _ _ shallow there) (le-leb (argument_count + length (local_kinds own_constructor)) m.room low)

    -- the constructor's frame is entered
    pub constructs_is : construct_transition (called_method (c, own_constructor) (constructor_has_id here.tree legal_tree c parameters number is).0) a m ≡ Some (frames_in, Continues)
    constructs_is =
        let callee : CalledMethod = called_method (c, own_constructor) (constructor_has_id here.tree legal_tree c parameters number is).0 in
        let fewer : argument_count - 1 ≡ length parameters = omega (arith, counted) in
        ap (λ n. if nat_lt 0 argument_count && (nat_lt (size m.running) m.room && nat_le n (length m.running.stack)) then at_next_pc (with_inserted m n (Ref a)) (enter_callee callee (Some a)) else None) fewer ∙
        ap (λ b. if b then at_next_pc (with_inserted m (length parameters) (Ref a)) (enter_callee callee (Some a)) else None) object_fits ∙
        ap (λ b. if b then enter_callee callee (Some a) caller else None) (index_is_small here model name m o statics printed s f below (Named.NewObject c parameters) (Resolved.NewObject number) at) ∙
        ap (λ b. if b then Some (frames_in, Continues) else None) frame_fits

    -- ---- what they represent

    -- both frames and those below them, under the names after the birth
    module _ (contents : Contents) (born : Objects) (birth : IsBirth model.Fits name statics s contents born a) where
      extended : (vs : List Value) (us : List StateValue) → Agree (IsValue name) vs us → Agree (IsValue birth.names) vs us
      extended = values_extend name birth.names birth.extends

      arguments_refine : Agree (IsValue birth.names) (reverse (take argument_count inserted)) (Reference (next_name s) ∷ reverse (take (length parameters) f.stack))
      arguments_refine =
          let turned : reverse (take argument_count inserted) ≡ Ref a ∷ reverse (take (length parameters) m.running.stack) = ap (λ n. reverse (take n inserted)) counted ∙ reverse_inserted (length parameters) (Ref a) m.running.stack operands_there in
          let operands : Agree (IsValue name) (reverse (take (length parameters) m.running.stack)) (reverse (take (length parameters) f.stack)) =
          agree_reverse (IsValue name) (take (length parameters) m.running.stack) (take (length parameters) f.stack) (agree_take (IsValue name) (length parameters) m.running.stack f.stack own.stack) in
          subst (λ vs. Agree (IsValue birth.names) vs (Reference (next_name s) ∷ reverse (take (length parameters) f.stack))) (sym turned)
          (reference a (next_name s) birth.named, extended (reverse (take (length parameters) m.running.stack)) (reverse (take (length parameters) f.stack)) operands)

      rest_refines : Agree (IsValue birth.names) (drop argument_count inserted) (drop (length parameters) f.stack)
      rest_refines =
          let left : drop argument_count inserted ≡ drop (length parameters) m.running.stack = ap (λ n. drop n inserted) counted ∙ drop_inserted (length parameters) (Ref a) m.running.stack operands_there in
          subst (λ vs. Agree (IsValue birth.names) vs (drop (length parameters) f.stack)) (sym left)
          (extended (drop (length parameters) m.running.stack) (drop (length parameters) f.stack) (agree_drop (IsValue name) (length parameters) m.running.stack f.stack own.stack))

      caller_refines : IsFrame here.tree birth.names (record caller.running { stack = drop argument_count inserted }) (after f (drop (length parameters) f.stack))
      caller_refines = record {
        method = own.method;
        pc = ap (λ n. n + 1) own.pc;
        arguments = extended m.running.arguments f.arguments own.arguments;
        locals = extended m.running.locals f.locals own.locals;
        stack = rest_refines;
        constructed = object_extends name birth.names birth.extends m.running.constructed f.constructed own.constructed;
      }

      pub frames_refine : (code : Code) → code_of own_constructor.kind ≡ Some code →
          AreFrames here.tree here.limits birth.names frames_in (new_frame c own_constructor code (Reference (next_name s) ∷ reverse (take (length parameters) f.stack)) (Some (next_name s)) ∷ after f (drop (length parameters) f.stack) ∷ below)
      frames_refine code has = record {
        frames = (
          record {
            method = (constructor_has_id here.tree legal_tree c parameters number is).2;
            pc = refl;
            arguments = arguments_refine;
            locals = locals_refine birth.names own_constructor code has;
            stack = tt;
            constructed = birth.named;
          },
          (caller_refines, frame_list_extends name birth.names birth.extends here.tree m.below below at.frames.frames.1),
        );
        depth = at.frames.depth;
        few = subst (λ d. length (frames_in.running ∷ frames_in.below) ≤ d) at.frames.depth (omega (arith, not_full (length m.below) m.depth few_below deep));
        room = at.frames.room;
      }

-- ---- The zeros in the cell of a new object represent its first contents.

-- ---- objects

-- n words
abbrev zeros : ℕ → List ℕ
zeros n = replicate n 0

module _ (tree : Tree) (c : ClassName) where
  -- the hidden word and one for each field
  words_are : zeros (length (slot_types tree c)) ≡ hidden_words tree c None ++ zeros (length (instance_fields tree c))
  words_are = by_flag (is_thread_class tree c)
    where
      types : List (Option DeclaredType)
      types = map (λ (f : FieldKey × DeclaredType). Some f.1) (instance_fields tree c)

      counted : zeros (length types) ≡ zeros (length (instance_fields tree c))
      counted = ap zeros (length-map (instance_fields tree c) (λ (f : FieldKey × DeclaredType). Some f.1))

      by_flag : (b : Bool) → zeros (length ((if b then None ∷ [] else []) ++ types)) ≡ (if b then 0 ∷ [] else []) ++ zeros (length (instance_fields tree c))
      by_flag true = ap (λ ws. 0 ∷ ws) counted
      by_flag false = counted

  -- zeros are an object of the class at first
  pub new_instance_refines : (class : ℕ) → class_name tree class ≡ Some c → (names : Names) → IsOfContents tree names (Instance class) (replicate (length (slot_types tree c)) 0) (new_instance tree c) None
  new_instance_refines class named names = record { class_is = named; words = replicate (length (instance_fields tree c)) 0; slots_are = words_are; values = words_refine names (instance_fields tree c) }

-- ---- What the birth of an object gives, and what it leaves on both machines.

-- a birth is refused beyond the room, and nothing is changed, or an object lies at an address
pub by_birth : (tree : Tree) (model : MemoryModel tree) (name : Names) (o : Objects) (statics : List Value) (s : State) → model.Fits name o statics s → (k : Kind) (n : ℕ) (P : Objects × Option Addr → Type 0) →
    (room_for model.phase o.spaces < 3 + n → P (o, None)) → ((born : Objects) (a : Addr) → object_born model.phase o k n ≡ (born, Some a) → P (born, Some a)) → P (object_born model.phase o k n)
by_birth tree model name o statics s fits k n P refused given = by_answer (object_born model.phase o k n) refl
  where
    by_answer : (x : Objects × Option Addr) → object_born model.phase o k n ≡ x → P x
    by_answer (born, Some a) e = given born a e
    by_answer (born, None) e = let refusal = model.refusals name o statics s fits k n born e in subst (λ p. P (p, None)) (sym refusal.0) (refused refusal.1)

-- where memory isn't refused the reference machine continues with the object
pub birth_goes : (here : StepContext) (s : State) (f : StateFrame) (below : List StateFrame) (contents : Contents) (go : ObjectName → State → StateEffect) → here.is_refused ≡ false →
    state_birth here s f below contents go ≡ go (next_name s) (with_state_birth s contents)
birth_goes here s f below contents go r = ap (λ b. if b then StateRaises OutOfMemory else go (next_name s) (with_state_birth s contents)) r

-- the memory is one of the same kind, under the names that there are then
pub memory_after : (here : StepContext) (model : MemoryModel here.tree) (name : Names) (o : Objects) (statics : List Value) (printed : List ℕ) (s : State) → IsModelled here.tree model name o statics printed s →
    (contents : Contents) (born : Objects) (a : Addr) (birth : IsBirth model.Fits name statics s contents born a) → IsModelled here.tree model birth.names born statics printed (with_state_birth s contents)
memory_after here model name o statics printed s memory contents born a birth = record { fits = birth.fits; printed_is = memory.printed_is }

-- ---- newobj does the same on a machine as on the reference machine (III.4.21).

-- what doesn't stick passed its test
not_stuck : (here : StepContext) (b : Bool) (e : StateEffect) → IsTypedEffect here.tree (if b then e else Sticks) → b ≡ true
not_stuck here true e t = refl
not_stuck here false e t = elim t [ ]

module _ (here : StepContext) (model : MemoryModel here.tree) (name : Names) (m : Frames) (o : Objects) (statics : List Value) (printed : List ℕ) (s : State) (f : StateFrame) (below : List StateFrame)
    (c : ClassName) (parameters : List DeclaredType) (number : MethodId) (is : IsMethod here.tree true (constructor_reference c parameters) number)
    (at : IsSetting here model name m o statics printed s f below (Named.NewObject c parameters) (Resolved.NewObject number)) where
  abbrev legal : IsLegal here.tree
  legal = at.running.accepted.legal

  abbrev built : Method
  built = constructor here.tree legal c parameters number is

  abbrev slots : ℕ
  slots = length (slot_types here.tree c)

  abbrev contents : Contents
  contents = new_instance here.tree c

  -- a transition of frames and objects, as one of the machine, and what the reference machine does
  abbrev as_transition : ObjectTransition → MachineTransition
  as_transition transition = of_objects o statics printed transition

  abbrev Alike : ObjectTransition → StateEffect → Type 0
  Alike transition e = DoesAlike here model name m o statics printed s f below (as_transition transition) e

  -- ---- the operands

  abbrev count : ℕ
  count = length parameters

  -- the operands of the reference machine, and what is below them
  abbrev arguments : List StateValue
  arguments = reverse (take count f.stack)

  abbrev rest : List StateValue
  rest = drop count f.stack

  abbrev passed : StateEffect
  passed = construct here s f below c (c, built) arguments rest

  abbrev tested : StateEffect
  tested = if are_of_kinds parameters arguments then passed else Sticks

  finds : execute here s f below (Named.NewObject c parameters) ≡ (if nat_le count (length f.stack) then tested else Sticks)
  finds = ap (λ x. state_given x (λ found. operands here s f below parameters (construct here s f below c found))) (finds_own here.tree legal c parameters number is)

  typed_test : IsTypedEffect here.tree (if nat_le count (length f.stack) then tested else Sticks)
  typed_test = subst (IsTypedEffect here.tree) finds (fine here model name m o statics printed s f below (Named.NewObject c parameters) (Resolved.NewObject number) at)

  enough : nat_le count (length f.stack) ≡ true
  enough = not_stuck here (nat_le count (length f.stack)) tested typed_test

  typed_kinds : IsTypedEffect here.tree tested
  typed_kinds = subst (λ b. IsTypedEffect here.tree (if b then tested else Sticks)) enough typed_test

  of_kinds : are_of_kinds parameters arguments ≡ true
  of_kinds = not_stuck here (are_of_kinds parameters arguments) passed typed_kinds

  typed : IsTypedEffect here.tree passed
  typed = subst (λ b. IsTypedEffect here.tree (if b then passed else Sticks)) of_kinds typed_kinds

  executes : execute here s f below (Named.NewObject c parameters) ≡ passed
  executes = finds ∙ ap (λ b. if b then tested else Sticks) enough ∙ ap (λ b. if b then passed else Sticks) of_kinds

  -- ---- what the machine finds

  transition_is : operation_transition here.tree (mutator_in here model) (Resolved.NewObject number) m o statics printed ≡ as_transition (make_object here.tree (mutator_in here model) number.class slots (c, built) m o)
  transition_is =
      new_does here.tree (mutator_in here model) m o statics printed number (c, built) (own_has_id here.tree legal c parameters number is) number.class slots (class_is_in here.tree legal c parameters number is)
      (slots_are_at here.tree legal c parameters number is)

  -- ---- refusals

  -- a fault that isn't one of memory
  too_deep : Alike (Some (m, o, Raises StackOverflow)) (StateRaises StackOverflow)
  too_deep = record { answer = answer_of m o statics printed (OwnEffect (Raises StackOverflow)); is = refl; refuses = λ _ h. never h; alike = λ r. (refl, (refl, refl, refl)) }

  -- the reference machine continues from a birth with frames of its thread
  abbrev Enters : StateEffect → Type 0
  Enters e = (running : StateFrame) × (waiting : List StateFrame) × (e ≡ Goes (running ∷ waiting) (with_state_birth s contents))

  -- there is no room for the object
  refused : (go : ObjectName → State → StateEffect) → (here.is_refused ≡ false → Enters (go (next_name s) (with_state_birth s contents))) → room_for model.phase o.spaces < 3 + slots →
      Alike (Some (m, o, Raises OutOfMemory)) (state_birth here s f below contents go)
  refused go enters room = record {
    answer = answer_of m o statics printed (OwnEffect (Raises OutOfMemory));
    is = refl;
    refuses = λ r _. let e = enters r in inl (record {
      running = e.0;
      waiting = e.1;
      contents = contents;
      is = birth_goes here s f below contents go r ∙ e.2;
      exceeds =
          (let words = contents_size here.tree name (Instance number.class) (replicate slots 0) contents None (new_instance_refines here.tree c number.class (class_named here.tree legal c parameters number is) name) in
          let zeros = length-replicate {A = ℕ} slots 0 in
          omega (arith, words, zeros, room));
    });
    alike = λ r. (ap (λ b. if b then StateRaises OutOfMemory else go (next_name s) (with_state_birth s contents)) r, (refl, refl, refl));
  }

  -- a thread of this phase can bear
  bears_alike : (go : Objects × Option Addr → ObjectTransition) (e : StateEffect) → Alike (go (object_born model.phase o (Instance number.class) slots)) e → Alike (allocate_then model.phase o (Instance number.class) slots go) e
  bears_alike go e h = subst (λ b. Alike (if b then go (object_born model.phase o (Instance number.class) slots) else None) e) (sym (model.bears name o statics s at.memory.fits)) h

  -- an object that was born
  birth_of : (birth_transition : Objects) (a : Addr) → object_born model.phase o (Instance number.class) slots ≡ (birth_transition, Some a) → IsBirth model.Fits name statics s contents birth_transition a
  birth_of birth_transition a e =
      model.births name o statics s at.memory.fits (Instance number.class) slots contents (new_instance_refines here.tree c number.class (class_named here.tree legal c parameters number is)) birth_transition a e

  -- ---- a constructor that is built in

  abbrev pushed : ObjectName → State → StateEffect
  pushed n s' = state_onward f below s' (Reference n ∷ f.stack)

  plain_born : (birth_transition : Objects) (a : Addr) → object_born model.phase o (Instance number.class) slots ≡ (birth_transition, Some a) → Alike (born_transition m (birth_transition, Some a)) (state_birth here s f below contents pushed)
  plain_born birth_transition a e =
      let birth : IsBirth model.Fits name statics s contents birth_transition a = birth_of birth_transition a e in
      let answer : Answer = (answer_of (with_pc (with_stack m (Ref a ∷ m.running.stack)) (m.running.pc + 1)) birth_transition statics printed (OwnEffect Continues)) in
      record {
        answer = answer;
        is = ap (λ transition. as_transition (with_objects birth_transition transition)) (leaves_is here model name m o statics printed s f below (Named.NewObject c parameters) (Resolved.NewObject number) at (Ref a) m.running.stack (omega arith));
        refuses = λ _ h. never h;
        alike = λ r. subst (λ e'. GoesAlike here model name m o statics printed s f below answer e') (sym (birth_goes here s f below contents pushed r))
            (onward_alike here model name m o statics printed s f below (Named.NewObject c parameters) (Resolved.NewObject number) at birth.names birth.extends birth_transition statics printed (with_state_birth s contents) refl
            (memory_after here model name o statics printed s at.memory contents birth_transition a birth) (Ref a ∷ m.running.stack) (Reference (next_name s) ∷ f.stack)
            (reference a (next_name s) birth.named, values_extend name birth.names birth.extends m.running.stack f.stack (own_frame here model name m o statics printed s f below (Named.NewObject c parameters) (Resolved.NewObject number) at).stack));
      }

  plain_alike : Alike (new_plain_object_transition model.phase number.class slots m o) (state_birth here s f below contents pushed)
  plain_alike = bears_alike (born_transition m) (state_birth here s f below contents pushed) (by_birth here.tree model name o statics s at.memory.fits (Instance number.class) slots (λ w. Alike (born_transition m w) (state_birth here s f below contents pushed)) (refused pushed (λ r. (after f (Reference (next_name s) ∷ f.stack), below, refl))) plain_born)

  -- ---- a constructor with code

  abbrev entered_by : ObjectName → State → StateEffect
  entered_by n s' = frame_for here s f below c built (Reference n ∷ arguments) (Some n) s' rest

  module _ (deep : is_full m ≡ false) (typed_birth : IsTypedEffect here.tree (state_birth here s f below contents entered_by)) where
    framed_born : (birth_transition : Objects) (a : Addr) → object_born model.phase o (Instance number.class) slots ≡ (birth_transition, Some a) →
        Alike (enter_constructor (called_method (c, built) (constructor_has_id here.tree legal c parameters number is).0) m (birth_transition, Some a)) (state_birth here s f below contents entered_by)
    framed_born birth_transition a e =
        record {
          answer = answer;
          is = ap (λ transition. as_transition (with_objects birth_transition transition)) (constructs_is here model name m o statics printed s f below c parameters number is at enough deep a);
          refuses = λ _ h. never h;
          alike = λ r. subst (λ e'. GoesAlike here model name m o statics printed s f below answer e') (sym (birth_goes here s f below contents entered_by r))
              (by_code (code_of built.kind) refl (subst (IsTypedEffect here.tree) (birth_goes here s f below contents entered_by r) typed_birth));
        }
      where
        birth : IsBirth model.Fits name statics s contents birth_transition a
        birth = birth_of birth_transition a e

        answer : Answer
        answer = (answer_of (frames_in here model name m o statics printed s f below c parameters number is at enough deep a) birth_transition statics printed (OwnEffect Continues))

        waiting : List StateFrame
        waiting = after f rest ∷ below

        by_code : (x : Option Code) → code_of built.kind ≡ x →
            IsTypedEffect here.tree (state_given x (λ code. Goes (new_frame c built code (Reference (next_name s) ∷ arguments) (Some (next_name s)) ∷ waiting) (with_state_birth s contents))) →
            GoesAlike here model name m o statics printed s f below answer (state_given x (λ code. Goes (new_frame c built code (Reference (next_name s) ∷ arguments) (Some (next_name s)) ∷ waiting) (with_state_birth s contents)))
        by_code None has t = elim t [ ]
        by_code (Some code) has t = record {
          running = new_frame c built code (Reference (next_name s) ∷ arguments) (Some (next_name s));
          waiting = waiting;
          state = with_state_birth s contents;
          is = refl;
          names = birth.names;
          extends = birth.extends;
          others = refl;
          frames = frames_refine here model name m o statics printed s f below c parameters number is at enough deep a contents birth_transition birth code has;
          memory = memory_after here model name o statics printed s at.memory contents birth_transition a birth;
        }

    enters : here.is_refused ≡ false → Enters (entered_by (next_name s) (with_state_birth s contents))
    enters r = by_code (code_of built.kind) (subst (IsTypedEffect here.tree) (birth_goes here s f below contents entered_by r) typed_birth)
      where
        by_code : (x : Option Code) →
            IsTypedEffect here.tree (state_given x (λ code. Goes (new_frame c built code (Reference (next_name s) ∷ arguments) (Some (next_name s)) ∷ after f rest ∷ below) (with_state_birth s contents))) →
            Enters (state_given x (λ code. Goes (new_frame c built code (Reference (next_name s) ∷ arguments) (Some (next_name s)) ∷ after f rest ∷ below) (with_state_birth s contents)))
        by_code None t = elim t [ ]
        by_code (Some code) t = (new_frame c built code (Reference (next_name s) ∷ arguments) (Some (next_name s)), after f rest ∷ below, refl)

    framed_alike : Alike (allocate_then model.phase o (Instance number.class) slots (enter_constructor (called_method (c, built) (constructor_has_id here.tree legal c parameters number is).0) m)) (state_birth here s f below contents entered_by)
    framed_alike =
        bears_alike (enter_constructor (called_method (c, built) (constructor_has_id here.tree legal c parameters number is).0) m) (state_birth here s f below contents entered_by)
        (by_birth here.tree model name o statics s at.memory.fits (Instance number.class) slots (λ w. Alike (enter_constructor (called_method (c, built) (constructor_has_id here.tree legal c parameters number is).0) m w) (state_birth here s f below contents entered_by)) (refused entered_by enters) framed_born)

  -- ---- either

  -- the depth is looked at before memory
  by_depth : (b : Bool) → is_full m ≡ b →
      IsTypedEffect here.tree (if b then StateRaises StackOverflow else state_birth here s f below contents entered_by) →
      Alike (if b then Some (m, o, Raises StackOverflow) else allocate_then model.phase o (Instance number.class) slots (enter_constructor (called_method (c, built) (constructor_has_id here.tree legal c parameters number is).0) m))
      (if b then StateRaises StackOverflow else state_birth here s f below contents entered_by)
  by_depth true deep t = too_deep
  by_depth false deep t = framed_alike deep t

  -- in the method of its number
  by_number : IsTypedEffect here.tree (if is_too_deep here s f below then StateRaises StackOverflow else state_birth here s f below contents entered_by) →
      Alike (when_some (number_of here.tree (c, built)) (λ n. new_object_transition model.phase number.class slots (called_method (c, built) n) m o)) (if is_too_deep here s f below then StateRaises StackOverflow else state_birth here s f below contents entered_by)
  by_number t =
      let framed : Bool → StateEffect = λ b. if b then StateRaises StackOverflow else state_birth here s f below contents entered_by in
      let same : is_full m ≡ is_too_deep here s f below = full_alike here model name m o statics printed s f below (Named.NewObject c parameters) (Resolved.NewObject number) at in
      let own = constructor_has_id here.tree legal c parameters number is in
      subst (λ x. Alike (when_some x (λ n. new_object_transition model.phase number.class slots (called_method (c, built) n) m o)) (framed (is_too_deep here s f below))) (sym own.1)
      (subst (λ b. Alike (new_object_transition model.phase number.class slots (called_method (c, built) own.0) m o) (framed b)) same
      (by_depth (is_full m) refl (subst (λ b. IsTypedEffect here.tree (framed b)) (sym same) t)))

  by_action : (x : Option Action) → action_of c built ≡ x →
      IsTypedEffect here.tree (if is_some x then state_birth here s f below contents (λ n s'. state_onward f below s' (Reference n ∷ rest))
      else if is_too_deep here s f below then StateRaises StackOverflow else state_birth here s f below contents entered_by) →
      Alike (option_map_or (λ (a : Action). new_plain_object_transition model.phase number.class slots m o) x (when_some (number_of here.tree (c, built)) (λ n. new_object_transition model.phase number.class slots (called_method (c, built) n) m o)))
      (if is_some x then state_birth here s f below contents (λ n s'. state_onward f below s' (Reference n ∷ rest))
      else if is_too_deep here s f below then StateRaises StackOverflow else state_birth here s f below contents entered_by)
  by_action (Some a) acts t =
      let whole : rest ≡ f.stack = ap (λ n. drop n f.stack) (plain_has_none here.tree legal c parameters number is a acts) in
      subst (λ us. Alike (new_plain_object_transition model.phase number.class slots m o) (state_birth here s f below contents (λ n s'. state_onward f below s' (Reference n ∷ us)))) (sym whole) plain_alike
  by_action None acts t = by_number t

  -- newobj
  pub new_object_alike : DoesAlike here model name m o statics printed s f below (operation_transition here.tree (mutator_in here model) (Resolved.NewObject number) m o statics printed) (execute here s f below (Named.NewObject c parameters))
  new_object_alike =
      subst (λ transition. DoesAlike here model name m o statics printed s f below transition (execute here s f below (Named.NewObject c parameters))) (sym transition_is)
      (subst (Alike (make_object here.tree (mutator_in here model) number.class slots (c, built) m o)) (sym executes) (by_action (action_of c built) refl typed))
