-- The length of an array, and new arrays, are the same on both machines.
use Rattle.std.proofs.Common.{◌≡◌, ◌≤◌, ◌<◌, ◌+◌, ◌^◌, ℕ, zero, suc, ℤ, pos, negsuc, Bool, true, false, if◌then◌else◌, List, ◌∷◌, length, replicate, Option, Some, None, option_map, refl, sym, ap, ◌∙◌, subst, arith, inl}
use Rattle.std.specs.Prelude.{nat_lt}
use Rattle.std.proofs.lemmas.Bool.Decides.{nat_tests}
use Rattle.std.proofs.lemmas.Option.{same_Some}
use Rattle.interpreter.specs.cil_model.declared.instructions.Instruction.TheVariants as Named
use Rattle.interpreter.specs.cil_model.declared.limits.TheConstants.{MOST_WORDS, MOST_BRACKETS}
use Rattle.interpreter.specs.cil_model.declared.reports.Fault.TheVariants.{Overflow, OutOfMemory, NullReference}
use Rattle.interpreter.specs.cil_model.declared.trees.Tree.{Tree}
use Rattle.interpreter.specs.cil_model.declared.types.ClassName.{ClassName}
use Rattle.interpreter.specs.cil_model.declared.types.DeclaredType.{DeclaredType}
use Rattle.interpreter.specs.cil_model.declared.types.Element.{Element}
use Rattle.interpreter.specs.cil_model.declared.types.Element.TheVariants.{Int64 as Int64Element, Class as ClassElement}
use Rattle.interpreter.specs.cil_model.Assignable.{is_reference}
use Rattle.interpreter.specs.cil_model.Legality.{IsLegal}
use Rattle.interpreter.specs.reference_machine.Values.{ObjectName, Value as StateValue, Int32 as Int32Value, Native as NativeValue, Null, Reference, integer_zero, zero_of}
use Rattle.interpreter.specs.reference_machine.Arithmetic.{as_index}
use Rattle.interpreter.specs.reference_machine.States.{Array as IsArray, Frame as StateFrame, State, array_at, next_name, with_birth as with_state_birth}
use Rattle.interpreter.specs.reference_machine.Effects.{StepContext, Raises as StateRaises, when_some as state_given, not_null, onward as onward_frame, after}
use Rattle.interpreter.specs.reference_machine.Steps.{execute, next, new_array}
use Rattle.interpreter.specs.resolved_code.ById.{class_name, element_at, type_at}
use Rattle.interpreter.specs.resolved_code.declared.operations.Operation.TheVariants as Resolved
use Rattle.interpreter.specs.resolved_code.declared.types.ResolvedElement.{ResolvedElement}
use Rattle.interpreter.specs.resolved_code.declared.types.ResolvedElement.TheVariants.{Int32 as ResolvedInt32, Int64 as ResolvedInt64, Object as ResolvedObject, String as ResolvedString, Class as ClassById}
use Rattle.interpreter.specs.resolved_code.declared.types.ResolvedType.{ResolvedType}
use Rattle.simulation.proofs.ProgramSizes.ClassesAndFields.{class_number_small}
use Rattle.simulation.proofs.ProgramSizes.Methods.{arrays_shallow}
use Rattle.interpreter.specs.object_memory.declared.addresses.Addr.{Addr}
use Rattle.interpreter.specs.object_memory.declared.kinds.ArrayElement.{ArrayElement}
use Rattle.interpreter.specs.object_memory.declared.kinds.ElementType.{ElementType}
use Rattle.interpreter.specs.object_memory.declared.kinds.ElementType.TheVariants.{Int32 as HeldInt32, Int64 as HeldInt64, Object as HeldObject, String as HeldString, Class as HeldClass}
use Rattle.interpreter.specs.object_memory.declared.kinds.Kind.TheVariants.{Array}
use Rattle.interpreter.specs.object_memory.declared.values.Value.{Value}
use Rattle.interpreter.specs.object_memory.declared.values.Value.TheVariants.{Int32, Int64, Native, Ref}
use Rattle.interpreter.specs.object_memory.Cells.{Cell, null}
use Rattle.interpreter.specs.object_memory.Objects.{Objects}
use Rattle.interpreter.specs.instructions.barriers.Barriers.{object_born}
use Rattle.interpreter.specs.instructions.TypeTransitions.{resolved_element, held_type}
use Rattle.interpreter.specs.threads_monitors.Frames.{Frames, with_pc, with_stack}
use Rattle.interpreter.specs.threads_monitors.declared.effects.Effect.TheVariants.{Continues, Raises}
use Rattle.interpreter.specs.instructions.Frames.{when_some, value_pushed}
use Rattle.interpreter.specs.instructions.ObjectTransitions.{with_objects, object_of, index_of, slots_of, object_pushed, new_array_of, new_array_transition}
use Rattle.interpreter.specs.declared.outcomes.InstructionOutcome.TheVariants.{OwnEffect}
use Rattle.interpreter.specs.loaded_program.declared.instructions.LinkedInstruction.TheVariants as Linked
use Rattle.interpreter.specs.Instructions.{operation_transition, of_objects, answer_of}
use Rattle.interpreter.proofs.LinkedTransitions.{link_does}
use Rattle.interpreter.specs.loaded_program.Operands.{linked_element, linked_array}
use Rattle.simulation.specs.Agreement.{Agree}
use Rattle.simulation.specs.Refines.{Names, IsValue, native, int32, int64, null_reference, reference, IsWord}
use Rattle.simulation.proofs.ListLaws.AgreeingLists.{agree_length}
use Rattle.simulation.proofs.Representation.MoreNames.{values_extend}
use Rattle.simulation.proofs.Instructions.FrameProgress.{leaves_is, onward_alike}
use Rattle.simulation.proofs.Instructions.Correspondence.{IsSetting, GoesAlike, DoesAlike}
use Rattle.simulation.proofs.Instructions.StackOperands.{fine, one_operand}
use Rattle.simulation.proofs.Memory.ObjectsAtAddresses.{IsArrayThere, array_there}
use Rattle.simulation.proofs.Instructions.ObjectInstructionParts.{alike_transition, given_alike, raised_alike, left_alike, object_alike, same_index}
use Rattle.std.proofs.lemmas.List.{length-replicate}
use Rattle.simulation.proofs.Memory.CellSizes.{contents_size}
use Rattle.interpreter.proofs.cil_model.SameLaws.{never}
use Rattle.interpreter.proofs.cil_model.Lists.{none_is_some}
use Rattle.simulation.proofs.Memory.MemoryModels.{MemoryModel, IsModelled, IsBirth, mutator_in}

-- ---- how long an array is

-- a number of slots has 64 bits
count_fits : (name : Names) (n k : ℕ) → n ≤ MOST_WORDS → n ≡ k → IsValue name (Native (pos n)) (NativeValue (pos k))
count_fits name n k few same = subst (λ x. IsValue name (Native (pos n)) (NativeValue (pos x))) same (native (pos n) (record { sfits = omega (arith, few) }))

-- ---- the kinds of new arrays

-- a resolved element that represents one is what an array can hold
held_back : (tree : Tree) → IsLegal tree → (e : ResolvedElement) (x : Element) → element_at tree e ≡ Some x → (h : ElementType) × (linked_element e ≡ Some h) × (resolved_element h ≡ e)
held_back tree legal ResolvedInt32 x is = (HeldInt32, refl, refl)
held_back tree legal ResolvedInt64 x is = (HeldInt64, refl, refl)
held_back tree legal ResolvedObject x is = (HeldObject, refl, refl)
held_back tree legal ResolvedString x is = (HeldString, refl, refl)
held_back tree legal (ClassById n) x is = by_name (class_name tree n) refl is
  where
    small : n < 2 ^ 16 → nat_lt n (2 ^ 16) ≡ true
    small h = grind (arith, nat_tests)

    by_name : (c : Option ClassName) → class_name tree n ≡ c → option_map ClassElement c ≡ Some x → (h : ElementType) × (linked_element (ClassById n) ≡ Some h) × (resolved_element h ≡ ClassById n)
    by_name None named e = none_is_some x e
    by_name (Some c) named e = (HeldClass n, ap (λ b. if b then Some (HeldClass n) else None) (small (class_number_small tree legal n c named)), refl)

-- so is a resolved type with few brackets
type_held_back : (tree : Tree) → IsLegal tree → (n : ResolvedType) (t : DeclaredType) → type_at tree n ≡ Some t → t.brackets < 256 → (a : ArrayElement) × (linked_array n ≡ Some a) × (type_at tree (held_type a) ≡ Some t)
type_held_back tree legal n t is few = by_element (element_at tree n.element) refl is
  where
    test : n.brackets < 256 → nat_lt n.brackets 256 ≡ true
    test h = grind (arith, nat_tests)

    by_element : (x : Option Element) → element_at tree n.element ≡ x → option_map {U = DeclaredType} (λ e. record { element = e; brackets = n.brackets }) x ≡ Some t → (a : ArrayElement) × (linked_array n ≡ Some a) × (type_at tree (held_type a) ≡ Some t)
    by_element None named e = none_is_some t e
    by_element (Some x) named e =
        let held = held_back tree legal n.element x named in
        let same : n.brackets ≡ t.brackets = ap (λ (y : DeclaredType). y.brackets) (same_Some (record { element = x; brackets = n.brackets }) t e) in
        let shallow : n.brackets < 256 = omega (arith, same, few) in
        let first : linked_array n ≡ option_map {U = ArrayElement} (λ h. record { element = h; brackets = n.brackets }) (linked_element n.element) =
        ap (λ b. if b then option_map {U = ArrayElement} (λ h. record { element = h; brackets = n.brackets }) (linked_element n.element) else None) (test shallow) in (
          record { element = held.0; brackets = n.brackets },
          first ∙ ap (option_map {U = ArrayElement} (λ h. record { element = h; brackets = n.brackets })) held.1,
          ap (λ y. type_at tree (record { element = y; brackets = n.brackets })) held.2 ∙ is,
        )

-- ---- zeros

-- a word of zero holds the first value of each type
zero_word : (name : Names) (t : DeclaredType) → IsWord name 0 (zero_of t)
zero_word name t = by_test (is_reference t) t.element
  where
    first : IsWord name 0 (Int32Value (pos 0))
    first = record { value = Int32 (pos 0); refines = int32 (pos 0) (record { sfits = omega arith }); is = refl }

    by_test : (b : Bool) (e : Element) → IsWord name 0 (if b then Null else integer_zero e)
    by_test true e = record { value = Ref null; refines = null_reference; is = refl }
    by_test false Int64Element = record { value = Int64 (pos 0); refines = int64 (pos 0) (record { sfits = omega arith }); is = refl }
    by_test false _ = first

-- so do many
zero_words : (name : Names) (t : DeclaredType) (n : ℕ) → Agree (IsWord name) (replicate n 0) (replicate n (zero_of t))
zero_words name t zero = tt
zero_words name t (suc n) = (zero_word name t, zero_words name t n)

module _ (here : StepContext) (model : MemoryModel here.tree) (name : Names) (m : Frames) (o : Objects) (statics : List Value) (printed : List ℕ) (s : State) (f : StateFrame) (below : List StateFrame) where
  -- ---- ldlen

  -- the length of the array is that of the cell
  pub load_length_alike : IsSetting here model name m o statics printed s f below Named.LoadLength Resolved.LoadLength →
      DoesAlike here model name m o statics printed s f below (operation_transition here.tree (mutator_in here model) Resolved.LoadLength m o statics printed) (execute here s f below Named.LoadLength)
  load_length_alike at =
      one_operand here model name m o statics printed s f below Named.LoadLength Resolved.LoadLength at (of_objects o statics printed)
      (λ array k. object_of array k o (λ a. when_some (slots_of o a) (λ slots. with_objects o (value_pushed (Native (pos (length slots))) k))))
      (λ array rest. not_null array NullReference (λ n. state_given (array_at s n) (λ held. next here s f below (NativeValue (pos (length held.1)) ∷ rest))))
      (fine here model name m o statics printed s f below Named.LoadLength Resolved.LoadLength at)
      (λ v rest u rest' is is' refines k shorter t.
      object_alike here model name m o statics printed s f below Named.LoadLength Resolved.LoadLength at v u refines (with_stack m rest) _ _ t (λ a n named t'.
      given_alike here model name m o statics printed s f below Named.LoadLength Resolved.LoadLength at _ (array_at s n) _ t' (λ held there t''.
      in_array a n held.0 held.1 (array_there here.tree name o s (model.reads name o statics s at.memory.fits at.running.typed) a n held.0 held.1 named there) rest rest' k shorter)))
    where
      in_array : (a : Addr) (n : ObjectName) (t : DeclaredType) (elements : List StateValue) → IsArrayThere here.tree name o s (model.reads name o statics s at.memory.fits at.running.typed) a n t elements → (rest : List Value) (rest' : List StateValue) → Agree (IsValue name) rest rest' → length rest ≤ length m.running.stack →
          DoesAlike here model name m o statics printed s f below (of_objects o statics printed (when_some (slots_of o a) (λ slots. with_objects o (value_pushed (Native (pos (length slots))) (with_stack m rest))))) (next here s f below (NativeValue (pos (length elements)) ∷ rest'))
      in_array a n t elements array rest rest' k shorter =
          let slots : List ℕ = array.thing.cell.slots in
          let few : length slots ≤ MOST_WORDS = (model.reads name o statics s at.memory.fits at.running.typed).sizes a array.thing.cell array.thing.lies in
          alike_transition here model name m o statics printed s f below Named.LoadLength Resolved.LoadLength at _ (of_objects o statics printed (with_objects o (value_pushed (Native (pos (length slots))) (with_stack m rest)))) _
          (ap (λ (c : Option Cell). of_objects o statics printed (when_some (option_map (λ (y : Cell). y.slots) c) (λ xs. with_objects o (value_pushed (Native (pos (length xs))) (with_stack m rest))))) array.thing.lies)
          (left_alike here model name m o statics printed s f below Named.LoadLength Resolved.LoadLength at (Native (pos (length slots))) (NativeValue (pos (length elements)))
          (count_fits name (length slots) (length elements) few (agree_length (IsWord name) slots elements array.values)) rest rest' k shorter)

  -- ---- newarr

  module _ (t : DeclaredType) (n : ResolvedType) (is : type_at here.tree n ≡ Some t) (at : IsSetting here model name m o statics printed s f below (Named.NewArray t) (Resolved.NewArray n)) where
    -- an array is born, or memory is refused
    born_alike : (element : ArrayElement) → type_at here.tree (held_type element) ≡ Some t → (count : ℕ) (o' : Objects) (x : Option Addr) → ◌≡◌ {A = Objects × Option Addr} (object_born model.phase o (Array element) count) (o', x) →
        (rest : List Value) (rest' : List StateValue) → Agree (IsValue name) rest rest' → length rest ≤ length m.running.stack →
        DoesAlike here model name m o statics printed s f below (of_objects o statics printed (with_objects o' (object_pushed x (with_stack m rest)))) (new_array here s f below t (pos count) rest')
    born_alike element element_is count o' None born rest rest' k shorter = record {
      answer = answer_of (with_stack m rest) o' statics printed (OwnEffect (Raises OutOfMemory));
      is = refl;
      refuses = λ r _. inl (record {
        running = after f (Reference (next_name s) ∷ rest');
        waiting = below;
        contents = IsArray t (replicate count (zero_of t));
        is = ap (λ b. if b then StateRaises OutOfMemory else onward_frame f below (with_state_birth s (IsArray t (replicate count (zero_of t)))) (Reference (next_name s) ∷ rest')) r;
        exceeds =
            (let words = contents_size here.tree name (Array element) (replicate count 0) (IsArray t (replicate count (zero_of t))) None (element_is, zero_words name t count) in
            let slots = length-replicate {A = ℕ} count 0 in
            omega (arith, words, slots, (model.refusals name o statics s at.memory.fits (Array element) count o' born).1));
      });
      alike = λ r. (
        ap (λ b. if b then StateRaises OutOfMemory else onward_frame f below (with_state_birth s (IsArray t (replicate count (zero_of t)))) (Reference (next_name s) ∷ rest')) r,
        ((model.refusals name o statics s at.memory.fits (Array element) count o' born).0, refl, refl),
      );
    }
    born_alike element element_is count o' (Some a) born rest rest' k shorter = record {
      answer = answer_of (with_pc (with_stack m (Ref a ∷ rest)) (m.running.pc + 1)) o' statics printed (OwnEffect Continues);
      is = ap (λ transition. of_objects o statics printed (with_objects o' transition)) (leaves_is here model name m o statics printed s f below (Named.NewArray t) (Resolved.NewArray n) at (Ref a) rest shorter);
      refuses = λ _ h. never h;
      alike = λ r.
          subst (λ e. GoesAlike here model name m o statics printed s f below (answer_of (with_pc (with_stack m (Ref a ∷ rest)) (m.running.pc + 1)) o' statics printed (OwnEffect Continues)) e)
          (sym (ap (λ b. if b then StateRaises OutOfMemory else onward_frame f below (with_state_birth s (IsArray t (replicate count (zero_of t)))) (Reference (next_name s) ∷ rest')) r))
          (onward_alike here model name m o statics printed s f below (Named.NewArray t) (Resolved.NewArray n) at birth.names birth.extends o' statics printed (with_state_birth s (IsArray t (replicate count (zero_of t)))) refl memory
          (Ref a ∷ rest) (Reference (next_name s) ∷ rest') (reference a (next_name s) birth.named, values_extend name birth.names birth.extends rest rest' k));
    }
      where
        birth : IsBirth model.Fits name statics s (IsArray t (replicate count (zero_of t))) o' a
        birth = model.births name o statics s at.memory.fits (Array element) count (IsArray t (replicate count (zero_of t))) (λ names. (element_is, zero_words names t count)) o' a born

        memory : IsModelled here.tree model birth.names o' statics printed (with_state_birth s (IsArray t (replicate count (zero_of t))))
        memory = record { fits = birth.fits; printed_is = at.memory.printed_is }

    -- of a length
    counted_alike : (element : ArrayElement) → type_at here.tree (held_type element) ≡ Some t → (z : ℤ) (rest : List Value) (rest' : List StateValue) → Agree (IsValue name) rest rest' → length rest ≤ length m.running.stack →
        DoesAlike here model name m o statics printed s f below (of_objects o statics printed (new_array_of model.phase element z (with_stack m rest) o)) (new_array here s f below t z rest')
    counted_alike element element_is (negsuc count) rest rest' k shorter = raised_alike here model name m o statics printed s f below (Named.NewArray t) (Resolved.NewArray n) at (with_stack m rest) Overflow
    counted_alike element element_is (pos count) rest rest' k shorter =
        let birth : Objects × Option Addr = object_born model.phase o (Array element) count in
        alike_transition here model name m o statics printed s f below (Named.NewArray t) (Resolved.NewArray n) at (of_objects o statics printed (new_array_of model.phase element (pos count) (with_stack m rest) o))
        (of_objects o statics printed (with_objects birth.0 (object_pushed birth.1 (with_stack m rest)))) (new_array here s f below t (pos count) rest')
        (ap (λ b. of_objects o statics printed (if b then with_objects birth.0 (object_pushed birth.1 (with_stack m rest)) else None)) (model.bears name o statics s at.memory.fits))
        (born_alike element element_is count birth.0 birth.1 refl rest rest' k shorter)

    -- the whole instruction
    pub new_array_alike : DoesAlike here model name m o statics printed s f below (operation_transition here.tree (mutator_in here model) (Resolved.NewArray n) m o statics printed) (execute here s f below (Named.NewArray t))
    new_array_alike =
        let shallow : t.brackets < 256 =
        (let low : t.brackets < MOST_BRACKETS = arrays_shallow here.tree at.running.accepted.legal f.owner at.running.frame.is_declared.0 f.method at.running.frame.is_declared.1 at.running.frame.code at.running.frame.has_code f.pc at.running.line at.running.at t at.running.is in omega (arith, low)) in
        let held = type_held_back here.tree at.running.accepted.legal n t is shallow in
        alike_transition here model name m o statics printed s f below (Named.NewArray t) (Resolved.NewArray n) at _ (of_objects o statics printed (new_array_transition model.phase held.0 m o)) _
        (link_does here.tree (mutator_in here model) m o statics printed (Resolved.NewArray n) (Linked.NewArray held.0) (ap (option_map (λ element. Linked.NewArray element)) held.1))
        (one_operand here model name m o statics printed s f below (Named.NewArray t) (Resolved.NewArray n) at (of_objects o statics printed)
        (λ v k. index_of v (λ z. new_array_of model.phase held.0 z k o))
        (λ v rest. state_given (as_index v) (λ z. new_array here s f below t z rest))
        (fine here model name m o statics printed s f below (Named.NewArray t) (Resolved.NewArray n) at)
        (λ v rest u rest' is' is'' refines k shorter typed.
        given_alike here model name m o statics printed s f below (Named.NewArray t) (Resolved.NewArray n) at _ (as_index u) _ typed (λ z index typed'.
        alike_transition here model name m o statics printed s f below (Named.NewArray t) (Resolved.NewArray n) at _ (of_objects o statics printed (new_array_of model.phase held.0 z (with_stack m rest) o)) _
        (ap (λ x. of_objects o statics printed (when_some x (λ y. new_array_of model.phase held.0 y (with_stack m rest) o))) (same_index here model name m o statics printed s f below (Named.NewArray t) (Resolved.NewArray n) at v u refines ∙ index))
        (counted_alike held.0 held.2 z rest rest' k shorter))))
