-- Loads of array elements and stores to them do the same on both machines.
use Rattle.std.proofs.Common.{◌≡◌, ◌≤◌, ℕ, zero, Bool, true, false, if◌then◌else◌, List, ◌∷◌, length, Option, Some, None, option_map, option_and_then, slice_get, slice_set, refl, sym, ap, ◌∙◌, subst, arith, IsTrue, suc}
use Rattle.std.proofs.lemmas.Option.{same_Some}
use Rattle.interpreter.specs.cil_model.declared.instructions.ElementKind.{ElementKind}
use Rattle.interpreter.specs.cil_model.declared.instructions.ElementKind.TheVariants as kinds
use Rattle.interpreter.specs.cil_model.declared.instructions.Instruction.TheVariants as Named
use Rattle.interpreter.specs.cil_model.declared.reports.Fault.TheVariants.{ArrayTypeMismatch}
use Rattle.interpreter.specs.cil_model.declared.types.DeclaredType.{DeclaredType}
use Rattle.interpreter.specs.cil_model.Assignable.{is_reference, is_reference_element}
use Rattle.interpreter.specs.cil_model.FlowRules.{is_of_element_kind}
use Rattle.interpreter.specs.reference_machine.Values.{ObjectName, Born, Value as StateValue, same_kind}
use Rattle.interpreter.specs.reference_machine.States.{Array as IsArray, HeapObject, Frame as StateFrame, State, array_at, elements_of_contents, replaced_at, same_kind_or_none, with_element, with_object}
use Rattle.interpreter.specs.reference_machine.Effects.{StepContext, Effect as StateEffect, Raises as StateRaises, onward as onward_frame, when_some as state_given}
use Rattle.interpreter.specs.reference_machine.Steps.{execute, element, may_hold, next, load_element, store_element, store_reference}
use Rattle.interpreter.proofs.reference_machine.TypedStates.RunningFrames.{IsTypedEffect}
use Rattle.interpreter.specs.resolved_code.declared.operations.Operation.TheVariants as Resolved
use Rattle.interpreter.specs.object_memory.declared.addresses.Addr.{Addr}
use Rattle.interpreter.specs.object_memory.declared.values.Value.{Value}
use Rattle.interpreter.specs.object_memory.Cells.{Cell, store_slot as with_cell_slot}
use Rattle.interpreter.specs.object_memory.Objects.{Objects}
use Rattle.interpreter.specs.object_memory.Values.{value_word}
use Rattle.interpreter.specs.threads_monitors.Frames.{Frames, with_stack}
use Rattle.interpreter.specs.threads_monitors.declared.effects.Effect.TheVariants.{Raises}
use Rattle.interpreter.specs.instructions.Frames.{when_some}
use Rattle.interpreter.specs.instructions.ObjectTransitions.{ObjectTransition, object_of, index_of, slots_of, checked_index, in_range, store_slot, load_slot, load_element_transition, store_element_transition}
use Rattle.interpreter.specs.instructions.TypeTransitions.{held_type, may_be_used_as, element_in, store_admitted, store_reference_transition}
use Rattle.interpreter.specs.Instructions.{of_objects, operation_transition}
use Rattle.simulation.specs.Agreement.{Agree}
use Rattle.simulation.specs.Refines.{Names, IsValue, IsWord, IsOfContents, IsCell}
use Rattle.simulation.proofs.ListLaws.AgreeingLists.{agree_get, agree_set}
use Rattle.simulation.proofs.Instructions.Correspondence.{IsSetting, DoesAlike}
use Rattle.simulation.proofs.Instructions.StackOperands.{fine, three_operands, two_operands}
use Rattle.simulation.proofs.Memory.TypesAtAddresses.{may_be_used_as_is}
use Rattle.interpreter.proofs.cil_model.SameLaws.{never, same_type_equal}
use Rattle.interpreter.proofs.cil_model.Lists.{none_is_some}
use Rattle.simulation.proofs.Memory.MemoryModels.{MemoryModel, mutator_in}
use Rattle.interpreter.proofs.reference_machine.TypedStates.StateChanges.{element_typed, array_typed}
use Rattle.collector.specs.References.{holds_reference, is_reference_value}
use Rattle.simulation.proofs.Memory.ReferenceSlots.{IsLinked, element_linked, element_says, is_reference_kind, same_kinds, value_says, kind_fits, word_value}
use Rattle.interpreter.specs.cil_model.declared.instructions.Instruction.{Instruction}
use Rattle.interpreter.specs.cil_model.declared.types.Element.TheVariants.{Int32 as Int32Element, Int64 as Int64Element, Object, String, Class}
use Rattle.interpreter.specs.cil_model.declared.types.Element.{Element}
use Rattle.interpreter.specs.cil_model.Same.{same_type}
use Rattle.interpreter.specs.cil_model.Declarations.{plain}
use Rattle.interpreter.specs.resolved_code.declared.operations.Operation.{Operation}
use Rattle.interpreter.specs.cil_model.declared.values.ValueKind.{ValueKind}
use Rattle.interpreter.specs.cil_model.declared.values.ValueKind.TheVariants as Kind
use Rattle.interpreter.specs.cil_model.ValueKinds.{kind_at, kind_of_elements, kind_of_type}
use Rattle.simulation.proofs.Memory.ObjectsAtAddresses.{IsArrayThere, there_is_linked}
use Rattle.simulation.proofs.Instructions.ObjectInstructionParts.{alike_transition, given_alike, raised_alike, loaded_alike, replaced_alike, element_alike}

-- ---- the state after a store

-- the state once an element is stored, which is of the old one's kind
element_stored : (s : State) (k : ℕ) (object : HeapObject) (t : DeclaredType) (elements : List StateValue) (n : ℕ) (v : StateValue) (s' : State) → slice_get s.objects k ≡ Some object → object.contents ≡ IsArray t elements →
    with_element s (Born k) n v ≡ Some s' → (s' ≡ with_object s (Born k) (record object { contents = IsArray t (slice_set elements n v) })) × ((old : StateValue) → slice_get elements n ≡ Some old → same_kind old v ≡ true)
element_stored s k object t elements n v s' there holds is =
    let by_object =
    subst (λ x. option_and_then (λ (y : HeapObject). option_and_then (λ (array : DeclaredType × List StateValue). option_map (λ vs. with_object s (Born k) (record y { contents = IsArray array.0 vs })) (replaced_at n v array.1)) (elements_of_contents y.contents)) x ≡ Some s') there is in
    let by_contents =
    subst (λ c. option_and_then (λ (array : DeclaredType × List StateValue). option_map (λ vs. with_object s (Born k) (record object { contents = IsArray array.0 vs })) (replaced_at n v array.1)) (elements_of_contents c) ≡ Some s') holds by_object in
    by_old (slice_get elements n) refl by_contents
  where
    IsAfter : Type 0
    IsAfter = (s' ≡ with_object s (Born k) (record object { contents = IsArray t (slice_set elements n v) })) × ((old : StateValue) → slice_get elements n ≡ Some old → same_kind old v ≡ true)

    by_kind : (x : StateValue) → slice_get elements n ≡ Some x → (b : Bool) → same_kind x v ≡ b → option_map (λ vs. with_object s (Born k) (record object { contents = IsArray t vs })) (if b then Some (slice_set elements n v) else None) ≡ Some s' → IsAfter
    by_kind x found true kinds e =
        (sym (same_Some (with_object s (Born k) (record object { contents = IsArray t (slice_set elements n v) })) s' e), λ old is. subst (λ y. same_kind y v ≡ true) (same_Some x old (sym found ∙ is)) kinds)
    by_kind x found false kinds e = none_is_some s' e

    by_old : (old : Option StateValue) → slice_get elements n ≡ old → option_map (λ vs. with_object s (Born k) (record object { contents = IsArray t vs })) (same_kind_or_none old v (slice_set elements n v)) ≡ Some s' → IsAfter
    by_old None found e = none_is_some s' e
    by_old (Some old) found e = by_kind old found (same_kind old v) refl e

-- ---- kinds of elements

-- the kind of an element that is an integer of the type
of_integer : (t : DeclaredType) (e : Element) → IsTrue (same_type t (plain e)) → kind_at e 0 ≡ kind_of_type t
of_integer t e same = ap kind_of_type (sym (same_type_equal t (plain e) same))

-- the kind of a reference
reference_kind : (e : Element) (n : ℕ) → IsTrue (is_reference_element e n) → Kind.Ref ≡ kind_at e n
reference_kind e (suc n) h = refl
reference_kind Int32Element zero h = never h
reference_kind Int64Element zero h = never h
reference_kind Object zero h = refl
reference_kind String zero h = refl
reference_kind (Class c) zero h = refl

-- the kind of the elements that ldelem takes
elements_kind : (kind : ElementKind) (t : DeclaredType) → IsTrue (is_of_element_kind kind t) → kind_of_elements kind ≡ kind_of_type t
elements_kind kinds.Int32 t h = of_integer t Int32Element h
elements_kind kinds.Int64 t h = of_integer t Int64Element h
elements_kind kinds.Reference t h = reference_kind t.element t.brackets h

module _ (here : StepContext) (model : MemoryModel here.tree) (name : Names) (m : Frames) (o : Objects) (statics : List Value) (printed : List ℕ) (s : State) (f : StateFrame) (below : List StateFrame) where
  module _ (i : Instruction) (operation : Operation) (at : IsSetting here model name m o statics printed s f below i operation) where
    -- ---- a slot

    -- an array's element is loaded
    slot_loaded : (a : Addr) (n : ObjectName) (t : DeclaredType) (elements : List StateValue) → name a.number ≡ Some n → array_at s n ≡ Some (t, elements) → (array : IsArrayThere here.tree name o s (model.reads name o statics s at.memory.fits at.running.typed) a n t elements) →
        (kind : ValueKind) → kind ≡ kind_of_type t → (slot : ℕ) (old : StateValue) → slice_get elements slot ≡ Some old → (rest : List Value) (rest' : List StateValue) → Agree (IsValue name) rest rest' → length rest ≤ length m.running.stack →
        DoesAlike here model name m o statics printed s f below (of_objects o statics printed (load_slot kind slot a (with_stack m rest) o)) (next here s f below (old ∷ rest'))
    slot_loaded a n t elements named there array kind fits slot old found rest rest' k shorter =
        let held = agree_get (IsWord name) array.thing.cell.slots elements array.values slot old found in
        let same = fits ∙ kind_fits here.tree at.running.accepted.legal s old t (element_typed here.tree at.running.accepted.legal s t elements slot old (array_typed here.tree at.running.accepted.legal s at.running.typed n t elements there) found) in
        loaded_alike here model name m o statics printed s f below i operation at a array.thing.cell array.thing.lies slot held.0 held.1 kind old (word_value name (model.reads name o statics s at.memory.fits at.running.typed).small held.0 old kind held.2 same) rest rest' k shorter

    -- an array's element is stored
    slot_stored : (a : Addr) (n : ObjectName) (t : DeclaredType) (elements : List StateValue) → name a.number ≡ Some n → array_at s n ≡ Some (t, elements) → (array : IsArrayThere here.tree name o s (model.reads name o statics s at.memory.fits at.running.typed) a n t elements) →
        (v : Value) (u : StateValue) → IsValue name v u → (slot : ℕ) (old : StateValue) → slice_get elements slot ≡ Some old → (rest : List Value) (rest' : List StateValue) → Agree (IsValue name) rest rest' →
        IsTypedEffect here.tree (state_given (with_element s n slot u) (λ s'. onward_frame f below s' rest')) →
        DoesAlike here model name m o statics printed s f below (of_objects o statics printed (store_slot model.phase v slot a (with_stack m rest) o)) (state_given (with_element s n slot u) (λ s'. onward_frame f below s' rest'))
    slot_stored a n t elements named there array v u refines slot old found rest rest' k typed = given_alike here model name m o statics printed s f below i operation at _ (with_element s n slot u) (λ s'. onward_frame f below s' rest') typed after
      where
        cell : Cell
        cell = array.thing.cell

        object : HeapObject
        object = record array.object { contents = IsArray t (slice_set elements slot u) }

        contents : IsOfContents here.tree name cell.kind (slice_set cell.slots slot (value_word v)) (IsArray t (slice_set elements slot u)) array.object.thread
        contents = subst (λ x. IsOfContents here.tree name x (slice_set cell.slots slot (value_word v)) (IsArray t (slice_set elements slot u)) array.object.thread) (sym array.kind_is)
            (array.type_is, agree_set (IsWord name) cell.slots elements array.values slot (value_word v) u (record { value = v; refines = refines; is = refl }))

        changed : IsCell here.tree name (with_cell_slot slot (value_word v) cell) object
        changed = record { contents = contents; monitor = array.thing.refines.monitor }

        held : (w : ℕ) × (slice_get cell.slots slot ≡ Some w) × IsWord name w old
        held = agree_get (IsWord name) cell.slots elements array.values slot old found

        -- the slot is of the sort of what was there, and so of what comes
        sort : same_kind old u ≡ true → is_reference_value v ≡ holds_reference here.tree cell.kind slot
        sort kinds =
            let typed_old = element_typed here.tree at.running.accepted.legal s t elements slot old (array_typed here.tree at.running.accepted.legal s at.running.typed n t elements there) found in
            value_says name v u refines ∙ sym (same_kinds old u kinds) ∙ ap is_reference_kind (sym (kind_fits here.tree at.running.accepted.legal s old t typed_old)) ∙ sym (element_says here.tree array.kind t array.type_is slot) ∙
            ap (λ k. holds_reference here.tree k slot) (sym array.kind_is)

        -- and so are all
        linked : same_kind old u ≡ true → IsLinked here.tree cell.kind (IsArray t (slice_set elements slot u))
        linked kinds =
            element_linked here.tree cell.kind t elements slot old u found (same_kinds old u kinds)
            (subst (IsLinked here.tree cell.kind) array.holds (there_is_linked here.tree name o s (model.reads name o statics s at.memory.fits at.running.typed) at.running.accepted.legal at.running.typed a n array.object array.thing))

        after : (s' : State) → with_element s n slot u ≡ Some s' → IsTypedEffect here.tree (onward_frame f below s' rest') →
            DoesAlike here model name m o statics printed s f below (of_objects o statics printed (store_slot model.phase v slot a (with_stack m rest) o)) (onward_frame f below s' rest')
        after s' is t' =
            let stored = element_stored s array.thing.number array.object t elements slot u s' array.thing.there array.holds (subst (λ x. with_element s x slot u ≡ Some s') array.thing.name_is is) in
            let same : s' ≡ with_object s (Born array.thing.number) object = stored.0 in
            subst (λ x. DoesAlike here model name m o statics printed s f below (of_objects o statics printed (store_slot model.phase v slot a (with_stack m rest) o)) (onward_frame f below x rest')) (sym same)
            (replaced_alike here model name m o statics printed s f below i operation at a cell array.thing.lies slot held.0 held.1 array.thing.number (named ∙ ap Some array.thing.name_is) v u refines (sort (stored.1 old found)) object (linked (stored.1 old found)) changed rest rest' k)

    -- ---- ldelem and stelem

    -- ldelem.i4, ldelem.i8 and ldelem.ref, by what elements they are for
    load_alike : (test : DeclaredType → Bool) (kind : ValueKind) → ((t : DeclaredType) → IsTrue (test t) → kind ≡ kind_of_type t) → IsTypedEffect here.tree (load_element here s f below test) →
        DoesAlike here model name m o statics printed s f below (of_objects o statics printed (load_element_transition kind m o)) (load_element here s f below test)
    load_alike test kind fits typed =
        two_operands here model name m o statics printed s f below i operation at (of_objects o statics printed)
        (λ array index k. object_of array k o (λ a. index_of index (λ z. when_some (slots_of o a) (λ slots. in_range (checked_index z (length slots)) k o (λ slot. load_slot kind slot a k o)))))
        (λ array index rest. element here s f below test array index (λ n t z v. next here s f below (v ∷ rest)))
        typed
        (λ v w rest u x rest' is is' refines refines' k shorter t.
        element_alike here model name m o statics printed s f below i operation at test v w u x refines refines' (with_stack m rest) (λ a slot. load_slot kind slot a (with_stack m rest) o) (λ n type z old. next here s f below (old ∷ rest')) t
        (λ a n type elements named there array passed slot old found t'.
        slot_loaded a n type elements named there array kind (fits type passed) slot old found rest rest' k (omega (arith, shorter))))

    -- stelem.i4 and stelem.i8
    store_alike : (test : DeclaredType → Bool) → IsTypedEffect here.tree (store_element here s f below test) →
        DoesAlike here model name m o statics printed s f below (of_objects o statics printed (store_element_transition model.phase m o)) (store_element here s f below test)
    store_alike test typed =
        three_operands here model name m o statics printed s f below i operation at (of_objects o statics printed)
        (λ array index v k. object_of array k o (λ a. index_of index (λ z. when_some (slots_of o a) (λ slots. in_range (checked_index z (length slots)) k o (λ slot. store_slot model.phase v slot a k o)))))
        (λ array index v rest. element here s f below test array index (λ n t z old. state_given (with_element s n z v) (λ s'. onward_frame f below s' rest)))
        typed
        (λ v w c rest u x y rest' is is' refines refines' stored k shorter t.
        element_alike here model name m o statics printed s f below i operation at test v w u x refines refines' (with_stack m rest) (λ a slot. store_slot model.phase c slot a (with_stack m rest) o) (λ n type z old. state_given (with_element s n z y) (λ s'. onward_frame f below s' rest')) t
        (λ a n type elements named there array passed slot old found t'.
        slot_stored a n type elements named there array c y stored slot old found rest rest' k t'))

    -- what the reference machine does with a reference, by whether the elements' type admits it
    abbrev tested : ObjectName → ℕ → StateValue → List StateValue → Option Bool → StateEffect
    tested n slot u rest' b = state_given b (λ holds. if holds then state_given (with_element s n slot u) (λ s'. onward_frame f below s' rest') else StateRaises ArrayTypeMismatch)

    -- what the machine does
    abbrev admitted : Value → ℕ → Addr → Frames → Option Bool → ObjectTransition
    admitted v slot a k b = when_some b (λ holds. if holds then store_slot model.phase v slot a k o else Some (k, o, Raises ArrayTypeMismatch))

    -- an array's element is stored, if its type admits the reference
    slot_tested : (a : Addr) (n : ObjectName) (t : DeclaredType) (elements : List StateValue) → name a.number ≡ Some n → array_at s n ≡ Some (t, elements) → (array : IsArrayThere here.tree name o s (model.reads name o statics s at.memory.fits at.running.typed) a n t elements) →
        (v : Value) (u : StateValue) → IsValue name v u → (slot : ℕ) (old : StateValue) → slice_get elements slot ≡ Some old → (rest : List Value) (rest' : List StateValue) → Agree (IsValue name) rest rest' →
        IsTypedEffect here.tree (tested n slot u rest' (may_hold here s f below t u)) →
        DoesAlike here model name m o statics printed s f below (of_objects o statics printed (store_admitted model.phase here.tree v slot a (with_stack m rest) o)) (tested n slot u rest' (may_hold here s f below t u))
    slot_tested a n t elements named there array v u refines slot old found rest rest' k typed =
        alike_transition here model name m o statics printed s f below i operation at _ (of_objects o statics printed (admitted v slot a (with_stack m rest) (may_hold here s f below t u))) (tested n slot u rest' (may_hold here s f below t u))
        (ap (of_objects o statics printed)
        (ap (λ x. when_some (option_and_then (λ (c : Cell). element_in c.kind) x) (λ e. admitted v slot a (with_stack m rest) (may_be_used_as here.tree o v (held_type e)))) array.thing.lies ∙
        ap (λ x. when_some (element_in x) (λ e. admitted v slot a (with_stack m rest) (may_be_used_as here.tree o v (held_type e)))) array.kind_is ∙
        ap (admitted v slot a (with_stack m rest)) (may_be_used_as_is here name o s f below (model.reads name o statics s at.memory.fits at.running.typed) v u t (held_type array.kind) array.type_is refines)))
        (by_class (may_hold here s f below t u) typed)
      where
        by_class : (b : Option Bool) → IsTypedEffect here.tree (tested n slot u rest' b) → DoesAlike here model name m o statics printed s f below (of_objects o statics printed (admitted v slot a (with_stack m rest) b)) (tested n slot u rest' b)
        by_class None t' = elim t' [ ]
        by_class (Some true) t' = slot_stored a n t elements named there array v u refines slot old found rest rest' k t'
        by_class (Some false) t' = raised_alike here model name m o statics printed s f below i operation at (with_stack m rest) ArrayTypeMismatch

    -- stelem.ref (III.4.27)
    reference_alike : IsTypedEffect here.tree (store_reference here s f below) →
        DoesAlike here model name m o statics printed s f below (of_objects o statics printed (store_reference_transition model.phase here.tree m o)) (store_reference here s f below)
    reference_alike typed =
        three_operands here model name m o statics printed s f below i operation at (of_objects o statics printed)
        (λ array index v k. object_of array k o (λ a. index_of index (λ z. when_some (slots_of o a) (λ slots. in_range (checked_index z (length slots)) k o (λ slot. store_admitted model.phase here.tree v slot a k o)))))
        (λ array index v rest. element here s f below is_reference array index (λ n t z old. tested n z v rest (may_hold here s f below t v)))
        typed
        (λ v w c rest u x y rest' is is' refines refines' stored k shorter t.
        element_alike here model name m o statics printed s f below i operation at is_reference v w u x refines refines' (with_stack m rest) (λ a slot. store_admitted model.phase here.tree c slot a (with_stack m rest) o) (λ n type z old. tested n z y rest' (may_hold here s f below type y)) t
        (λ a n type elements named there array passed slot old found t'.
        slot_tested a n type elements named there array c y stored slot old found rest rest' k t'))

  -- ---- each instruction

  -- a machine is at the instruction
  abbrev At : Instruction → Operation → Type 0
  At i operation = IsSetting here model name m o statics printed s f below i operation

  -- it does the same
  abbrev IsAlike : Instruction → Operation → Type 0
  IsAlike i operation = DoesAlike here model name m o statics printed s f below (operation_transition here.tree (mutator_in here model) operation m o statics printed) (execute here s f below i)

  pub load_element_alike : (kind : ElementKind) → At (Named.LoadElement kind) (Resolved.LoadElement kind) → IsAlike (Named.LoadElement kind) (Resolved.LoadElement kind)
  load_element_alike kind at = load_alike (Named.LoadElement kind) (Resolved.LoadElement kind) at (is_of_element_kind kind) (kind_of_elements kind) (elements_kind kind) (fine here model name m o statics printed s f below (Named.LoadElement kind) (Resolved.LoadElement kind) at)

  pub store_element_alike : (kind : ElementKind) → At (Named.StoreElement kind) (Resolved.StoreElement kind) → IsAlike (Named.StoreElement kind) (Resolved.StoreElement kind)
  store_element_alike kinds.Reference at =
      reference_alike (Named.StoreElement kinds.Reference) (Resolved.StoreElement kinds.Reference) at (fine here model name m o statics printed s f below (Named.StoreElement kinds.Reference) (Resolved.StoreElement kinds.Reference) at)
  store_element_alike kinds.Int32 at =
      store_alike (Named.StoreElement kinds.Int32) (Resolved.StoreElement kinds.Int32) at (is_of_element_kind kinds.Int32) (fine here model name m o statics printed s f below (Named.StoreElement kinds.Int32) (Resolved.StoreElement kinds.Int32) at)
  store_element_alike kinds.Int64 at =
      store_alike (Named.StoreElement kinds.Int64) (Resolved.StoreElement kinds.Int64) at (is_of_element_kind kinds.Int64) (fine here model name m o statics printed s f below (Named.StoreElement kinds.Int64) (Resolved.StoreElement kinds.Int64) at)
