-- Instructions on objects, arrays and static fields keep states typed.
use Rattle.std.proofs.Common.{◌≡◌, ◌⊎◌, ℕ, zero, suc, ℤ, pos, negsuc, Bool, true, false, IsTrue, ◌&&◌, if◌then◌else◌, List, [], ◌∷◌, length, replicate, Option, Some, None, option_map, option_and_then, slice_get, refl, inl, inr, sym, ap, ◌∙◌, subst}
use Rattle.std.specs.Option.{option_map_or}
use Rattle.std.proofs.lemmas.Option.{option_and_then_some, same_Some}
use Rattle.cil_model.specs.declared.types.ClassName.{ClassName}
use Rattle.cil_model.specs.declared.types.DeclaredType.{DeclaredType}
use Rattle.cil_model.specs.declared.types.Element.{Element}
use Rattle.cil_model.specs.declared.types.Element.TheVariants.{Int32 as Int32Element, Int64 as Int64Element, String}
use Rattle.cil_model.specs.declared.instructions.ElementKind.{ElementKind}
use Rattle.cil_model.specs.declared.instructions.ElementKind.TheVariants as kinds
use Rattle.cil_model.specs.declared.instructions.Instruction.{Instruction}
use Rattle.cil_model.specs.declared.instructions.Instruction.TheVariants.{LoadField, StoreField, LoadStaticField, StoreStaticField, NewArray, LoadLength, LoadElement, StoreElement, CastClass, IsInstance}
use Rattle.cil_model.specs.declared.instructions.FieldReference.{FieldReference}
use Rattle.cil_model.specs.declared.trees.Field.{Field}
use Rattle.cil_model.specs.declared.reports.Fault.TheVariants.{NullReference, IndexOutOfRange, ArrayTypeMismatch, InvalidCast, OutOfMemory}
use Rattle.cil_model.specs.declared.trees.Tree.{Tree}
use Rattle.cil_model.specs.Same.{same_type}
use Rattle.cil_model.specs.Declarations.{plain}
use Rattle.cil_model.specs.Assignable.{to_itself, is_reference, is_assignable, array_of, held_by, element_of, type_of_class}
use Rattle.cil_model.specs.Chains.{find_field}
use Rattle.cil_model.specs.Fields.{same_key}
use Rattle.cil_model.specs.Bodies.{falls_through}
use Rattle.cil_model.specs.Stacks.{take_one, take_two, take_three}
use Rattle.cil_model.specs.TypeTree.{StackType, Declared, NativeInt, fits}
use Rattle.cil_model.specs.FlowRules.{if_allowed, is_int32, is_int64, is_any_reference, is_index, any_type, passes, is_array_of, held_type_of, element_on_stack, take_operands}
use Rattle.cil_model.proofs.Lists.{none_is_some}
use Rattle.cil_model.proofs.SameLaws.{never, both_first, both_second, either, if_true, same_type_equal, same_type_itself}
use Rattle.cil_model.specs.Legality.{IsLegal}
use Rattle.cil_model.proofs.BelowLaws.{element_is_reference}
use Rattle.cil_model.proofs.CompleteLaws.{test_is_complete}
use Rattle.reference_machine.specs.Growth.{Follows}
use Rattle.reference_machine.specs.Values.{ObjectName, Born, Literal, Value, Int32, Int64, Native, Null, Reference, zero_of}
use Rattle.reference_machine.specs.Arithmetic.{as_index}
use Rattle.reference_machine.specs.States.{Contents, Instance, Array, HeapObject, Frame, State, entry_at, replaced_entry, type_of_contents, type_of, elements_of_contents, field_value, with_field, array_at, with_element, next_name, with_birth}
use Rattle.reference_machine.specs.Effects.{StepContext, Effect, Raises, Sticks, when_some, not_null, onward}
use Rattle.reference_machine.specs.Steps.{key_of, next, new_array, in_range, element, load_element, store_element, may_hold, store_reference, execute}
use Rattle.reference_machine.proofs.Runs.StateChanges.{follows_birth, follows_field, follows_statics, follows_element, mapped_some}
use Rattle.reference_machine.specs.TypedStates.{IsObjectOf, HasType, HasStackType, HaveStackTypes, IsTyped}
use Rattle.reference_machine.proofs.TypedStates.ValueTypes.{stack_keeps}
use Rattle.reference_machine.proofs.TypedStates.RunningFrames.{IsTypedEffect, IsRunning, onward_typed, next_typed}
use Rattle.reference_machine.proofs.TypedStates.StackOperands.{value_fits, from_int32, from_int64, from_index, from_reference, one_typed, two_typed, three_typed, was_allowed}
use Rattle.reference_machine.proofs.TypedStates.StateChanges.{typed_birth, newborn_has_own_type, new_elements_typed, element_typed, loaded_static, stored_static, array_typed, stored_element, loaded_field, stored_field}
use Rattle.reference_machine.proofs.Programs.DeclaredFields.{HasField, static_field_there, field_there}

module _ (tree : Tree) where
  -- an array's own elements may be given where elements of another type are expected: one type, or references that fit
  abbrev pub IsHeldAs : DeclaredType → DeclaredType → Type 0
  IsHeldAs t w = (t ≡ w) ⊎ (IsTrue (is_reference t) × IsTrue (is_reference w) × IsTrue (is_assignable tree t w))

module _ (tree : Tree) (legal : IsLegal tree) (s : State) where
  -- ---- objects and arrays on a stack

  -- null, or an object that is there; P is what is to hold of the value
  pub from_object : (P : Value → Type 0) (v : Value) (a : StackType) → IsTrue (is_any_reference a) → HasStackType tree s v a → P Null → ((n : ObjectName) (u : DeclaredType) → IsObjectOf tree s n u → P (Reference n)) → P v
  from_object P v a any h null each = from_reference tree legal s (λ w. HasStackType tree s w a → P w) v a any h (λ k. null) (λ n. by_type n a) h
    where
      by_type : (n : ObjectName) (b : StackType) → HasStackType tree s (Reference n) b → P (Reference n)
      by_type n (Declared u) k = each n u k
      by_type n _ k = elim k [ ]

  -- arrays that are assignable hold elements that may be given for one another
  arrays_hold : (t w : DeclaredType) → IsTrue (is_assignable tree (array_of t) (array_of w)) → IsHeldAs tree t w
  arrays_hold t w h = by_case (either (same_type t w) (is_reference t && is_reference w && is_assignable tree t w) h)
    where
      by_case : IsTrue (same_type t w) ⊎ IsTrue (is_reference t && is_reference w && is_assignable tree t w) → IsHeldAs tree t w
      by_case (inl same) = inl (same_type_equal t w same)
      by_case (inr k) =
          let both : IsTrue (is_reference t && is_reference w) = both_first (is_reference t && is_reference w) (is_assignable tree t w) k in
          inr (both_first (is_reference t) (is_reference w) both, both_second (is_reference t) (is_reference w) both, both_second (is_reference t && is_reference w) (is_assignable tree t w) k)

  -- what is assignable to an array's type is an array
  array_there : (n : ObjectName) (own w : DeclaredType) → type_of s n ≡ Some own → IsTrue (is_assignable tree own (array_of w)) → (t : DeclaredType) × (elements : List Value) × (array_at s n ≡ Some (t, elements)) × IsHeldAs tree t w
  array_there (Literal characters) own w is h = never (subst (λ x. IsTrue (is_assignable tree x (array_of w))) (sym (same_Some (plain String) own is)) h)
  array_there (Born k) own w is h = by_object (slice_get s.objects k) refl is
    where
      by_contents : (c : Contents) → type_of_contents c ≡ own → array_at s (Born k) ≡ elements_of_contents c → (t : DeclaredType) × (elements : List Value) × (array_at s (Born k) ≡ Some (t, elements)) × IsHeldAs tree t w
      by_contents (Instance c fields) e there = never (subst (λ x. IsTrue (is_assignable tree x (array_of w))) (sym e) h)
      by_contents (Array t elements) e there = (t, elements, there, arrays_hold t w (subst (λ x. IsTrue (is_assignable tree x (array_of w))) (sym e) h))

      by_object : (o : Option HeapObject) → slice_get s.objects k ≡ o → option_map (λ (x : HeapObject). type_of_contents x.contents) o ≡ Some own → (t : DeclaredType) × (elements : List Value) × (array_at s (Born k) ≡ Some (t, elements)) × IsHeldAs tree t w
      by_object None there e = none_is_some own e
      by_object (Some o) there e = by_contents o.contents (same_Some (type_of_contents o.contents) own e) (ap (option_and_then (λ (x : HeapObject). elements_of_contents x.contents)) there)

  -- null, or an array whose elements may be given where those that passed the test are expected
  pub from_array : (P : Value → Type 0) (test : DeclaredType → Bool) (v : Value) (a : StackType) → IsTrue (is_array_of test a) → HasStackType tree s v a → P Null →
      ((n : ObjectName) (t w : DeclaredType) (elements : List Value) → array_at s n ≡ Some (t, elements) → IsHeldAs tree t w → IsTrue (test w) → element_on_stack a ≡ Declared w → P (Reference n)) → P v
  from_array P test Null a passed h null each = null
  from_array P test (Reference n) (Declared u) passed h null each = by_brackets u.element u.brackets passed h (λ w e. e)
    where
      by_brackets : (e : Element) (m : ℕ) → IsTrue (passes test (held_by e m)) → IsObjectOf tree s n (record { element = e; brackets = m }) → ((w : DeclaredType) → held_type_of (held_by e m) ≡ Declared w → element_on_stack (Declared u) ≡ Declared w) → P (Reference n)
      by_brackets e zero passes' k same = never passes'
      by_brackets e (suc m) passes' k same =
          let w : DeclaredType = record { element = e; brackets = m } in
          let found = array_there n k.own w k.is k.fits in
          each n found.0 w found.1 found.2 found.3 passes' (same w refl)
  from_array P test (Int32 z) (Declared u) passed h null each = never (subst (λ x. IsTrue (passes test (element_of x))) h passed)
  from_array P test (Int64 z) (Declared u) passed h null each = never (subst (λ x. IsTrue (passes test (element_of x))) h passed)
  from_array P test (Int32 z) NativeInt passed h null each = never passed
  from_array P test (Int64 z) NativeInt passed h null each = never passed
  from_array P test (Native z) NativeInt passed h null each = never passed
  from_array P test (Reference n) NativeInt passed h null each = never passed
  from_array P test _ _ passed h null each = elim h [ ]

  -- ---- what an array holds, where another type is expected

  -- integers are held as themselves alone
  held_alone : (t w integer : DeclaredType) → is_reference integer ≡ false → IsHeldAs tree t w → IsTrue (same_type w integer) → t ≡ integer
  held_alone t w integer no_reference (inl e) same = e ∙ same_type_equal w integer same
  held_alone t w integer no_reference (inr h) same = never (sym no_reference ∙ subst (λ x. IsTrue (is_reference x)) (same_type_equal w integer same) h.1)

  -- an array that is taken for one of references is one
  held_reference : (t w : DeclaredType) → IsHeldAs tree t w → IsTrue (is_reference w) → IsTrue (is_reference t)
  held_reference t w (inl e) r = subst (λ x. IsTrue (is_reference x)) (sym e) r
  held_reference t w (inr h) r = h.0

  -- its elements fit where the others are expected
  held_fits : (t w : DeclaredType) → IsHeldAs tree t w → IsTrue (is_assignable tree t w)
  held_fits t w (inl e) = subst (λ x. IsTrue (is_assignable tree t x)) e (test_is_complete tree legal t t to_itself)
  held_fits t w (inr h) = h.2

module _ (here : StepContext) (s : State) (f : Frame) (below : List Frame) where
  abbrev Fine : Effect → Type 0
  Fine e = IsTypedEffect here.tree e

  -- an instruction at which the frame is
  abbrev At : Instruction → Type 0
  At i = IsRunning here s f below i

  -- ---- parts of an instruction

  -- on with what is there
  from_given : {X : Type 0} (go : X → Effect) (o : Option X) (x : X) → o ≡ Some x → Fine (go x) → Fine (when_some o go)
  from_given go o x is h = subst (λ y. Fine (when_some y go)) (sym is) h

  -- one way where a test holds, and otherwise another way
  from_test : (b : Bool) (x y : Effect) → (IsTrue b → Fine x) → Fine y → Fine (if b then x else y)
  from_test true x y h k = h refl
  from_test false x y h k = k

  -- a test that is known to hold
  from_passed : (b : Bool) (x y : Effect) → IsTrue b → Fine x → Fine (if b then x else y)
  from_passed b x y is h = subst Fine (sym (if_true b x y is)) h

  module _ (i : Instruction) (running : At i) (falls : IsTrue (falls_through i)) where
    -- on to the next instruction with a stack whose types are the result
    on : (rest : List Value) (types : List StackType) → HaveStackTypes here.tree s rest types → types ≡ running.result → Fine (next here s f below rest)
    on rest types h e = next_typed here s f below i running falls rest (subst (HaveStackTypes here.tree s rest) e h)

    -- the same in a state that follows
    on_after : (s' : State) → IsTyped here.tree s' → Follows s s' → (rest : List Value) (types : List StackType) → HaveStackTypes here.tree s' rest types → types ≡ running.result → Fine (onward f below s' rest)
    on_after s' typed follows rest types h e = onward_typed here s f below i running falls s' typed follows rest (subst (HaveStackTypes here.tree s' rest) e h)

    -- ---- casts

    -- an object of another class goes another way
    cast_typed : (t : DeclaredType) → IsTrue (is_reference t) → (otherwise : List Value → Effect) (v : Value) (a : StackType) (rest : List Value) (types : List StackType) → IsTrue (is_any_reference a) → HasStackType here.tree s v a →
        HaveStackTypes here.tree s rest types → Declared t ∷ types ≡ running.result → Fine (otherwise rest) →
        Fine (when_some (may_hold here s f below t v) (λ holds. if holds then next here s f below (v ∷ rest) else otherwise rest))
    cast_typed t reference otherwise v a rest types any h rest_typed e other =
        from_object here.tree running.accepted.legal s (λ w. Fine (when_some (may_hold here s f below t w) (λ holds. if holds then next here s f below (w ∷ rest) else otherwise rest))) v a any h
        (on (Null ∷ rest) (Declared t ∷ types) (reference, rest_typed) e) (λ n u k.
        from_given (λ holds. if holds then next here s f below (Reference n ∷ rest) else otherwise rest) (may_hold here s f below t (Reference n)) (is_assignable here.tree k.own t) (ap (option_map (λ own. is_assignable here.tree own t)) k.is)
        (from_test (is_assignable here.tree k.own t) (next here s f below (Reference n ∷ rest)) (otherwise rest)
        (λ fits. on (Reference n ∷ rest) (Declared t ∷ types) (record { own = k.own; is = k.is; fits = fits; monitor = k.monitor }, rest_typed) e) other))

    -- ---- elements

    -- outside of the array the instruction faults
    in_range_typed : (at : ℕ → Option Value) (go : ℕ → Value → Effect) (z : ℤ) → ((k : ℕ) (v : Value) → at k ≡ Some v → Fine (go k v)) → Fine (in_range here s f below at go z)
    in_range_typed at go (negsuc k) each = tt
    in_range_typed at go (pos k) each = by_value (at k) refl
      where
        by_value : (o : Option Value) → at k ≡ o → Fine (option_map_or (go k) o (Raises IndexOutOfRange))
        by_value None is = tt
        by_value (Some v) is = each k v is

    -- an index is a number
    index_there : (index : Value) (b : StackType) → IsTrue (is_index b) → HasStackType here.tree s index b → (z : ℤ) × (as_index index ≡ Some z)
    index_there index b is h = from_index here.tree running.accepted.legal s (λ v. (z : ℤ) × (as_index v ≡ Some z)) index b is h (λ z. (z, refl)) (λ z. (z, refl))

    -- an element of an array that passes the test of the types, and so that of the machine
    array_element : (test own_test : DeclaredType → Bool) → ((t w : DeclaredType) → IsHeldAs here.tree t w → IsTrue (test w) → IsTrue (own_test t)) → (go : ObjectName → DeclaredType → ℕ → Value → Effect) (array index : Value) (a b : StackType) →
        IsTrue (is_array_of test a) → IsTrue (is_index b) → HasStackType here.tree s array a → HasStackType here.tree s index b →
        ((n : ObjectName) (t w : DeclaredType) (elements : List Value) (k : ℕ) (v : Value) → array_at s n ≡ Some (t, elements) → IsHeldAs here.tree t w → IsTrue (test w) → element_on_stack a ≡ Declared w → slice_get elements k ≡ Some v → Fine (go n t k v)) →
        Fine (element here s f below own_test array index go)
    array_element test own_test tests go array index a b is_array is_index' h k each =
        from_array here.tree running.accepted.legal s (λ x. Fine (element here s f below own_test x index go)) test array a is_array h tt (λ n t w elements there held_type_of passed on_stack.
        let at = index_there index b is_index' k in
        from_given (λ z. when_some (array_at s n) (λ (x : DeclaredType × List Value). if own_test x.0 then in_range here s f below (slice_get x.1) (go n x.0) z else Sticks)) (as_index index) at.0 at.1
        (from_given (λ (x : DeclaredType × List Value). if own_test x.0 then in_range here s f below (slice_get x.1) (go n x.0) at.0 else Sticks) (array_at s n) (t, elements) there
        (from_passed (own_test t) (in_range here s f below (slice_get elements) (go n t) at.0) Sticks (tests t w held_type_of passed)
        (in_range_typed (slice_get elements) (go n t) at.0 (λ m v is. each n t w elements m v there held_type_of passed on_stack is)))))

    -- ---- operands that fit

    -- an operand of the type that it fits
    one_fitting : (go : Value → List Value → Effect) (t : DeclaredType) (vs : List Value) (st result : List StackType) → HaveStackTypes here.tree s vs st → take_operands here.tree (t ∷ []) st ≡ Some result →
        ((v : Value) (rest : List Value) (types : List StackType) → HasType here.tree s v t → HaveStackTypes here.tree s rest types → types ≡ result → Fine (go v rest)) → Fine (take_one Sticks vs go)
    one_fitting go t vs [] result h e each = none_is_some result e
    one_fitting go t [] (a ∷ st) result h e each = elim h [ ]
    one_fitting go t (v ∷ rest) (a ∷ st) result h e each = by_test (fits here.tree a t) refl e
      where
        by_test : (b : Bool) → fits here.tree a t ≡ b → (if b then Some st else None) ≡ Some result → Fine (go v rest)
        by_test true is e' = each v rest st (value_fits here.tree running.accepted.legal s v a t is h.0) h.1 (same_Some st result e')
        by_test false is e' = none_is_some result e'

    -- two of them
    two_fitting : (go : Value → Value → List Value → Effect) (t u : DeclaredType) (vs : List Value) (st result : List StackType) → HaveStackTypes here.tree s vs st → take_operands here.tree (t ∷ u ∷ []) st ≡ Some result →
        ((v w : Value) (rest : List Value) (types : List StackType) → HasType here.tree s v t → HasType here.tree s w u → HaveStackTypes here.tree s rest types → types ≡ result → Fine (go v w rest)) → Fine (take_two Sticks vs go)
    two_fitting go t u vs [] result h e each = none_is_some result e
    two_fitting go t u [] (a ∷ st) result h e each = elim h [ ]
    two_fitting go t u (w ∷ vs) (b ∷ st) result h e each = by_test (fits here.tree b u) refl e
      where
        second : (xs : List Value) (ys : List StackType) → HaveStackTypes here.tree s xs ys → take_operands here.tree (t ∷ []) ys ≡ Some result → IsTrue (fits here.tree b u) → Fine (take_two Sticks (w ∷ xs) go)
        second xs [] k e' is = none_is_some result e'
        second [] (a ∷ ys) k e' is = elim k [ ]
        second (v ∷ rest) (a ∷ ys) k e' is = by_first (fits here.tree a t) refl e'
          where
            by_first : (c : Bool) → fits here.tree a t ≡ c → (if c then Some ys else None) ≡ Some result → Fine (go v w rest)
            by_first true is' e'' = each v w rest ys (value_fits here.tree running.accepted.legal s v a t is' k.0) (value_fits here.tree running.accepted.legal s w b u is h.0) k.1 (same_Some ys result e'')
            by_first false is' e'' = none_is_some result e''

        by_test : (c : Bool) → fits here.tree b u ≡ c → (if c then take_operands here.tree (t ∷ []) st else None) ≡ Some result → Fine (take_two Sticks (w ∷ vs) go)
        by_test true is e' = second vs st h.1 e' is
        by_test false is e' = none_is_some result e'

    -- ---- fields

    -- null, or an object of a class's type
    from_instance : (P : Value → Type 0) (c : ClassName) (v : Value) → HasType here.tree s v (type_of_class c) → P Null → ((n : ObjectName) → IsObjectOf here.tree s n (type_of_class c) → P (Reference n)) → P v
    from_instance P c Null h null each = null
    from_instance P c (Reference n) h null each = each n h
    from_instance P c (Native z) h null each = elim h [ ]
    from_instance P c _ h null each = never (subst (λ t. IsTrue (is_reference t)) h (element_is_reference here.tree (Some c) 0))

    -- the value of the field that is found, of the object on the stack
    load_of_object : (r : FieldReference) (d : ClassName) (g : Field) → find_field here.tree false r ≡ Some (d, g) → (v : Value) (rest : List Value) (types : List StackType) → HasType here.tree s v (type_of_class r.owner) →
        HaveStackTypes here.tree s rest types → Declared r.field_type ∷ types ≡ running.result → Fine (not_null v NullReference (λ n. when_some (field_value s n (key_of (d, g))) (λ w. next here s f below (w ∷ rest))))
    load_of_object r d g found v rest types h rest_typed e =
        from_instance (λ x. Fine (not_null x NullReference (λ n. when_some (field_value s n (key_of (d, g))) (λ w. next here s f below (w ∷ rest))))) r.owner v h tt (λ n k.
        let at : HasField here.tree s n (key_of (d, g)) r.field_type = field_there here.tree running.accepted.legal s r d g found n k in
        let loaded = loaded_field here.tree running.accepted.legal s running.typed n at.object at.class_name at.fields (key_of (d, g)) r.field_type at.there at.holds at.entry in
        from_given (λ w. next here s f below (w ∷ rest)) (field_value s n (key_of (d, g))) loaded.0 loaded.1 (on (loaded.0 ∷ rest) (Declared r.field_type ∷ types) (loaded.2, rest_typed) e))

    -- a value of its type put there
    store_in_object : (r : FieldReference) (d : ClassName) (g : Field) → find_field here.tree false r ≡ Some (d, g) → (v w : Value) (rest : List Value) (types : List StackType) → HasType here.tree s v (type_of_class r.owner) → HasType here.tree s w r.field_type →
        HaveStackTypes here.tree s rest types → types ≡ running.result → Fine (not_null v NullReference (λ n. when_some (with_field s n (key_of (d, g)) w) (λ s'. onward f below s' rest)))
    store_in_object r d g found v w rest types h value rest_typed e =
        from_instance (λ x. Fine (not_null x NullReference (λ n. when_some (with_field s n (key_of (d, g)) w) (λ s'. onward f below s' rest)))) r.owner v h tt (λ n k.
        let at : HasField here.tree s n (key_of (d, g)) r.field_type = field_there here.tree running.accepted.legal s r d g found n k in
        let stored = stored_field here.tree running.accepted.legal s running.typed n at.object at.class_name at.fields (key_of (d, g)) r.field_type at.there at.holds at.entry w value in
        let follows : Follows s stored.0 = follows_field s n (key_of (d, g)) w stored.0 stored.1 in
        from_given (λ s'. onward f below s' rest) (with_field s n (key_of (d, g)) w) stored.0 stored.1 (on_after stored.0 stored.2 follows rest types (stack_keeps here.tree s stored.0 follows rest types rest_typed) e))

    -- ---- elements of one type

    -- an integer's tests hold of an array of that integer alone
    integer_tests : (integer : DeclaredType) → is_reference integer ≡ false → (t w : DeclaredType) → IsHeldAs here.tree t w → IsTrue (same_type w integer) → IsTrue (same_type t integer)
    integer_tests integer no_reference t w held_type_of passed =
        subst (λ x. IsTrue (same_type x integer)) (sym (held_alone here.tree running.accepted.legal s t w integer no_reference held_type_of passed)) (same_type_itself integer)

    -- an element of an array of that integer is that integer
    load_integer : (integer : DeclaredType) → is_reference integer ≡ false → take_two None running.stack (λ a b rest. if_allowed (is_array_of (λ t. same_type t integer) a && is_index b) (Declared integer ∷ rest)) ≡ Some running.result →
        Fine (load_element here s f below (λ t. same_type t integer))
    load_integer integer no_reference flows = two_typed here.tree s _ _ f.stack running.stack running.result running.values flows (λ array index a b rest types h k rest_typed e.
        let passed = was_allowed (is_array_of (λ t. same_type t integer) a && is_index b) (Declared integer ∷ types) running.result e in
        array_element (λ t. same_type t integer) (λ t. same_type t integer) (integer_tests integer no_reference) (λ n t m v. next here s f below (v ∷ rest)) array index a b (both_first _ _ passed.0) (both_second (is_array_of (λ t. same_type t integer) a) _ passed.0) h k (λ n t w elements m v there held_type_of same on_stack is.
        let own : HasType here.tree s v t = element_typed here.tree running.accepted.legal s t elements m v (array_typed here.tree running.accepted.legal s running.typed n t elements there) is in
        on (v ∷ rest) (Declared integer ∷ types) (subst (λ x. HasType here.tree s v x) (held_alone here.tree running.accepted.legal s t w integer no_reference held_type_of same) own, rest_typed) passed.1))

    -- on after a store of a value of the elements' own type
    stored_on : (rest : List Value) (types : List StackType) → HaveStackTypes here.tree s rest types → types ≡ running.result → (n : ObjectName) (t : DeclaredType) (elements : List Value) (m : ℕ) (v old : Value) →
        array_at s n ≡ Some (t, elements) → slice_get elements m ≡ Some old → HasType here.tree s v t → Fine (when_some (with_element s n m v) (λ s'. onward f below s' rest))
    stored_on rest types rest_typed e n t elements m v old there is own =
        let stored = stored_element here.tree running.accepted.legal s running.typed n t elements m v old there is own in
        let follows : Follows s stored.0 = follows_element s n m v stored.0 stored.1 in
        from_given (λ s'. onward f below s' rest) (with_element s n m v) stored.0 stored.1 (on_after stored.0 stored.2 follows rest types (stack_keeps here.tree s stored.0 follows rest types rest_typed) e)

    -- and only that integer is stored in it
    store_integer : (integer : DeclaredType) → is_reference integer ≡ false → (known : StackType → Bool) → ((v : Value) (c : StackType) → IsTrue (known c) → HasStackType here.tree s v c → HasType here.tree s v integer) →
        take_three None running.stack (λ a b c rest. if_allowed (is_array_of (λ t. same_type t integer) a && is_index b && known c) rest) ≡ Some running.result → Fine (store_element here s f below (λ t. same_type t integer))
    store_integer integer no_reference known known_typed flows = three_typed here.tree s _ _ f.stack running.stack running.result running.values flows (λ array index value a b c rest types h k l rest_typed e.
        let passed = was_allowed (is_array_of (λ t. same_type t integer) a && is_index b && known c) types running.result e in
        let first : IsTrue (is_array_of (λ t. same_type t integer) a && is_index b) = both_first _ (known c) passed.0 in
        array_element (λ t. same_type t integer) (λ t. same_type t integer) (integer_tests integer no_reference) (λ n t m old. when_some (with_element s n m value) (λ s'. onward f below s' rest)) array index a b (both_first _ _ first) (both_second (is_array_of (λ t. same_type t integer) a) _ first) h k (λ n t w elements m old there held_type_of same on_stack is.
        let own : HasType here.tree s value t = subst (λ x. HasType here.tree s value x) (sym (held_alone here.tree running.accepted.legal s t w integer no_reference held_type_of same)) (known_typed value c (both_second (is_array_of (λ t. same_type t integer) a && is_index b) _ passed.0) l) in
        stored_on rest types rest_typed passed.1 n t elements m value old there is own))

    -- an element of an array of references is of the type that the verifier takes for its own
    load_reference : take_two None running.stack (λ a b rest. if_allowed (is_array_of is_reference a && is_index b) (element_on_stack a ∷ rest)) ≡ Some running.result → Fine (load_element here s f below is_reference)
    load_reference flows = two_typed here.tree s _ _ f.stack running.stack running.result running.values flows (λ array index a b rest types h k rest_typed e.
        let passed = was_allowed (is_array_of is_reference a && is_index b) (element_on_stack a ∷ types) running.result e in
        array_element is_reference is_reference (held_reference here.tree running.accepted.legal s) (λ n t m v. next here s f below (v ∷ rest)) array index a b (both_first _ _ passed.0) (both_second (is_array_of is_reference a) _ passed.0) h k (λ n t w elements m v there held_type_of same on_stack is.
        let own : HasType here.tree s v t = element_typed here.tree running.accepted.legal s t elements m v (array_typed here.tree running.accepted.legal s running.typed n t elements there) is in
        let required : HasType here.tree s v w = value_fits here.tree running.accepted.legal s v (Declared t) w (held_fits here.tree running.accepted.legal s t w held_type_of) own in
        on (v ∷ rest) (element_on_stack a ∷ types) (subst (λ x. HasStackType here.tree s v x) (sym on_stack) required, rest_typed) passed.1))

    -- a value that an array may hold, by its own class, is stored; otherwise the instruction faults
    held_or_fault : (rest : List Value) (types : List StackType) → HaveStackTypes here.tree s rest types → types ≡ running.result → (n : ObjectName) (t : DeclaredType) (elements : List Value) (m : ℕ) (v old : Value) (c : StackType) →
        array_at s n ≡ Some (t, elements) → slice_get elements m ≡ Some old → IsTrue (is_reference t) → IsTrue (is_any_reference c) → HasStackType here.tree s v c →
        Fine (when_some (may_hold here s f below t v) (λ holds. if holds then when_some (with_element s n m v) (λ s'. onward f below s' rest) else Raises ArrayTypeMismatch))
    held_or_fault rest types rest_typed e n t elements m v old c there is reference any h =
        from_object here.tree running.accepted.legal s (λ x. Fine (when_some (may_hold here s f below t x) (λ holds. if holds then when_some (with_element s n m x) (λ s'. onward f below s' rest) else Raises ArrayTypeMismatch))) v c any h
        (stored_on rest types rest_typed e n t elements m Null old there is reference) (λ o u k.
        from_given (λ holds. if holds then when_some (with_element s n m (Reference o)) (λ s'. onward f below s' rest) else Raises ArrayTypeMismatch) (may_hold here s f below t (Reference o)) (is_assignable here.tree k.own t) (ap (option_map (λ own. is_assignable here.tree own t)) k.is)
        (from_test (is_assignable here.tree k.own t) (when_some (with_element s n m (Reference o)) (λ s'. onward f below s' rest)) (Raises ArrayTypeMismatch)
        (λ fits. stored_on rest types rest_typed e n t elements m (Reference o) old there is (record { own = k.own; is = k.is; fits = fits; monitor = k.monitor })) tt))

    -- the elements' own type says what is stored
    store_reference_typed : take_three None running.stack (λ a b c rest. if_allowed (is_array_of is_reference a && is_index b && is_any_reference c) rest) ≡ Some running.result → Fine (store_reference here s f below)
    store_reference_typed flows = three_typed here.tree s _ _ f.stack running.stack running.result running.values flows (λ array index value a b c rest types h k l rest_typed e.
        let passed = was_allowed (is_array_of is_reference a && is_index b && is_any_reference c) types running.result e in
        let first : IsTrue (is_array_of is_reference a && is_index b) = both_first _ (is_any_reference c) passed.0 in
        let any : IsTrue (is_any_reference c) = both_second (is_array_of is_reference a && is_index b) _ passed.0 in
        array_element is_reference is_reference (held_reference here.tree running.accepted.legal s)
        (λ n t m old. when_some (may_hold here s f below t value) (λ holds. if holds then when_some (with_element s n m value) (λ s'. onward f below s' rest) else Raises ArrayTypeMismatch)) array index a b (both_first _ _ first) (both_second (is_array_of is_reference a) _ first) h k (λ n t w elements m old there held_type_of passes on_stack is.
        held_or_fault rest types rest_typed passed.1 n t elements m value old c there is (held_reference here.tree running.accepted.legal s t w held_type_of passes) any l))

  -- ---- arrays

  pub new_array_typed : (t : DeclaredType) → At (NewArray t) → Fine (execute here s f below (NewArray t))
  new_array_typed t running = one_typed here.tree s _ _ f.stack running.stack running.result running.values running.flows (λ v a rest types h rest_typed e.
      let passed = was_allowed (is_index a) (Declared (array_of t) ∷ types) running.result e in
      let size = index_there (NewArray t) running refl v a passed.0 h in
      from_given (λ z. new_array here s f below t z rest) (as_index v) size.0 size.1 (by_size size.0 rest types rest_typed passed.1))
    where
      born : (k : ℕ) (rest : List Value) (types : List StackType) → HaveStackTypes here.tree s rest types → Declared (array_of t) ∷ types ≡ running.result → Fine (onward f below (with_birth s (Array t (replicate k (zero_of t)))) (Reference (next_name s) ∷ rest))
      born k rest types rest_typed e =
          let contents : Contents = Array t (replicate k (zero_of t)) in
          let s' : State = with_birth s contents in
          on_after (NewArray t) running refl s' (typed_birth here.tree s running.typed contents (new_elements_typed here.tree s' t k)) (follows_birth s contents) (Reference (next_name s) ∷ rest) (Declared (array_of t) ∷ types)
          (newborn_has_own_type here.tree s running.accepted.legal contents, stack_keeps here.tree s s' (follows_birth s contents) rest types rest_typed) e

      by_refusal : (b : Bool) (k : ℕ) (rest : List Value) → Fine (onward f below (with_birth s (Array t (replicate k (zero_of t)))) (Reference (next_name s) ∷ rest)) →
          Fine (if b then Raises OutOfMemory else onward f below (with_birth s (Array t (replicate k (zero_of t)))) (Reference (next_name s) ∷ rest))
      by_refusal true k rest h = tt
      by_refusal false k rest h = h

      by_size : (z : ℤ) (rest : List Value) (types : List StackType) → HaveStackTypes here.tree s rest types → Declared (array_of t) ∷ types ≡ running.result → Fine (new_array here s f below t z rest)
      by_size (negsuc k) rest types rest_typed e = tt
      by_size (pos k) rest types rest_typed e = by_refusal here.is_refused k rest (born k rest types rest_typed e)

  pub load_length_typed : At LoadLength → Fine (execute here s f below LoadLength)
  load_length_typed running = one_typed here.tree s _ _ f.stack running.stack running.result running.values running.flows (λ v a rest types h rest_typed e.
      let passed = was_allowed (is_array_of any_type a) (NativeInt ∷ types) running.result e in
      let go : DeclaredType × List Value → Effect = λ x. next here s f below (Native (pos (length x.1)) ∷ rest) in
      from_array here.tree running.accepted.legal s (λ x. Fine (not_null x NullReference (λ n. when_some (array_at s n) go))) any_type v a passed.0 h tt (λ n t w elements there held_type_of any on_stack.
      from_given go (array_at s n) (t, elements) there (on LoadLength running refl (Native (pos (length elements)) ∷ rest) (NativeInt ∷ types) (tt, rest_typed) passed.1)))

  pub load_element_typed : (kind : ElementKind) → At (LoadElement kind) → Fine (execute here s f below (LoadElement kind))
  load_element_typed kinds.Int32 running = load_integer (LoadElement kinds.Int32) running refl (plain Int32Element) refl running.flows
  load_element_typed kinds.Int64 running = load_integer (LoadElement kinds.Int64) running refl (plain Int64Element) refl running.flows
  load_element_typed kinds.Reference running = load_reference (LoadElement kinds.Reference) running refl running.flows

  pub store_element_typed : (kind : ElementKind) → At (StoreElement kind) → Fine (execute here s f below (StoreElement kind))
  store_element_typed kinds.Int32 running = store_integer (StoreElement kinds.Int32) running refl (plain Int32Element) refl is_int32 (λ v c is h. from_int32 here.tree running.accepted.legal s (λ x. HasType here.tree s x (plain Int32Element)) v c is h (λ z. refl)) running.flows
  store_element_typed kinds.Int64 running = store_integer (StoreElement kinds.Int64) running refl (plain Int64Element) refl is_int64 (λ v c is h. from_int64 here.tree running.accepted.legal s (λ x. HasType here.tree s x (plain Int64Element)) v c is h (λ z. refl)) running.flows
  store_element_typed kinds.Reference running = store_reference_typed (StoreElement kinds.Reference) running refl running.flows

  -- ---- casts

  pub cast_class_typed : (t : DeclaredType) → At (CastClass t) → Fine (execute here s f below (CastClass t))
  cast_class_typed t running = one_typed here.tree s _ _ f.stack running.stack running.result running.values running.flows (λ v a rest types h rest_typed e.
      let passed = was_allowed (is_any_reference a && is_reference t) (Declared t ∷ types) running.result e in
      cast_typed (CastClass t) running refl t (both_second (is_any_reference a) _ passed.0) (λ others. Raises InvalidCast) v a rest types (both_first _ _ passed.0) h rest_typed passed.1 tt)

  pub is_instance_typed : (t : DeclaredType) → At (IsInstance t) → Fine (execute here s f below (IsInstance t))
  is_instance_typed t running = one_typed here.tree s _ _ f.stack running.stack running.result running.values running.flows (λ v a rest types h rest_typed e.
      let passed = was_allowed (is_any_reference a && is_reference t) (Declared t ∷ types) running.result e in
      let reference : IsTrue (is_reference t) = both_second (is_any_reference a) _ passed.0 in
      cast_typed (IsInstance t) running refl t reference (λ others. next here s f below (Null ∷ others)) v a rest types (both_first _ _ passed.0) h rest_typed passed.1
      (on (IsInstance t) running refl (Null ∷ rest) (Declared t ∷ types) (reference, rest_typed) passed.1))

  -- ---- fields

  pub load_field_typed : (r : FieldReference) → At (LoadField r) → Fine (execute here s f below (LoadField r))
  load_field_typed r running =
      let t : DeclaredType = type_of_class r.owner in
      let go : Value → List Value → ClassName × Field → Effect = λ v rest found. not_null v NullReference (λ n. when_some (field_value s n (key_of found)) (λ w. next here s f below (w ∷ rest))) in
      option_and_then_some _ (find_field here.tree false r) running.result running.flows (λ found is flows.
      mapped_some _ (take_operands here.tree (t ∷ []) running.stack) running.result flows (λ taken is_taken e.
      one_fitting (LoadField r) running refl (λ v rest. when_some (find_field here.tree false r) (go v rest)) t f.stack running.stack taken running.values is_taken (λ v rest types h rest_typed same.
      from_given (go v rest) (find_field here.tree false r) found is
      (load_of_object (LoadField r) running refl r found.0 found.1 is v rest types h rest_typed (ap (λ ts. Declared r.field_type ∷ ts) same ∙ e)))))

  pub store_field_typed : (r : FieldReference) → At (StoreField r) → Fine (execute here s f below (StoreField r))
  store_field_typed r running =
      let t : DeclaredType = type_of_class r.owner in
      let go : Value → Value → List Value → ClassName × Field → Effect = λ v w rest found. not_null v NullReference (λ n. when_some (with_field s n (key_of found) w) (λ s'. onward f below s' rest)) in
      option_and_then_some _ (find_field here.tree false r) running.result running.flows (λ found is flows.
      two_fitting (StoreField r) running refl (λ v w rest. when_some (find_field here.tree false r) (go v w rest)) t r.field_type f.stack running.stack running.result running.values flows (λ v w rest types h value rest_typed e.
      from_given (go v w rest) (find_field here.tree false r) found is (store_in_object (StoreField r) running refl r found.0 found.1 is v w rest types h value rest_typed e)))

  pub load_static_field_typed : (r : FieldReference) → At (LoadStaticField r) → Fine (execute here s f below (LoadStaticField r))
  load_static_field_typed r running =
      let go : ClassName × Field → Effect = λ found. when_some (entry_at same_key (key_of found) s.statics) (λ v. next here s f below (v ∷ f.stack)) in
      mapped_some _ (find_field here.tree true r) running.result running.flows (λ found is e.
      let loaded = loaded_static here.tree running.accepted.legal s running.typed (key_of found) r.field_type (static_field_there here.tree running.accepted.legal r found.0 found.1 is) in
      from_given go (find_field here.tree true r) found is
      (from_given (λ v. next here s f below (v ∷ f.stack)) (entry_at same_key (key_of found) s.statics) loaded.0 loaded.1
      (on (LoadStaticField r) running refl (loaded.0 ∷ f.stack) (Declared r.field_type ∷ running.stack) (loaded.2, running.values) e)))

  pub store_static_field_typed : (r : FieldReference) → At (StoreStaticField r) → Fine (execute here s f below (StoreStaticField r))
  store_static_field_typed r running =
      let go : Value → List Value → ClassName × Field → Effect = λ v rest found. when_some (replaced_entry (key_of found) v s.statics) (λ statics. onward f below (record s { statics = statics }) rest) in
      option_and_then_some _ (find_field here.tree true r) running.result running.flows (λ found is flows.
      one_fitting (StoreStaticField r) running refl (λ v rest. when_some (find_field here.tree true r) (go v rest)) r.field_type f.stack running.stack running.result running.values flows (λ v rest types h rest_typed e.
      let stored = stored_static here.tree running.accepted.legal s running.typed (key_of found) v r.field_type (static_field_there here.tree running.accepted.legal r found.0 found.1 is) h in
      let s' : State = record s { statics = stored.0 } in
      let follows : Follows s s' = follows_statics s (key_of found) v stored.0 stored.1 in
      from_given (go v rest) (find_field here.tree true r) found is
      (from_given (λ statics. onward f below (record s { statics = statics }) rest) (replaced_entry (key_of found) v s.statics) stored.0 stored.1
      (on_after (StoreStaticField r) running refl s' stored.2 follows rest types (stack_keeps here.tree s s' follows rest types rest_typed) e))))
