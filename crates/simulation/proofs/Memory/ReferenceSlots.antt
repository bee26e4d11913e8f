-- A word that holds a value gives that value when it is read as of the value's kind.
-- A slot holds references exactly where the values that are stored there are references.
use Rattle.std.proofs.Common.{◌≡◌, ◌<◌, ◌%◌, ℕ, zero, ℤ, pos, negsuc, Some, IsTrue, if◌then◌else◌, refl, sym, ap, ◌∙◌, subst, arith, inl, inr, suc, ◌+◌, Bool, true, false, List, [], ◌∷◌, ◌++◌, map, length, Option, None, option_map, slice_get, slice_set}
use Rattle.std.specs.Prelude.{FitsSigned}
use Rattle.std.specs.Int.{w32, w64, cast_unsigned, cast_signed}
use Rattle.std.proofs.lemmas.Int.{to_z-of_z}
use Rattle.interpreter.specs.cil_model.declared.types.Element.{Element}
use Rattle.interpreter.specs.cil_model.declared.types.Element.TheVariants.{Int32 as Int32Element, Int64 as Int64Element, Object, String, Class}
use Rattle.interpreter.specs.cil_model.declared.types.DeclaredType.{DeclaredType}
use Rattle.interpreter.specs.cil_model.declared.trees.Tree.{Tree}
use Rattle.interpreter.specs.cil_model.Assignable.{is_reference_element, is_reference}
use Rattle.interpreter.specs.cil_model.Legality.{IsLegal}
use Rattle.interpreter.specs.reference_machine.Values.{Value as StateValue, Int32 as Int32Value, Int64 as Int64Value, Native as NativeValue, Null, Reference, ObjectName, integer_zero, zero_of, same_kind}
use Rattle.interpreter.specs.reference_machine.States.{State, Contents, Instance as IsInstance, Array as IsArray}
use Rattle.reference_machine.specs.TypedStates.{HasType, AllHaveType, HaveFieldTypes, IsTypedContents}
use Rattle.reference_machine.proofs.TypedStates.StackOperands.{kinds_agree}
use Rattle.reference_machine.proofs.TypedStates.InitialStates.{zero_typed}
use Rattle.interpreter.specs.object_memory.declared.addresses.TheConstants.{ADDRESSES}
use Rattle.interpreter.specs.object_memory.declared.values.Value.{Value}
use Rattle.interpreter.specs.object_memory.declared.values.Value.TheVariants.{Int32, Int64, Native, Ref}
use Rattle.interpreter.specs.cil_model.declared.values.ValueKind.{ValueKind}
use Rattle.interpreter.specs.object_memory.Values.{value_word, value_in}
use Rattle.interpreter.specs.cil_model.ValueKinds.{kind_at, kind_of_type}
pub use Rattle.interpreter.specs.cil_model.ValueKinds.{is_reference_kind}
use Rattle.simulation.specs.Refines.{Names, IsValue, int32, int64, native, null_reference, reference, IsWord, IsOfContents}
use Rattle.interpreter.proofs.cil_model.SameLaws.{never}
use Rattle.std.specs.Option.{option_map_or}
use Rattle.std.proofs.lemmas.Option.{same_Some}
use Rattle.interpreter.specs.cil_model.declared.types.ClassName.{ClassName}
use Rattle.interpreter.specs.cil_model.Chains.{is_thread_class}
use Rattle.interpreter.specs.cil_model.Fields.{FieldKey, hidden_slots, slot_types, instance_fields, is_reference_slot}
use Rattle.interpreter.proofs.cil_model.Lists.{none_is_some}
use Rattle.interpreter.specs.resolved_code.ById.{class_name, element_at, type_at}
use Rattle.interpreter.specs.object_memory.declared.kinds.ArrayElement.{ArrayElement}
use Rattle.interpreter.specs.object_memory.declared.kinds.ElementType.{ElementType}
use Rattle.interpreter.specs.object_memory.declared.kinds.ElementType.TheVariants.{Int32 as Int32Type, Int64 as Int64Type, Object as ObjectType, String as StringType, Class as ClassType}
use Rattle.interpreter.specs.object_memory.declared.kinds.Kind.{Kind}
use Rattle.interpreter.specs.object_memory.declared.kinds.Kind.TheVariants.{Array, Instance}
use Rattle.interpreter.specs.cil_model.declared.values.ValueKind.TheVariants as Kinds
use Rattle.collector.specs.References.{holds_reference, is_reference_value, is_reference_element as is_reference_type}
use Rattle.interpreter.specs.instructions.TypeTransitions.{held_type, resolved_element}
use Rattle.collector.proofs.PhaseChanges.StaticFlips.{set_here_or_there}

-- the kind of a value of the reference machine
abbrev pub kind_of_state : StateValue → ValueKind
kind_of_state (Int32Value z) = Kinds.Int32
kind_of_state (Int64Value z) = Kinds.Int64
kind_of_state (NativeValue z) = Kinds.Native
kind_of_state Null = Kinds.Ref
kind_of_state (Reference n) = Kinds.Ref

-- ---- a value's word

-- the word of 32 bits is below the number of addresses
word_is_small : (z : ℤ) → FitsSigned w32 z → cast_unsigned w32 z < ADDRESSES
word_is_small (pos n) h = omega (arith, h.sfits)
word_is_small (negsuc n) h = omega arith

-- such a word is read whole
below_itself : (n : ℕ) → n < ADDRESSES → n % ADDRESSES ≡ n
below_itself n h = omega (arith, h)

module _ (name : Names) (small : (a : ℕ) (n : ObjectName) → name a ≡ Some n → a < ADDRESSES) where
  -- a value is read from its word again
  value_again : (v : Value) (u : StateValue) → IsValue name v u → value_in (kind_of_state u) (value_word v) ≡ v
  value_again v u (int32 z fits) = ap (λ n. Int32 (cast_signed w32 n)) (below_itself (cast_unsigned w32 z) (word_is_small z fits)) ∙ ap Int32 (to_z-of_z w32 z fits)
  value_again v u (int64 z fits) = ap Int64 (to_z-of_z w64 z fits)
  value_again v u (native z fits) = ap Native (to_z-of_z w64 z fits)
  value_again v u null_reference = refl
  value_again v u (reference a n is) = ap (λ x. Ref (record { number = x })) (below_itself a.number (small a.number n is))

  -- a word that holds a value is read as that value
  pub word_value : (w : ℕ) (u : StateValue) (k : ValueKind) → IsWord name w u → k ≡ kind_of_state u → IsValue name (value_in k w) u
  word_value w u k h same =
      subst (λ x. IsValue name (value_in x w) u) (sym same)
      (subst (λ x. IsValue name (value_in (kind_of_state u) x) u) h.is (subst (λ x. IsValue name x u) (sym (value_again h.value u h.refines)) h.refines))

-- ---- kinds of types

-- values of each kind of type
of_references : (u : StateValue) → IsTrue (same_kind Null u) → Kinds.Ref ≡ kind_of_state u
of_references Null h = refl
of_references (Reference n) h = refl
of_references _ h = never h

of_int32 : (u : StateValue) → IsTrue (same_kind (Int32Value (pos 0)) u) → Kinds.Int32 ≡ kind_of_state u
of_int32 (Int32Value z) h = refl
of_int32 _ h = never h

of_int64 : (u : StateValue) → IsTrue (same_kind (Int64Value (pos 0)) u) → Kinds.Int64 ≡ kind_of_state u
of_int64 (Int64Value z) h = refl
of_int64 _ h = never h

-- all types, by their parts
kind_by : (e : Element) (n : ℕ) (u : StateValue) → IsTrue (same_kind (if is_reference_element e n then Null else integer_zero e) u) → kind_at e n ≡ kind_of_state u
kind_by e (suc n) u h = of_references u h
kind_by Int32Element zero u h = of_int32 u h
kind_by Int64Element zero u h = of_int64 u h
kind_by Object zero u h = of_references u h
kind_by String zero u h = of_references u h
kind_by (Class c) zero u h = of_references u h

-- a value of a type is of the type's kind
pub kind_fits : (tree : Tree) → IsLegal tree → (s : State) (u : StateValue) (t : DeclaredType) → HasType tree s u t → kind_of_type t ≡ kind_of_state u
kind_fits tree legal s u t h = kind_by t.element t.brackets u (kinds_agree tree legal s (zero_of t) u t (zero_typed tree s t) h)

-- ---- A slot holds references exactly where the values that are stored there are references.

-- ---- kinds

-- a value of the machine is a reference where the state's is
pub value_says : (name : Names) (v : Value) (u : StateValue) → IsValue name v u → is_reference_value v ≡ is_reference_kind (kind_of_state u)
value_says name v u (int32 z fits) = refl
value_says name v u _ = refl

-- values of one kind are references both, or neither
pub same_kinds : (u v : StateValue) → same_kind u v ≡ true → is_reference_kind (kind_of_state u) ≡ is_reference_kind (kind_of_state v)
same_kinds (Int32Value x) Null e = never e
same_kinds (Int32Value x) (Reference n) e = never e
same_kinds (Int64Value x) Null e = never e
same_kinds (Int64Value x) (Reference n) e = never e
same_kinds (NativeValue x) Null e = never e
same_kinds (NativeValue x) (Reference n) e = never e
same_kinds Null (Int32Value y) e = never e
same_kinds Null (Int64Value y) e = never e
same_kinds Null (NativeValue y) e = never e
same_kinds (Reference n) (Int32Value y) e = never e
same_kinds (Reference n) (Int64Value y) e = never e
same_kinds (Reference n) (NativeValue y) e = never e
same_kinds _ _ e = refl

-- ---- fields

-- the type of the field at an index
type_at_index : (tree : Tree) (s : State) (es : List (FieldKey × StateValue)) (ts : List (FieldKey × DeclaredType)) → HaveFieldTypes tree s es ts → (p : ℕ) (e : FieldKey × StateValue) → slice_get es p ≡ Some e →
    (t : FieldKey × DeclaredType) × (slice_get ts p ≡ Some t) × HasType tree s e.1 t.1
type_at_index tree s [] [] h p e is = none_is_some e is
type_at_index tree s (x ∷ xs) (t ∷ ts) h zero e is = (t, refl, subst (λ (y : FieldKey × StateValue). HasType tree s y.1 t.1) (same_Some x e is) h.1)
type_at_index tree s (x ∷ xs) (t ∷ ts) h (suc p) e is = type_at_index tree s xs ts h.2 p e is
type_at_index tree s _ _ h p e is = elim h [ ]

mapped_at : (ts : List (FieldKey × DeclaredType)) (p : ℕ) (t : FieldKey × DeclaredType) → slice_get ts p ≡ Some t → slice_get (map (λ (f : FieldKey × DeclaredType). Some f.1) ts) p ≡ Some (Some t.1)
mapped_at [] p t is = none_is_some t is
mapped_at (x ∷ xs) zero t is = ap (λ (y : FieldKey × DeclaredType). Some (Some y.1)) (same_Some x t is)
mapped_at (x ∷ xs) (suc p) t is = mapped_at xs p t is

-- after the hidden slots
following : (xs ys : List (Option DeclaredType)) (p : ℕ) (x : Option DeclaredType) → slice_get ys p ≡ Some x → slice_get (xs ++ ys) (length xs + p) ≡ Some x
following [] ys p x is = let index : p ≡ 0 + p = omega arith in subst (λ n. slice_get ys n ≡ Some x) index is
following (z ∷ zs) ys p x is =
    let index : suc (length zs + p) ≡ length (z ∷ zs) + p = omega arith in
    subst (λ n. slice_get (z ∷ (zs ++ ys)) n ≡ Some x) index (following zs ys p x is)

-- the same number of hidden slots, in classes that are both of threads or both not
pub same_hidden : (tree : Tree) (c d : ClassName) → is_thread_class tree c ≡ is_thread_class tree d → length (hidden_slots tree c) ≡ length (hidden_slots tree d)
same_hidden tree c d same = ap (λ b. length {A = Option DeclaredType} (if b then None ∷ [] else [])) same

module _ (tree : Tree) (legal : IsLegal tree) (s : State) where
  -- the slot of a field that is there
  pub slot_says : (c : ClassName) (class : ℕ) → class_name tree class ≡ Some c → (fields : List (FieldKey × StateValue)) → HaveFieldTypes tree s fields (instance_fields tree c) → (p : ℕ) (e : FieldKey × StateValue) → slice_get fields p ≡ Some e →
      holds_reference tree (Instance class) (length (hidden_slots tree c) + p) ≡ is_reference_kind (kind_of_state e.1)
  slot_says c class is fields typed p e there =
      let at = type_at_index tree s fields (instance_fields tree c) typed p e there in
      let slot : slice_get (slot_types tree c) (length (hidden_slots tree c) + p) ≡ Some (Some at.0.1) = following (hidden_slots tree c) (map (λ (f : FieldKey × DeclaredType). Some f.1) (instance_fields tree c)) p (Some at.0.1) (mapped_at (instance_fields tree c) p at.0 at.1) in
      ap (λ x. option_map_or (λ c'. is_reference_slot tree c' (length (hidden_slots tree c) + p)) x false) is ∙
      ap (λ x. option_map_or (λ o. option_map_or is_reference o false) x false) slot ∙
      ap is_reference_kind (kind_fits tree legal s e.1 at.0.1 at.2)

-- the hidden slot of an object of a class of threads holds none
pub hidden_says : (tree : Tree) (c : ClassName) (class : ℕ) → class_name tree class ≡ Some c → is_thread_class tree c ≡ true → holds_reference tree (Instance class) 0 ≡ false
hidden_says tree c class is test =
    ap (λ x. option_map_or (λ c'. is_reference_slot tree c' 0) x false) is ∙
    ap (λ b. option_map_or (λ o. option_map_or is_reference o false) (slice_get ((if b then None ∷ [] else []) ++ map (λ (f : FieldKey × DeclaredType). Some f.1) (instance_fields tree c)) 0) false) test

-- ---- elements

-- the elements of an array, by their type
pub element_says : (tree : Tree) (e : ArrayElement) (t : DeclaredType) → type_at tree (held_type e) ≡ Some t → (slot : ℕ) → holds_reference tree (Array e) slot ≡ is_reference_kind (kind_of_type t)
element_says tree e t is slot = by_type (element_at tree (resolved_element e.element)) refl is
  where
    by_kind : (x : ElementType) (n : ℕ) (d : Element) → element_at tree (resolved_element x) ≡ Some d → is_reference_type x n ≡ is_reference_kind (kind_at d n)
    by_kind x (suc n) d h = refl
    by_kind Int32Type zero d h = ap (λ y. is_reference_kind (kind_at y 0)) (same_Some Int32Element d h)
    by_kind Int64Type zero d h = ap (λ y. is_reference_kind (kind_at y 0)) (same_Some Int64Element d h)
    by_kind ObjectType zero d h = ap (λ y. is_reference_kind (kind_at y 0)) (same_Some Object d h)
    by_kind StringType zero d h = ap (λ y. is_reference_kind (kind_at y 0)) (same_Some String d h)
    by_kind (ClassType c) zero d h = by_name (class_name tree c) h
      where
        by_name : (o : Option ClassName) → option_map Class o ≡ Some d → true ≡ is_reference_kind (kind_at d 0)
        by_name None k = none_is_some d k
        by_name (Some y) k = ap (λ z. is_reference_kind (kind_at z 0)) (same_Some (Class y) d k)

    by_type : (o : Option Element) → element_at tree (resolved_element e.element) ≡ o → option_map (λ d. record { element = d; brackets = e.brackets }) o ≡ Some t → holds_reference tree (Array e) slot ≡ is_reference_kind (kind_of_type t)
    by_type None h k = none_is_some t k
    by_type (Some d) h k = by_kind e.element e.brackets d h ∙ ap (λ (y : DeclaredType). is_reference_kind (kind_of_type y)) (same_Some (record { element = d; brackets = e.brackets }) t k)

-- ---- objects

-- a value of the reference machine is a reference
abbrev pub is_reference_state : StateValue → Bool
is_reference_state u = is_reference_kind (kind_of_state u)

-- the slot of a field, after the hidden one of a class of threads
abbrev pub following_slot : Bool → ℕ → ℕ
following_slot true index = suc index
following_slot false index = index

-- each slot holds a reference exactly where the object's value is one
abbrev pub IsLinked : Tree → Kind → Contents → Type 0
IsLinked tree (Instance class) (IsInstance c fields) =
    (index : ℕ) (e : FieldKey × StateValue) → slice_get fields index ≡ Some e → holds_reference tree (Instance class) (following_slot (is_thread_class tree c) index) ≡ is_reference_state e.1
IsLinked tree (Array a) (IsArray t elements) = (index : ℕ) (u : StateValue) → slice_get elements index ≡ Some u → holds_reference tree (Array a) index ≡ is_reference_state u
IsLinked tree (Instance class) (IsArray t elements) = ⊥
IsLinked tree (Array a) (IsInstance c fields) = ⊥

-- the type of an element
type_of_element : (tree : Tree) (s : State) (t : DeclaredType) (elements : List StateValue) → AllHaveType tree s t elements → (index : ℕ) (u : StateValue) → slice_get elements index ≡ Some u → HasType tree s u t
type_of_element tree s t [] h index u is = none_is_some u is
type_of_element tree s t (x ∷ xs) h zero u is = subst (λ y. HasType tree s y t) (same_Some x u is) h.0
type_of_element tree s t (x ∷ xs) h (suc index) u is = type_of_element tree s t xs h.1 index u is

after_hidden : (tree : Tree) (c : ClassName) (index : ℕ) → length (hidden_slots tree c) + index ≡ following_slot (is_thread_class tree c) index
after_hidden tree c index = by_class (is_thread_class tree c)
  where
    by_class : (b : Bool) → length {A = Option DeclaredType} (if b then None ∷ [] else []) + index ≡ following_slot b index
    by_class true = omega arith
    by_class false = omega arith

-- so it is of a typed object
pub typed_is_linked : (tree : Tree) → IsLegal tree → (s : State) (name : Names) (k : Kind) (slots : List ℕ) (contents : Contents) (thread : Option ℕ) → IsTypedContents tree s contents → IsOfContents tree name k slots contents thread → IsLinked tree k contents
typed_is_linked tree legal s name (Instance class) slots (IsInstance c fields) thread typed h =
    λ index e is. ap (holds_reference tree (Instance class)) (sym (after_hidden tree c index)) ∙ slot_says tree legal s c class h.class_is fields typed.2 index e is
typed_is_linked tree legal s name (Array a) slots (IsArray t elements) thread typed h =
    λ index u is. element_says tree a t h.0 index ∙ ap is_reference_kind (kind_fits tree legal s u t (type_of_element tree s t elements typed index u is))
typed_is_linked tree legal s name _ slots _ thread typed h = elim h [ ]

-- so it is where a value of the same sort comes in place of an element,
pub element_linked : (tree : Tree) (k : Kind) (t : DeclaredType) (elements : List StateValue) (index : ℕ) (old u : StateValue) → slice_get elements index ≡ Some old → is_reference_state old ≡ is_reference_state u → IsLinked tree k (IsArray t elements) →
    IsLinked tree k (IsArray t (slice_set elements index u))
element_linked tree (Array a) t elements index old u is same linked = λ i x there. elim (set_here_or_there elements index i u x there) [
  | inl here ↦ linked i old (subst (λ j. slice_get elements j ≡ Some old) (sym here.0) is) ∙ same ∙ ap is_reference_state (sym here.1)
  | inr still ↦ linked i x still.1
]
element_linked tree (Instance class) t elements index old u is same linked = elim linked [ ]

-- and in that of a field
pub field_linked : (tree : Tree) (k : Kind) (c : ClassName) (fields : List (FieldKey × StateValue)) (index : ℕ) (old new : FieldKey × StateValue) → slice_get fields index ≡ Some old → is_reference_state old.1 ≡ is_reference_state new.1 → IsLinked tree k (IsInstance c fields) →
    IsLinked tree k (IsInstance c (slice_set fields index new))
field_linked tree (Instance class) c fields index old new is same linked = λ i x there. elim (set_here_or_there fields index i new x there) [
  | inl here ↦ linked i old (subst (λ j. slice_get fields j ≡ Some old) (sym here.0) is) ∙ same ∙ ap (λ (e : FieldKey × StateValue). is_reference_state e.1) (sym here.1)
  | inr still ↦ linked i x still.1
]
field_linked tree (Array a) c fields index old new is same linked = elim linked [ ]
