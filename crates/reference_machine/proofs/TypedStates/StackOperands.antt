-- What values are, by what a verifier knows of them, and taking them off a typed stack.
use Rattle.std.proofs.Common.{◌≡◌, ◌⊎◌, ℕ, zero, suc, ℤ, Bool, true, false, IsTrue, ◌&&◌, List, [], ◌∷◌, Option, Some, None, option_map, slice_get, slice_set, refl, inl, inr, sym, ◌∙◌, subst}
use Rattle.std.proofs.lemmas.Option.{same_Some}
use Rattle.cil_model.specs.declared.types.DeclaredType.{DeclaredType}
use Rattle.cil_model.specs.declared.types.Element.{Element}
use Rattle.cil_model.specs.declared.types.Element.TheVariants.{Int32 as Int32Element, Int64 as Int64Element, String}
use Rattle.cil_model.specs.declared.trees.Tree.{Tree}
use Rattle.cil_model.specs.Same.{same_type}
use Rattle.cil_model.specs.Declarations.{plain}
use Rattle.cil_model.specs.Assignable.{is_reference, is_assignable, is_assignable_at}
use Rattle.cil_model.specs.Legality.{IsLegal}
use Rattle.cil_model.specs.Stacks.{take_one, take_two, take_three}
use Rattle.cil_model.specs.TypeTree.{StackType, Declared, NativeInt, Null as NullType, fits}
use Rattle.cil_model.specs.FlowRules.{StackAfter, if_allowed, is_int32, is_int64, is_integer, is_any_reference, is_index, are_integers}
use Rattle.cil_model.proofs.Lists.{none_is_some}
use Rattle.cil_model.proofs.SameLaws.{never, both_first, both_second, either, same_type_equal}
use Rattle.cil_model.proofs.BelowLaws.{element_is_reference, typed as typed_as}
use Rattle.cil_model.proofs.FitsLaws.{fits_below}
use Rattle.reference_machine.specs.Values.{ObjectName, Born, Literal, Value, Int32, Int64, Native, Null, Reference, same_kind}
use Rattle.reference_machine.specs.States.{Contents, Instance, Array, HeapObject, State, type_of_contents, type_of}
use Rattle.reference_machine.specs.Effects.{Effect, Sticks}
use Rattle.reference_machine.specs.TypedStates.{IsObjectOf, HasType, HasStackType, HaveTypes, HaveStackTypes}
use Rattle.reference_machine.proofs.TypedStates.ValueTypes.{assignable_on}
use Rattle.reference_machine.proofs.TypedStates.RunningFrames.{IsTypedEffect}

-- ---- types

-- a type is not both integers
not_both_integers : {A : Type 0} (t : DeclaredType) → t ≡ plain Int32Element → t ≡ plain Int64Element → A
not_both_integers t h k = let P : DeclaredType → Type 0 = λ x. IsTrue (same_type x (plain Int32Element)) in never (subst P (sym h ∙ k) refl)

-- an integer's type is no reference
not_int32 : {A : Type 0} (t : DeclaredType) → t ≡ plain Int32Element → IsTrue (is_reference t) → A
not_int32 t h k = let P : DeclaredType → Type 0 = λ x. IsTrue (is_reference x) in never (subst P h k)

not_int64 : {A : Type 0} (t : DeclaredType) → t ≡ plain Int64Element → IsTrue (is_reference t) → A
not_int64 t h k = let P : DeclaredType → Type 0 = λ x. IsTrue (is_reference x) in never (subst P h k)

-- an integer's type is assignable to itself alone
int32_fits : (tree : Tree) (t : DeclaredType) → IsTrue (is_assignable tree (plain Int32Element) t) → t ≡ plain Int32Element
int32_fits tree t h = by_element t.element t.brackets h
  where
    by_element : (e : Element) (n : ℕ) → IsTrue (is_assignable_at tree Int32Element 0 e n) → typed_as e n ≡ plain Int32Element
    by_element Int32Element zero k = refl
    by_element e (suc n) k = never k
    by_element _ zero k = never k

int64_fits : (tree : Tree) (t : DeclaredType) → IsTrue (is_assignable tree (plain Int64Element) t) → t ≡ plain Int64Element
int64_fits tree t h = by_element t.element t.brackets h
  where
    by_element : (e : Element) (n : ℕ) → IsTrue (is_assignable_at tree Int64Element 0 e n) → typed_as e n ≡ plain Int64Element
    by_element Int64Element zero k = refl
    by_element e (suc n) k = never k
    by_element _ zero k = never k

-- an object's own type is a reference
pub own_is_reference : (tree : Tree) (s : State) (n : ObjectName) (own : DeclaredType) → type_of s n ≡ Some own → IsTrue (is_reference own)
own_is_reference tree s (Literal characters) own e = let P : DeclaredType → Type 0 = λ x. IsTrue (is_reference x) in subst P (same_Some (plain String) own e) refl
own_is_reference tree s (Born n) own e = by_object (slice_get s.objects n) e
  where
    by_contents : (c : Contents) → IsTrue (is_reference (type_of_contents c))
    by_contents (Instance c fields) = element_is_reference tree (Some c) 0
    by_contents (Array t elements) = refl

    by_object : (o : Option HeapObject) → option_map (λ (x : HeapObject). type_of_contents x.contents) o ≡ Some own → IsTrue (is_reference own)
    by_object None h = none_is_some own h
    by_object (Some o) h = let P : DeclaredType → Type 0 = λ x. IsTrue (is_reference x) in subst P (same_Some (type_of_contents o.contents) own h) (by_contents o.contents)

module _ (tree : Tree) (legal : IsLegal tree) (s : State) where
  -- what has an object is a reference
  pub object_is_reference : (n : ObjectName) (t : DeclaredType) → IsObjectOf tree s n t → IsTrue (is_reference t)
  object_is_reference n t h = fits_below tree legal NullType (Declared h.own) t (own_is_reference tree s n h.own h.is) h.fits

  -- a value has the type where it fits
  pub value_fits : (v : Value) (a : StackType) (t : DeclaredType) → IsTrue (fits tree a t) → HasStackType tree s v a → HasType tree s v t
  value_fits (Int32 z) (Declared d) t f h = let P : DeclaredType → Type 0 = λ x. IsTrue (is_assignable tree x t) in int32_fits tree t (subst P h f)
  value_fits (Int64 z) (Declared d) t f h = let P : DeclaredType → Type 0 = λ x. IsTrue (is_assignable tree x t) in int64_fits tree t (subst P h f)
  value_fits (Native z) (Declared d) t f h = h
  value_fits Null (Declared d) t f h = fits_below tree legal NullType (Declared d) t h f
  value_fits (Reference n) (Declared d) t f h = record { own = h.own; is = h.is; fits = assignable_on tree legal s h.own d t h.fits f; monitor = h.monitor }
  value_fits v NativeInt t f h = never f
  value_fits Null NullType t f h = f
  value_fits _ _ t f h = elim h [ ]

  -- two values of one type are of one kind
  pub kinds_agree : (v w : Value) (t : DeclaredType) → HasType tree s v t → HasType tree s w t → IsTrue (same_kind v w)
  kinds_agree (Int32 x) (Int64 y) t h k = not_both_integers t h k
  kinds_agree (Int64 x) (Int32 y) t h k = not_both_integers t k h
  kinds_agree (Int32 x) Null t h k = not_int32 t h k
  kinds_agree (Int64 x) Null t h k = not_int64 t h k
  kinds_agree Null (Int32 y) t h k = not_int32 t k h
  kinds_agree Null (Int64 y) t h k = not_int64 t k h
  kinds_agree (Int32 x) (Reference n) t h k = not_int32 t h (object_is_reference n t k)
  kinds_agree (Int64 x) (Reference n) t h k = not_int64 t h (object_is_reference n t k)
  kinds_agree (Reference m) (Int32 y) t h k = not_int32 t k (object_is_reference m t h)
  kinds_agree (Reference m) (Int64 y) t h k = not_int64 t k (object_is_reference m t h)
  kinds_agree (Native x) w t h k = elim h [ ]
  kinds_agree (Int32 x) (Native y) t h k = elim k [ ]
  kinds_agree (Int64 x) (Native y) t h k = elim k [ ]
  kinds_agree Null (Native y) t h k = elim k [ ]
  kinds_agree (Reference m) (Native y) t h k = elim k [ ]
  kinds_agree _ _ t h k = refl

  -- ---- values by type

  -- an int32 is a number of 32 bits, and so on; P is what is to hold of the value
  pub from_int32 : (P : Value → Type 0) (v : Value) (a : StackType) → IsTrue (is_int32 a) → HasStackType tree s v a → ((z : ℤ) → P (Int32 z)) → P v
  from_int32 P v (Declared t) i h each = by_value v h
    where
      same : t ≡ plain Int32Element
      same = same_type_equal t (plain Int32Element) i

      by_value : (w : Value) → HasType tree s w t → P w
      by_value (Int32 z) k = each z
      by_value (Int64 z) k = not_both_integers t same k
      by_value (Native z) k = elim k [ ]
      by_value Null k = not_int32 t same k
      by_value (Reference n) k = not_int32 t same (object_is_reference n t k)
  from_int32 P v _ i h each = never i

  pub from_int64 : (P : Value → Type 0) (v : Value) (a : StackType) → IsTrue (is_int64 a) → HasStackType tree s v a → ((z : ℤ) → P (Int64 z)) → P v
  from_int64 P v (Declared t) i h each = by_value v h
    where
      same : t ≡ plain Int64Element
      same = same_type_equal t (plain Int64Element) i

      by_value : (w : Value) → HasType tree s w t → P w
      by_value (Int64 z) k = each z
      by_value (Int32 z) k = not_both_integers t k same
      by_value (Native z) k = elim k [ ]
      by_value Null k = not_int64 t same k
      by_value (Reference n) k = not_int64 t same (object_is_reference n t k)
  from_int64 P v _ i h each = never i

  pub from_integer : (P : Value → Type 0) (v : Value) (a : StackType) → IsTrue (is_integer a) → HasStackType tree s v a → (IsTrue (is_int32 a) → (z : ℤ) → P (Int32 z)) → (IsTrue (is_int64 a) → (z : ℤ) → P (Int64 z)) → P v
  from_integer P v a i h each32 each64 = by_size (either (is_int32 a) (is_int64 a) i)
    where
      by_size : IsTrue (is_int32 a) ⊎ IsTrue (is_int64 a) → P v
      by_size (inl k) = from_int32 P v a k h (each32 k)
      by_size (inr k) = from_int64 P v a k h (each64 k)

  pub from_integers : (P : Value → Value → Type 0) (v w : Value) (a b : StackType) → IsTrue (are_integers a b) → HasStackType tree s v a → HasStackType tree s w b →
      (IsTrue (is_int32 a) → (x y : ℤ) → P (Int32 x) (Int32 y)) → (IsTrue (is_int64 a) → (x y : ℤ) → P (Int64 x) (Int64 y)) → P v w
  from_integers P v w a b i h k each32 each64 = by_size (either (is_int32 a && is_int32 b) (is_int64 a && is_int64 b) i)
    where
      by_size : IsTrue (is_int32 a && is_int32 b) ⊎ IsTrue (is_int64 a && is_int64 b) → P v w
      by_size (inl j) = from_int32 (λ x. P x w) v a (both_first _ _ j) h (λ x. from_int32 (P (Int32 x)) w b (both_second (is_int32 a) _ j) k (each32 (both_first _ _ j) x))
      by_size (inr j) = from_int64 (λ x. P x w) v a (both_first _ _ j) h (λ x. from_int64 (P (Int64 x)) w b (both_second (is_int64 a) _ j) k (each64 (both_first _ _ j) x))

  pub from_reference : (P : Value → Type 0) (v : Value) (a : StackType) → IsTrue (is_any_reference a) → HasStackType tree s v a → P Null → ((n : ObjectName) → P (Reference n)) → P v
  from_reference P Null a i h null each = null
  from_reference P (Reference n) a i h null each = each n
  from_reference P (Int32 z) (Declared t) i h null each = not_int32 t h i
  from_reference P (Int64 z) (Declared t) i h null each = not_int64 t h i
  from_reference P (Int32 z) NativeInt i h null each = never i
  from_reference P (Int64 z) NativeInt i h null each = never i
  from_reference P (Native z) NativeInt i h null each = never i
  from_reference P _ _ i h null each = elim h [ ]

  -- an int32 or a native integer
  pub from_index : (P : Value → Type 0) (v : Value) (a : StackType) → IsTrue (is_index a) → HasStackType tree s v a → ((z : ℤ) → P (Int32 z)) → ((z : ℤ) → P (Native z)) → P v
  from_index P v (Declared t) i h each32 native = from_int32 P v (Declared t) i h each32
  from_index P (Native z) NativeInt i h each32 native = native z
  from_index P v NullType i h each32 native = never i
  from_index P _ _ i h each32 native = elim h [ ]

  -- a number is of each type of its size
  pub int32_typed : (z : ℤ) (a : StackType) → IsTrue (is_int32 a) → HasStackType tree s (Int32 z) a
  int32_typed z (Declared t) i = same_type_equal t (plain Int32Element) i
  int32_typed z _ i = never i

  pub int64_typed : (z : ℤ) (a : StackType) → IsTrue (is_int64 a) → HasStackType tree s (Int64 z) a
  int64_typed z (Declared t) i = same_type_equal t (plain Int64Element) i
  int64_typed z _ i = never i

-- ---- lists of values

module _ (tree : Tree) (s : State) where
  -- the value at an index has the type at that index
  pub value_at : (vs : List Value) (ts : List DeclaredType) → HaveTypes tree s vs ts → (n : ℕ) (t : DeclaredType) → slice_get ts n ≡ Some t → (v : Value) × (slice_get vs n ≡ Some v) × HasType tree s v t
  value_at [] [] h n t e = none_is_some t e
  value_at (v ∷ vs) (u ∷ us) h zero t e = (v, refl, subst (λ x. HasType tree s v x) (same_Some u t e) h.0)
  value_at (v ∷ vs) (u ∷ us) h (suc n) t e = value_at vs us h.1 n t e
  value_at _ _ h n t e = elim h [ ]

  -- with another value of the type there
  pub values_with : (vs : List Value) (ts : List DeclaredType) → HaveTypes tree s vs ts → (n : ℕ) (t : DeclaredType) → slice_get ts n ≡ Some t → (w : Value) → HasType tree s w t → HaveTypes tree s (slice_set vs n w) ts
  values_with [] [] h n t e w k = none_is_some t e
  values_with (v ∷ vs) (u ∷ us) h zero t e w k = (subst (λ x. HasType tree s w x) (sym (same_Some u t e)) k, h.1)
  values_with (v ∷ vs) (u ∷ us) h (suc n) t e w k = (h.0, values_with vs us h.1 n t e w k)
  values_with _ _ h n t e w k = elim h [ ]

  -- ---- taking operands

  -- P is what is to hold of the effect of continuing
  pub one_typed : (go : Value → List Value → Effect) (flow_go : StackType → List StackType → StackAfter) (vs : List Value) (st result : List StackType) →
      HaveStackTypes tree s vs st → take_one None st flow_go ≡ Some result →
      ((v : Value) (a : StackType) (rest : List Value) (types : List StackType) → HasStackType tree s v a → HaveStackTypes tree s rest types → flow_go a types ≡ Some result → IsTypedEffect tree (go v rest)) →
      IsTypedEffect tree (take_one Sticks vs go)
  one_typed go flow_go (v ∷ vs) (a ∷ st) result h e each = each v a vs st h.0 h.1 e
  one_typed go flow_go vs [] result h e each = none_is_some result e
  one_typed go flow_go [] (a ∷ st) result h e each = elim h [ ]

  pub two_typed : (go : Value → Value → List Value → Effect) (flow_go : StackType → StackType → List StackType → StackAfter) (vs : List Value) (st result : List StackType) →
      HaveStackTypes tree s vs st → take_two None st flow_go ≡ Some result →
      ((v w : Value) (a b : StackType) (rest : List Value) (types : List StackType) → HasStackType tree s v a → HasStackType tree s w b → HaveStackTypes tree s rest types → flow_go a b types ≡ Some result → IsTypedEffect tree (go v w rest)) →
      IsTypedEffect tree (take_two Sticks vs go)
  two_typed go flow_go (w ∷ v ∷ vs) (b ∷ a ∷ st) result h e each = each v w a b vs st h.1.0 h.0 h.1.1 e
  two_typed go flow_go [] (b ∷ a ∷ st) result h e each = elim h [ ]
  two_typed go flow_go (w ∷ []) (b ∷ a ∷ st) result h e each = elim h.1 [ ]
  two_typed go flow_go vs _ result h e each = none_is_some result e

  pub three_typed : (go : Value → Value → Value → List Value → Effect) (flow_go : StackType → StackType → StackType → List StackType → StackAfter) (vs : List Value) (st result : List StackType) →
      HaveStackTypes tree s vs st → take_three None st flow_go ≡ Some result →
      ((u v w : Value) (a b c : StackType) (rest : List Value) (types : List StackType) → HasStackType tree s u a → HasStackType tree s v b → HasStackType tree s w c → HaveStackTypes tree s rest types → flow_go a b c types ≡ Some result → IsTypedEffect tree (go u v w rest)) →
      IsTypedEffect tree (take_three Sticks vs go)
  three_typed go flow_go (w ∷ v ∷ u ∷ vs) (c ∷ b ∷ a ∷ st) result h e each = each u v w a b c vs st h.1.1.0 h.1.0 h.0 h.1.1.1 e
  three_typed go flow_go [] (c ∷ b ∷ a ∷ st) result h e each = elim h [ ]
  three_typed go flow_go (w ∷ []) (c ∷ b ∷ a ∷ st) result h e each = elim h.1 [ ]
  three_typed go flow_go (w ∷ v ∷ []) (c ∷ b ∷ a ∷ st) result h e each = elim h.1.1 [ ]
  three_typed go flow_go vs _ result h e each = none_is_some result e

-- a test that lets a stack through passed, and the stack is the result
pub was_allowed : (b : Bool) (st result : List StackType) → if_allowed b st ≡ Some result → IsTrue b × (st ≡ result)
was_allowed true st result e = (refl, same_Some st result e)
was_allowed false st result e = none_is_some result e
