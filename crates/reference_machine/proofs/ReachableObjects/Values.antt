-- Values that refer to objects of one set alone: what is read out of lists of them, what is put into them, and what is computed.
use Rattle.std.proofs.Common.{◌≡◌, ℕ, zero, suc, ℤ, pos, negsuc, Bool, true, false, if◌then◌else◌, List, [], ◌∷◌, ◌++◌, take, drop, reverse, replicate, map, Some, Result, Ok, Err, slice_get, slice_set, Contains, sym, subst}
use Rattle.std.specs.Int.{w32, w64}
use Rattle.std.specs.List.{AllByRecursion}
use Rattle.std.proofs.lemmas.Grind.{reverse_onto}
use Rattle.std.proofs.lemmas.List.Elements.{All-from_recursion, recursion_from_All, All-take, All-drop, All-contains}
use Rattle.std.proofs.lemmas.Option.{same_Some}
use Rattle.cil_model.specs.declared.instructions.BinaryOperation.{BinaryOperation}
use Rattle.cil_model.specs.declared.instructions.ShiftOperation.{ShiftOperation}
use Rattle.cil_model.specs.declared.instructions.UnaryOperation.{UnaryOperation}
use Rattle.cil_model.specs.declared.reports.Fault.{Fault}
use Rattle.cil_model.specs.declared.types.DeclaredType.{DeclaredType}
use Rattle.cil_model.specs.declared.types.Element.{Element}
use Rattle.cil_model.specs.declared.types.Element.TheVariants.{Int32 as Int32Element}
use Rattle.cil_model.specs.Assignable.{is_reference}
use Rattle.cil_model.specs.Bodies.{at_index}
use Rattle.cil_model.specs.Fields.{FieldKey, same_key}
use Rattle.cil_model.proofs.Lists.{none_is_some}
use Rattle.reference_machine.proofs.Runs.StateChanges.{replaced_is}
use Rattle.reference_machine.specs.Values.{Born, Literal, Value, Int32, Int64, Native, Null, Reference, integer_zero, zero_of}
use Rattle.reference_machine.specs.Arithmetic.{Operand, I4, I8, NativeInt, Object as ObjectOperand, binary, result_as, binary_of, unary_of, shift_of, convert_32_of, convert_64_of, operand, binary_value, unary_value, shift_value, one_or_zero, convert_32, convert_64}
use Rattle.reference_machine.specs.States.{entry_at, with_entry, replaced_entry, replaced_at, zero_fields}

-- the values under keys
abbrev pub values_of : List (FieldKey × Value) → List Value
values_of es = map (λ (e : FieldKey × Value). e.1) es

module _ (Inside : ℕ → Type 0) where
  -- the value refers to no object that was born, or to one of the set
  abbrev pub IsWithin : Value → Type 0
  IsWithin (Int32 z) = Unit {0}
  IsWithin (Int64 z) = Unit {0}
  IsWithin (Native z) = Unit {0}
  IsWithin Null = Unit {0}
  IsWithin (Reference (Born n)) = Inside n
  IsWithin (Reference (Literal characters)) = Unit {0}

  -- each value of a list does
  abbrev pub AreWithin : List Value → Type 0
  AreWithin vs = AllByRecursion IsWithin vs

  -- ---- lists

  pub element_within : (vs : List Value) (n : ℕ) (v : Value) → AreWithin vs → slice_get vs n ≡ Some v → IsWithin v
  element_within [] n v h e = none_is_some v e
  element_within (w ∷ vs) zero v h e = subst IsWithin (same_Some w v e) h.0
  element_within (w ∷ vs) (suc n) v h e = element_within vs n v h.1 e

  pub index_within : (vs : List Value) (z : ℤ) (v : Value) → AreWithin vs → at_index vs z ≡ Some v → IsWithin v
  index_within vs (pos n) v h e = element_within vs n v h e
  index_within vs (negsuc n) v h e = none_is_some v e

  pub contained_within : (vs : List Value) (v : Value) → AreWithin vs → Contains vs v → IsWithin v
  contained_within vs v h c = All-contains IsWithin vs v (All-from_recursion IsWithin vs h) c

  pub append_within : (vs ws : List Value) → AreWithin vs → AreWithin ws → AreWithin (vs ++ ws)
  append_within [] ws h k = k
  append_within (v ∷ vs) ws h k = (h.0, append_within vs ws h.1 k)

  pub take_within : (n : ℕ) (vs : List Value) → AreWithin vs → AreWithin (take n vs)
  take_within n vs h = recursion_from_All IsWithin (take n vs) (All-take IsWithin n vs (All-from_recursion IsWithin vs h))

  pub drop_within : (n : ℕ) (vs : List Value) → AreWithin vs → AreWithin (drop n vs)
  drop_within n vs h = recursion_from_All IsWithin (drop n vs) (All-drop IsWithin n vs (All-from_recursion IsWithin vs h))

  pub reverse_within : (vs : List Value) → AreWithin vs → AreWithin (reverse vs)
  reverse_within [] h = tt
  reverse_within (v ∷ vs) h = subst AreWithin (sym (reverse_onto vs v [])) (append_within (reverse vs) (v ∷ []) (reverse_within vs h.1) (h.0, tt))

  set_within : (vs : List Value) (n : ℕ) (v : Value) → AreWithin vs → IsWithin v → AreWithin (slice_set vs n v)
  set_within [] n v h k = tt
  set_within (w ∷ vs) zero v h k = (k, h.1)
  set_within (w ∷ vs) (suc n) v h k = (h.0, set_within vs n v h.1 k)

  -- another value at an index
  pub replaced_within : (vs vs' : List Value) (n : ℕ) (v : Value) → AreWithin vs → IsWithin v → replaced_at n v vs ≡ Some vs' → AreWithin vs'
  replaced_within vs vs' n v h k e = subst AreWithin (replaced_is (slice_get vs n) v (slice_set vs n v) vs' e) (set_within vs n v h k)

  -- ---- entries under keys

  pub entry_within : (k : FieldKey) (es : List (FieldKey × Value)) (v : Value) → AreWithin (values_of es) → entry_at same_key k es ≡ Some v → IsWithin v
  entry_within k [] v h e = none_is_some v e
  entry_within k (x ∷ es) v h e = by_test (same_key x.0 k) e (entry_within k es v h.1)
    where
      by_test : (b : Bool) → (if b then Some x.1 else entry_at same_key k es) ≡ Some v → (entry_at same_key k es ≡ Some v → IsWithin v) → IsWithin v
      by_test true is later = subst IsWithin (same_Some x.1 v is) h.0
      by_test false is later = later is

  with_entry_within : (k : FieldKey) (es : List (FieldKey × Value)) (v : Value) → AreWithin (values_of es) → IsWithin v → AreWithin (values_of (with_entry same_key k v es))
  with_entry_within k [] v h is = tt
  with_entry_within k (x ∷ es) v h is = by_test (same_key x.0 k) (with_entry_within k es v h.1 is)
    where
      by_test : (b : Bool) → AreWithin (values_of (with_entry same_key k v es)) → AreWithin (values_of (if b then (x.0, v) ∷ es else x ∷ with_entry same_key k v es))
      by_test true later = (is, h.1)
      by_test false later = (h.0, later)

  -- another value under a key
  pub replaced_entry_within : (k : FieldKey) (es es' : List (FieldKey × Value)) (v : Value) → AreWithin (values_of es) → IsWithin v → replaced_entry k v es ≡ Some es' → AreWithin (values_of es')
  replaced_entry_within k es es' v h is e =
      let P : List (FieldKey × Value) → Type 0 = λ x. AreWithin (values_of x) in
      subst P (replaced_is (entry_at same_key k es) v (with_entry same_key k v es) es' e) (with_entry_within k es v h is)

  -- ---- what a location holds at first

  integer_within : (e : Element) → IsWithin (integer_zero e)
  integer_within Int32Element = tt
  integer_within _ = tt

  pub zero_within : (t : DeclaredType) → IsWithin (zero_of t)
  zero_within t = by_kind (is_reference t)
    where
      by_kind : (b : Bool) → IsWithin (if b then Null else integer_zero t.element)
      by_kind true = tt
      by_kind false = integer_within t.element

  pub zeros_within : (types : List DeclaredType) → AreWithin (map zero_of types)
  zeros_within [] = tt
  zeros_within (t ∷ types) = (zero_within t, zeros_within types)

  pub zeroed_within : (fields : List (FieldKey × DeclaredType)) → AreWithin (values_of (zero_fields fields))
  zeroed_within [] = tt
  zeroed_within (f ∷ fields) = (zero_within f.1, zeroed_within fields)

  pub elements_within : (n : ℕ) (t : DeclaredType) → AreWithin (replicate n (zero_of t))
  elements_within zero t = tt
  elements_within (suc n) t = (zero_within t, elements_within n t)

  -- ---- what is computed is an integer

  result_within : (kind : ℤ → Value) → ((z : ℤ) → IsWithin (kind z)) → (r : Result ℤ Fault) (o : Result Value Fault) (u : Value) → Some (result_as kind r) ≡ Some o → o ≡ Ok u → IsWithin u
  result_within kind each (Ok z) o u e h = subst IsWithin same (each z)
    where
      same : kind z ≡ u
      same = cc
  result_within kind each (Err x) o u e h = absurd cc

  -- of two integers of one size
  by_operands : (op : BinaryOperation) (a b : Operand) (o : Result Value Fault) (u : Value) → binary_of Int32 Int64 op a b ≡ Some o → o ≡ Ok u → IsWithin u
  by_operands op (I4 x) (I4 y) o u e h = result_within Int32 (λ z. tt) (binary w32 op x y) o u e h
  by_operands op (I8 x) (I8 y) o u e h = result_within Int64 (λ z. tt) (binary w64 op x y) o u e h
  by_operands op _ _ o u e h = none_is_some o e

  pub binary_within : (op : BinaryOperation) (v w : Value) (o : Result Value Fault) (u : Value) → binary_value op v w ≡ Some o → o ≡ Ok u → IsWithin u
  binary_within op v w o u e h = by_operands op (operand v) (operand w) o u e h

  unary_by : (op : UnaryOperation) (a : Operand) (u : Value) → unary_of Int32 Int64 op a ≡ Some u → IsWithin u
  unary_by op (NativeInt x) u e = none_is_some u e
  unary_by op (ObjectOperand x) u e = none_is_some u e
  unary_by op _ u e = subst IsWithin (same_Some _ u e) tt

  pub unary_within : (op : UnaryOperation) (v u : Value) → unary_value op v ≡ Some u → IsWithin u
  unary_within op v u e = unary_by op (operand v) u e

  shift_by : (op : ShiftOperation) (a b : Operand) (u : Value) → shift_of Int32 Int64 op a b ≡ Some u → IsWithin u
  shift_by op (I4 x) (I4 y) u e = subst IsWithin (same_Some _ u e) tt
  shift_by op (I8 x) (I4 y) u e = subst IsWithin (same_Some _ u e) tt
  shift_by op _ _ u e = none_is_some u e

  pub shift_within : (op : ShiftOperation) (v amount u : Value) → shift_value op v amount ≡ Some u → IsWithin u
  shift_within op v amount u e = shift_by op (operand v) (operand amount) u e

  convert_32_by : (a : Operand) (u : Value) → convert_32_of Int32 a ≡ Some u → IsWithin u
  convert_32_by (ObjectOperand x) u e = none_is_some u e
  convert_32_by _ u e = subst IsWithin (same_Some _ u e) tt

  pub convert_32_within : (v u : Value) → convert_32 v ≡ Some u → IsWithin u
  convert_32_within v u e = convert_32_by (operand v) u e

  convert_64_by : (a : Operand) (u : Value) → convert_64_of Int64 a ≡ Some u → IsWithin u
  convert_64_by (ObjectOperand x) u e = none_is_some u e
  convert_64_by _ u e = subst IsWithin (same_Some _ u e) tt

  pub convert_64_within : (v u : Value) → convert_64 v ≡ Some u → IsWithin u
  convert_64_within v u e = convert_64_by (operand v) u e

  pub one_or_zero_within : (holds : Bool) → IsWithin (one_or_zero holds)
  one_or_zero_within true = tt
  one_or_zero_within false = tt
