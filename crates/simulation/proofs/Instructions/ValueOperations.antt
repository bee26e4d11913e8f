-- Operations on values have the same results on both machines: comparisons, arithmetic, shifts and conversions.
use Rattle.std.proofs.Common.{◌≡◌, if◌then◌else◌, ℤ, pos, Bool, true, false, not, is_some, List, Some, None, Result, Ok, Err, refl, inl, inr, sym, ap, subst, lit<, ◌≤◌, ◌<◌, ◌-◌, ◌/◌, ◌^◌, ℕ, zero, suc, negsuc, neg_ℤ, ◌&&◌, IsTrue, FitsSigned, int_div, int_lt, int_le, int_eq, nat_lt, nat_le, true≢false, ◌∙◌, arith}
use Rattle.std.specs.Int.{w32, w64, Width, w8, cast_signed}
use Rattle.interpreter.specs.cil_model.declared.instructions.BinaryOperation.{BinaryOperation}
use Rattle.interpreter.specs.cil_model.declared.instructions.UnaryOperation.{UnaryOperation}
use Rattle.interpreter.specs.cil_model.declared.instructions.ShiftOperation.{ShiftOperation}
use Rattle.interpreter.specs.cil_model.declared.instructions.Comparison.{Comparison}
use Rattle.interpreter.specs.cil_model.declared.instructions.Comparison.TheVariants.{Equal, Greater, Less}
use Rattle.interpreter.specs.cil_model.declared.instructions.BranchComparison.{BranchComparison}
use Rattle.interpreter.specs.cil_model.declared.instructions.BranchComparison.TheVariants.{Equal as BranchEqual, NotEqual}
use Rattle.interpreter.specs.cil_model.declared.reports.Fault.{Fault}
use Rattle.interpreter.specs.cil_model.declared.trees.Tree.{Tree}
use Rattle.interpreter.specs.reference_machine.Values.{Value as StateValue, Int32 as Int32Value, Int64 as Int64Value}
use Rattle.interpreter.specs.reference_machine.Arithmetic.{binary, binary_value, unary_value, shift_value, compare_values, branch_values, is_set as is_set_value, convert_32, convert_64, one_or_zero as one_or_zero_value, result_as, bit_count, least, is_in_range, exact, quotient, unary, shift_by, shift}
use Rattle.interpreter.specs.reference_machine.States.{State}
use Rattle.interpreter.specs.object_memory.declared.addresses.Addr.{Addr}
use Rattle.interpreter.specs.object_memory.declared.values.Value.{Value}
use Rattle.interpreter.specs.object_memory.declared.values.Value.TheVariants.{Int32, Int64}
use Rattle.interpreter.specs.object_memory.Cells.{null}
use Rattle.interpreter.specs.object_memory.Objects.{Objects}
use Rattle.interpreter.specs.instructions.barriers.Barriers.{are_comparable}
use Rattle.interpreter.specs.instructions.Frames.{binary_result, unary_result, shift_result, comparison, branch_test, one_or_zero, is_set, in_32_bits, in_64_bits}
use Rattle.simulation.specs.Refines.{Names, IsValue, int32, int64, native, null_reference, reference}
use Rattle.simulation.proofs.Instructions.MatchingResults.{Meets, IsResult, Same, meets_itself}
use Rattle.simulation.proofs.Memory.NamedAddresses.{named_is_not_null}
use Rattle.simulation.proofs.Memory.MemoryModels.{MemoryModel, IsReference}
use Rattle.interpreter.specs.reference_machine.TypedStates.{IsTyped}
use Rattle.std.specs.Int.Signed.{mag, mag_rem, mag_shr}
use Rattle.std.proofs.Math.Nat.{div-le_self, div-mul-le_self, mul-le-mul_left}
use Rattle.std.proofs.lemmas.Cmp.{int_eq_equiv}
use Rattle.std.proofs.lemmas.Bool.{and_from}
use Rattle.std.proofs.lemmas.Bool.Decides.{nat_tests}
use Rattle.std.proofs.lemmas.Int.{ints}
use Rattle.std.proofs.lemmas.Nat.{pow_pos}
use Rattle.interpreter.specs.cil_model.declared.instructions.BinaryOperation.TheVariants.{AddOverflow, SubtractOverflow, MultiplyOverflow, Divide, Remainder}
use Rattle.interpreter.specs.cil_model.declared.instructions.UnaryOperation.TheVariants.{Negate, Complement}
use Rattle.interpreter.specs.cil_model.declared.instructions.ShiftOperation.TheVariants.{Right}
use Rattle.interpreter.specs.cil_model.declared.reports.Fault.TheVariants.{DivideByZero, Arithmetic, Overflow}
use Rattle.interpreter.proofs.cil_model.SameLaws.{both_first, both_second}

-- ---- The results of operations on integers of a size are in the range of that size.

-- half of the numbers that the size has
abbrev half : Width → ℕ
half w = 2 ^ (bit_count w - 1)

-- an integer fits exactly where it is within that half
within_half : (w : Width) (z : ℤ) → FitsSigned w z → mag z < half w
within_half w8 z fits = fits.sfits
within_half _ z fits = fits.sfits

fits_half : (w : Width) (z : ℤ) → mag z < half w → FitsSigned w z
fits_half w8 z h = record { sfits = h }
fits_half _ z h = record { sfits = h }

-- a result that fits, or a fault
abbrev pub FitsResult : Width → Result ℤ Fault → Type 0
FitsResult w (Ok z) = FitsSigned w z
FitsResult w (Err f) = Unit {0}

-- ---- casts

pub cast_fits : (w : Width) (n : ℕ) → FitsSigned w (cast_signed w n)
cast_fits w n = omega (arith, ints)

-- 32 bits fit 64
pub widened_fits : (z : ℤ) → FitsSigned w32 z → FitsSigned w64 z
widened_fits z fits = record { sfits = let h : mag z < 2 ^ 31 = fits.sfits in omega arith }

-- ---- checked results

in_range_fits : (w : Width) (z : ℤ) → IsTrue (is_in_range w z) → FitsSigned w z
in_range_fits w z h = fits_half w z (by_sign z h)
  where
    some : 0 < half w
    some = pow_pos (bit_count w - 1)

    by_sign : (y : ℤ) → IsTrue (is_in_range w y) → mag y < half w
    by_sign (pos n) k = let below : IsTrue (nat_lt n (half w)) = both_second (int_le (least w) (pos n)) (int_lt (pos n) (pos (half w))) k in grind (arith, nat_tests)
    by_sign (negsuc n) k = let above : IsTrue (nat_le n (half w - 1)) = both_first (int_le (least w) (negsuc n)) (int_lt (negsuc n) (pos (half w))) k in grind (arith, nat_tests)

exact_fits : (w : Width) (z : ℤ) → FitsResult w (exact w z)
exact_fits w z = by_test (is_in_range w z) refl
  where
    by_test : (b : Bool) → is_in_range w z ≡ b → FitsResult w (if b then Ok z else Err Overflow)
    by_test true is = in_range_fits w z is
    by_test false is = tt

-- ---- divisions

divided_fits : (w : Width) (x y r : ℤ) → ((int_eq x (least w) && int_eq y (negsuc 0)) ≡ false → FitsSigned w r) → FitsResult w (quotient w x y r)
divided_fits w x y r fits = by_zero (int_eq y (pos 0))
  where
    by_least : (b : Bool) → (int_eq x (least w) && int_eq y (negsuc 0)) ≡ b → FitsResult w (if b then Err Arithmetic else Ok r)
    by_least true is = tt
    by_least false is = fits is

    by_zero : (b : Bool) → FitsResult w (if b then Err DivideByZero else if int_eq x (least w) && int_eq y (negsuc 0) then Err Arithmetic else Ok r)
    by_zero true = tt
    by_zero false = by_least (int_eq x (least w) && int_eq y (negsuc 0)) refl

negated : (n m : ℕ) → n ≤ suc m → mag (neg_ℤ (pos n)) ≤ m
negated zero m h = omega arith
negated (suc n) m h = omega arith

-- the quotient of two that are below zero is out of range only where the first is the least and the second is -1
below_zero : (w : Width) (a b : ℕ) → a < half w → (int_eq (negsuc a) (least w) && int_eq (negsuc b) (negsuc 0)) ≡ false → suc a / suc b < half w
below_zero w a zero h is = by_order (nat_lt (suc a) (half w)) refl
  where
    is_least : half w ≤ suc a → (int_eq (negsuc a) (least w) && true) ≡ true
    is_least k = and_from _ _ (subst (λ n. int_eq (negsuc a) (negsuc n) ≡ true) {x = a} (omega (arith, h, k)) (int_eq_equiv.refl (negsuc a))) refl

    by_order : (t : Bool) → nat_lt (suc a) (half w) ≡ t → suc a / 1 < half w
    by_order true e = let below : suc a < half w = grind (arith, nat_tests) in omega (arith, below, div-le_self (suc a) 1)
    by_order false e = let k : half w ≤ suc a = grind (arith, nat_tests) in absurd (true≢false (sym (is_least k) ∙ is))
below_zero w a (suc b) h is =
    let q : ℕ = suc a / suc (suc b) in
    let two : 2 ≤ suc (suc b) = omega arith in
    omega (arith, h, div-mul-le_self (suc a) (suc (suc b)), mul-le-mul_left q two)

quotient_fits : (w : Width) (x y : ℤ) → FitsSigned w x → (int_eq x (least w) && int_eq y (negsuc 0)) ≡ false → FitsSigned w (int_div x y)
quotient_fits w (pos a) (pos b) fits is = record { sfits = omega (arith, fits.sfits, div-le_self a b) }
quotient_fits w (pos a) (negsuc b) fits is = record { sfits = omega (arith, fits.sfits, negated (a / suc b) a (omega (arith, div-le_self a (suc b)))) }
quotient_fits w (negsuc a) (pos b) fits is = record { sfits = omega (arith, fits.sfits, negated (suc a / b) a (div-le_self (suc a) b)) }
quotient_fits w (negsuc a) (negsuc b) fits is = fits_half w _ (below_zero w a b (within_half w (negsuc a) fits) is)

-- ---- operations

pub binary_fits : (w : Width) (op : BinaryOperation) (x y : ℤ) → FitsSigned w x → FitsResult w (binary w op x y)
binary_fits w AddOverflow x y fits = exact_fits w _
binary_fits w SubtractOverflow x y fits = exact_fits w _
binary_fits w MultiplyOverflow x y fits = exact_fits w _
binary_fits w Divide x y fits = divided_fits w x y _ (quotient_fits w x y fits)
binary_fits w Remainder x y fits = divided_fits w x y _ (λ is. record { sfits = omega (arith, fits.sfits, mag_rem x y) })
binary_fits w _ x y fits = cast_fits w _

pub unary_fits : (w : Width) (op : UnaryOperation) (x : ℤ) → FitsSigned w (unary w op x)
unary_fits w Negate x = cast_fits w _
unary_fits w Complement x = cast_fits w _

shifted_fits : (w : Width) (op : ShiftOperation) (x : ℤ) (k : ℕ) → FitsSigned w x → FitsSigned w (shift_by w op x k)
shifted_fits w Right x k fits = record { sfits = omega (arith, fits.sfits, mag_shr x (2 ^ k)) }
shifted_fits w _ x k fits = cast_fits w _

pub shift_fits : (w : Width) (op : ShiftOperation) (x amount : ℤ) → FitsSigned w x → FitsSigned w (shift w op x amount)
shift_fits w op x amount fits = shifted_fits w op x _ fits

-- ---- Operations on values have the same results on both machines: comparisons, arithmetic, shifts and conversions.

module _ (tree : Tree) (model : MemoryModel tree) (name : Names) (o : Objects) (statics : List Value) (s : State) (fits : model.Fits name o statics s) where
  -- ---- tests

  -- references that have names, or are null, can be compared
  compared : (a b : Addr) → IsReference name a → IsReference name b → (x y : Bool) → x ≡ y → Meets Same (if are_comparable model.phase o a b then Some x else None) (Some y)
  compared a b h k x y same = subst (λ c. Meets Same (if c then Some x else None) (Some y)) (sym (model.comparable name o statics s fits a b h k)) same

  pub comparison_meets : (op : Comparison) (v w : Value) (u x : StateValue) → IsValue name v u → IsValue name w x → Meets Same (comparison model.phase o op v w) (compare_values op u x)
  comparison_meets Equal v w u x (int32 y fits) (int32 z fits') = refl
  comparison_meets Equal v w u x (int64 y fits) (int64 z fits') = refl
  comparison_meets Equal v w u x null_reference null_reference = compared null null (inl refl) (inl refl) _ _ (model.same_null name o statics s fits)
  comparison_meets Equal v w u x null_reference (reference b n is) = compared null b (inl refl) (inr (ap is_some is)) _ _ (model.null_name name o statics s fits b n is)
  comparison_meets Equal v w u x (reference a m is) null_reference = compared a null (inr (ap is_some is)) (inl refl) _ _ (model.name_null name o statics s fits a m is)
  comparison_meets Equal v w u x (reference a m is) (reference b n is') = compared a b (inr (ap is_some is)) (inr (ap is_some is')) _ _ (model.same name o statics s fits a b m n is is')
  comparison_meets Equal v w u x h k = tt
  comparison_meets Greater v w u x (int32 y fits) (int32 z fits') = refl
  comparison_meets Greater v w u x (int64 y fits) (int64 z fits') = refl
  comparison_meets Greater v w u x h k = tt
  comparison_meets Less v w u x (int32 y fits) (int32 z fits') = refl
  comparison_meets Less v w u x (int64 y fits) (int64 z fits') = refl
  comparison_meets Less v w u x h k = tt

  pub branch_test_meets : (op : BranchComparison) (v w : Value) (u x : StateValue) → IsValue name v u → IsValue name w x → Meets Same (branch_test model.phase o op v w) (branch_values op u x)
  branch_test_meets op v w u x (int32 y fits) (int32 z fits') = meets_itself (branch_values op (Int32Value y) (Int32Value z))
  branch_test_meets op v w u x (int64 y fits) (int64 z fits') = meets_itself (branch_values op (Int64Value y) (Int64Value z))
  branch_test_meets BranchEqual v w u x h k = comparison_meets Equal v w u x h k
  branch_test_meets NotEqual v w u x null_reference null_reference = compared null null (inl refl) (inl refl) _ _ (ap not (model.same_null name o statics s fits))
  branch_test_meets NotEqual v w u x null_reference (reference b n is) = compared null b (inl refl) (inr (ap is_some is)) _ _ (ap not (model.null_name name o statics s fits b n is))
  branch_test_meets NotEqual v w u x (reference a m is) null_reference = compared a null (inr (ap is_some is)) (inl refl) _ _ (ap not (model.name_null name o statics s fits a m is))
  branch_test_meets NotEqual v w u x (reference a m is) (reference b n is') = compared a b (inr (ap is_some is)) (inr (ap is_some is')) _ _ (ap not (model.same name o statics s fits a b m n is is'))
  branch_test_meets op v w u x h k = tt

  pub is_set_meets : IsTyped tree s → (v : Value) (u : StateValue) → IsValue name v u → Meets Same (is_set v) (is_set_value u)
  is_set_meets typed v u (native z fits) = tt
  is_set_meets typed v u (reference a n is) = ap not (named_is_not_null tree name o s (model.reads name o statics s fits typed) a.number n is)
  is_set_meets typed v u _ = refl

module _ (name : Names) where
  -- ---- integers

  -- a result of one size, or the fault
  held_meets_32 : (r : Result ℤ Fault) → FitsResult w32 r → Meets (IsResult name) (Some (result_as Int32 r)) (Some (result_as Int32Value r))
  held_meets_32 (Ok z) fits = int32 z fits
  held_meets_32 (Err f) fits = refl

  held_meets_64 : (r : Result ℤ Fault) → FitsResult w64 r → Meets (IsResult name) (Some (result_as Int64 r)) (Some (result_as Int64Value r))
  held_meets_64 (Ok z) fits = int64 z fits
  held_meets_64 (Err f) fits = refl

  pub binary_meets : (op : BinaryOperation) (v w : Value) (u x : StateValue) → IsValue name v u → IsValue name w x → Meets (IsResult name) (binary_result op v w) (binary_value op u x)
  binary_meets op v w u x (int32 y fits) (int32 z fits') = held_meets_32 (binary w32 op y z) (binary_fits w32 op y z fits)
  binary_meets op v w u x (int64 y fits) (int64 z fits') = held_meets_64 (binary w64 op y z) (binary_fits w64 op y z fits)
  binary_meets op v w u x h k = tt

  pub unary_meets : (op : UnaryOperation) (v : Value) (u : StateValue) → IsValue name v u → Meets (IsValue name) (unary_result op v) (unary_value op u)
  unary_meets op v u (int32 z fits) = int32 _ (unary_fits w32 op z)
  unary_meets op v u (int64 z fits) = int64 _ (unary_fits w64 op z)
  unary_meets op v u h = tt

  pub shift_meets : (op : ShiftOperation) (v w : Value) (u x : StateValue) → IsValue name v u → IsValue name w x → Meets (IsValue name) (shift_result op v w) (shift_value op u x)
  shift_meets op v w u x (int32 y fits) (int32 z fits') = int32 _ (shift_fits w32 op y z fits)
  shift_meets op v w u x (int64 y fits) (int32 z fits') = int64 _ (shift_fits w64 op y z fits)
  shift_meets op v w u x h k = tt

  pub narrow_meets : (v : Value) (u : StateValue) → IsValue name v u → Meets (IsValue name) (in_32_bits v) (convert_32 u)
  narrow_meets v u (int32 z fits) = int32 z fits
  narrow_meets v u (int64 z fits) = int32 _ (cast_fits w32 _)
  narrow_meets v u (native z fits) = int32 _ (cast_fits w32 _)
  narrow_meets v u h = tt

  pub wide_meets : (v : Value) (u : StateValue) → IsValue name v u → Meets (IsValue name) (in_64_bits v) (convert_64 u)
  wide_meets v u (int32 z fits) = int64 z (widened_fits z fits)
  wide_meets v u (int64 z fits) = int64 z fits
  wide_meets v u (native z fits) = int64 z fits
  wide_meets v u h = tt

  -- what a test leaves
  pub one_or_zero_alike : (a b : Bool) → Same a b → IsValue name (one_or_zero a) (one_or_zero_value b)
  one_or_zero_alike a b e = subst (λ c. IsValue name (one_or_zero a) (one_or_zero_value c)) e (of_test a)
    where
      of_test : (c : Bool) → IsValue name (one_or_zero c) (one_or_zero_value c)
      of_test true = int32 (pos 1) (record { sfits = lit< tt })
      of_test false = int32 (pos 0) (record { sfits = lit< tt })
