-- Which faults operations on integers raise.
use Rattle.std.proofs.Common.{◌≡◌, ℤ, pos, negsuc, ◌&&◌, Bool, true, false, if◌then◌else◌, [], ◌∷◌, Some, Result, Ok, Err, int_div, int_rem, Contains, refl, subst, lit<, ◌+ℤ◌, ◌-ℤ◌, ◌*ℤ◌}
use Rattle.std.specs.Int.{Width, w32, w64}
use Rattle.std.specs.Ordering.{int_eq}
use Rattle.cil_model.specs.declared.instructions.BinaryOperation.{BinaryOperation}
use Rattle.cil_model.specs.declared.instructions.BinaryOperation.TheVariants.{AddOverflow, SubtractOverflow, MultiplyOverflow, Divide, Remainder}
use Rattle.cil_model.specs.declared.reports.Fault.{Fault}
use Rattle.cil_model.specs.declared.reports.Fault.TheVariants.{DivideByZero, Arithmetic, Overflow}
use Rattle.reference_machine.specs.Values.{Value, Int32, Int64}
use Rattle.reference_machine.specs.Arithmetic.{is_in_range, exact, least, quotient, binary, result_as, binary_value}
use Rattle.reference_machine.specs.Faults.{faults_of_operation}
use Rattle.cil_model.proofs.Lists.{none_is_some}

no_fault : {X A : Type 0} (x : X) (f : Fault) → Ok x ≡ Err f → A
no_fault x f e = absurd cc

same_fault : {X : Type 0} (f g : Fault) → ◌≡◌ {A = Result X Fault} (Err f) (Err g) → f ≡ g
same_fault f g e = cc

overflow_alone : (w : Width) (z : ℤ) (f : Fault) → exact w z ≡ Err f → Contains (Overflow ∷ []) f
overflow_alone w z f e = by_range (is_in_range w z) e
  where
    by_range : (b : Bool) → (if b then Ok z else Err Overflow) ≡ Err f → Contains (Overflow ∷ []) f
    by_range true h = no_fault z f h
    by_range false h = let P : Fault → Type 0 = λ x. Contains (Overflow ∷ []) x in subst P (same_fault Overflow f h) (0, lit< tt, refl)

division_alone : (w : Width) (x y z : ℤ) (f : Fault) → quotient w x y z ≡ Err f → Contains (DivideByZero ∷ Arithmetic ∷ []) f
division_alone w x y z f e = by_tests (int_eq y (pos 0)) (int_eq x (least w) && int_eq y (negsuc 0)) e
  where
    by_tests : (b c : Bool) → (if b then Err DivideByZero else if c then Err Arithmetic else Ok z) ≡ Err f → Contains (DivideByZero ∷ Arithmetic ∷ []) f
    by_tests true c h = let P : Fault → Type 0 = λ k. Contains (DivideByZero ∷ Arithmetic ∷ []) k in subst P (same_fault DivideByZero f h) (0, lit< tt, refl)
    by_tests false true h = let P : Fault → Type 0 = λ k. Contains (DivideByZero ∷ Arithmetic ∷ []) k in subst P (same_fault Arithmetic f h) (1, lit< tt, refl)
    by_tests false false h = no_fault z f h

integer_faults : (w : Width) (op : BinaryOperation) (x y : ℤ) (f : Fault) → binary w op x y ≡ Err f → Contains (faults_of_operation op) f
integer_faults w AddOverflow x y f e = overflow_alone w (x +ℤ y) f e
integer_faults w SubtractOverflow x y f e = overflow_alone w (x -ℤ y) f e
integer_faults w MultiplyOverflow x y f e = overflow_alone w (x *ℤ y) f e
integer_faults w Divide x y f e = division_alone w x y (int_div x y) f e
integer_faults w Remainder x y f e = division_alone w x y (int_rem x y) f e
integer_faults w _ x y f e = no_fault _ f e

result_fault : (kind : ℤ → Value) (r : Result ℤ Fault) (result : Result Value Fault) (f : Fault) → Some (result_as kind r) ≡ Some result → result ≡ Err f → r ≡ Err f
result_fault kind (Ok z) result f e h = cc
result_fault kind (Err g) result f e h = cc

-- the faults of an operation on two values are those that are listed
pub operation_faults : (op : BinaryOperation) (v w : Value) (result : Result Value Fault) (f : Fault) → binary_value op v w ≡ Some result → result ≡ Err f → Contains (faults_of_operation op) f
operation_faults op (Int32 x) (Int32 y) result f e h = integer_faults w32 op x y f (result_fault Int32 (binary w32 op x y) result f e h)
operation_faults op (Int64 x) (Int64 y) result f e h = integer_faults w64 op x y f (result_fault Int64 (binary w64 op x y) result f e h)
operation_faults op _ _ result f e h = none_is_some result e
