-- The results of checked operations and divisions of integers.
use Rattle.std.proofs.Common.{◌≡◌, ◌⊎◌, inl, inr, ℕ, zero, suc, ◌-◌, ◌/◌, ◌^◌, ℤ, pos, negsuc, neg_ℤ, int_div, true, false, ◌&&◌, if◌then◌else◌, Option, Some, None, Result, Ok, Err, SomeIff, ok_or, SFits, to_z, of_z, refl, sym, ap, subst, ◌∙◌, arith}
use Rattle.std.specs.Int.{Width, w32, w64}
use Rattle.std.specs.Ordering.{int_eq}
use Rattle.std.proofs.lemmas.Int.{to_z-of_z}
use Rattle.std.proofs.lemmas.Bool.{and_parts, false_from_ne_true}
use Rattle.std.proofs.lemmas.Bool.Decides.{nat_tests, Decides-int_eq}
use native.Mathlib.Nat.{div-le_self, div-lt_self, div-one}
use lib.Signed.{mag}
use mir.Val.{bits, hbits}
use mir.ValLaws.{pow-bits}
use Rattle.cil_model.specs.declared.reports.Fault.{Fault}
use Rattle.cil_model.specs.declared.reports.Fault.TheVariants.{Overflow, DivideByZero, Arithmetic}
use Rattle.cil_model.specs.declared.instructions.BinaryOperation.{BinaryOperation}
use Rattle.reference_machine.specs.Arithmetic.{binary, is_in_range, exact, result_as, quotient, least}

-- ---- tests

-- what the tests of an integer's bits say of it
pub record HasTests (w : Width) : Type 0 where
  pub fits : (z : ℤ) → SFits w z → is_in_range w z ≡ true
  pub kind_mismatches : (z : ℤ) → (SFits w z → ⊥) → is_in_range w z ≡ false
  pub lowest : of_z w (least w) ≡ 2 ^ hbits w

fits_32 : (z : ℤ) → SFits w32 z → is_in_range w32 z ≡ true
fits_32 (pos n) f = let h = f.sfits in grind (arith, nat_tests)
fits_32 (negsuc n) f = let h = f.sfits in grind (arith, nat_tests)

in_32 : (z : ℤ) → is_in_range w32 z ≡ true → SFits w32 z
in_32 (pos n) e = record { sfits = grind (arith, nat_tests) }
in_32 (negsuc n) e = record { sfits = grind (arith, nat_tests) }

fits_64 : (z : ℤ) → SFits w64 z → is_in_range w64 z ≡ true
fits_64 (pos n) f = let h = f.sfits in grind (arith, nat_tests)
fits_64 (negsuc n) f = let h = f.sfits in grind (arith, nat_tests)

in_64 : (z : ℤ) → is_in_range w64 z ≡ true → SFits w64 z
in_64 (pos n) e = record { sfits = grind (arith, nat_tests) }
in_64 (negsuc n) e = record { sfits = grind (arith, nat_tests) }

pub tests_32 : HasTests w32
tests_32 = record { fits = fits_32; kind_mismatches = λ z never. false_from_ne_true (is_in_range w32 z) (λ e. never (in_32 z e)); lowest = refl }

pub tests_64 : HasTests w64
tests_64 = record { fits = fits_64; kind_mismatches = λ z never. false_from_ne_true (is_in_range w64 z) (λ e. never (in_64 z e)); lowest = refl }

-- ---- quotients

mag_negated : (n : ℕ) → mag (neg_ℤ (pos n)) ≡ n - 1
mag_negated zero = refl
mag_negated (suc n) = omega arith

-- each quotient but one fits
pub quotient_fits : (w : Width) (x y : ℤ) → SFits w x → SFits w y → (of_z w y ≡ 2 ^ bits w - 1 → of_z w x ≡ 2 ^ hbits w → ⊥) → SFits w (int_div x y)
quotient_fits w (pos a) (pos b) fits_x fits_y never = record { sfits = omega (arith, fits_x.sfits, div-le_self a b) }
quotient_fits w (pos a) (negsuc b) fits_x fits_y never = record { sfits = omega (arith, fits_x.sfits, div-le_self a (suc b), mag_negated (a / suc b)) }
quotient_fits w (negsuc a) (pos b) fits_x fits_y never = record { sfits = omega (arith, fits_x.sfits, div-le_self (suc a) b, mag_negated (suc a / b)) }
quotient_fits w (negsuc a) (negsuc zero) fits_x fits_y never = let other = never refl in record { sfits = omega (arith, fits_x.sfits, div-one (suc a), pow-bits w) }
quotient_fits w (negsuc a) (negsuc (suc b)) fits_x fits_y never = record { sfits = omega (arith, fits_x.sfits, div-lt_self {n = suc a} {k = suc (suc b)} (omega arith) (omega arith)) }

module _ (w : Width) where
  -- ---- integers by their bits

  pub read_as : (z : ℤ) (n : ℕ) → SFits w z → of_z w z ≡ n → z ≡ to_z w n
  read_as z n fits e = sym (to_z-of_z w z fits) ∙ ap (to_z w) e

  pub read_back : (op : ℤ → ℤ → ℤ) (x y : ℤ) → SFits w x → SFits w y → op (to_z w (of_z w x)) (to_z w (of_z w y)) ≡ op x y
  read_back op x y fits_x fits_y = ap (λ a. op a (to_z w (of_z w y))) (to_z-of_z w x fits_x) ∙ ap (λ b. op x b) (to_z-of_z w y fits_y)

  -- ---- checked operations

  pub exact_is : HasTests w → (z v : ℤ) (o : Option ℤ) (r : Result ℤ Fault) → v ≡ z → SomeIff o (SFits w v) v → r ≡ ok_or o Overflow → result_as (λ x. x) r ≡ exact w z
  exact_is tests z v None r same never is =
      ap (result_as (λ x. x)) is ∙ sym (ap (exact w) (sym same) ∙ ap (λ b. if b then Ok v else Err Overflow) (tests.kind_mismatches v never))
  exact_is tests z v (Some x) r same some is =
      ap (result_as (λ x. x)) is ∙ ap Ok some.1 ∙ sym (ap (exact w) (sym same) ∙ ap (λ b. if b then Ok v else Err Overflow) (tests.fits v some.0))

  -- ---- divisions

  -- the least value is not divided by -1
  pub never_both : (x y : ℤ) → ((of_z w x ≡ 2 ^ hbits w) × (of_z w y ≡ 2 ^ bits w - 1 → ⊥)) ⊎ (of_z w x ≡ 2 ^ hbits w → ⊥) → of_z w y ≡ 2 ^ bits w - 1 → of_z w x ≡ 2 ^ hbits w → ⊥
  never_both x y (inl other_divisor) minus_one lowest = other_divisor.1 minus_one
  never_both x y (inr other_value) minus_one lowest = other_value lowest

  pub machine_quotient : (x y : ℤ) → SFits w x → SFits w y → (of_z w y ≡ 2 ^ bits w - 1 → of_z w x ≡ 2 ^ hbits w → ⊥) → SFits w (int_div (to_z w (of_z w x)) (to_z w (of_z w y)))
  machine_quotient x y fits_x fits_y never = subst (SFits w) (sym (read_back int_div x y fits_x fits_y)) (quotient_fits w x y fits_x fits_y never)

  pub divides : HasTests w → (x y result : ℤ) → (of_z w y ≡ 0 → ⊥) → (of_z w y ≡ 2 ^ bits w - 1 → of_z w x ≡ 2 ^ hbits w → ⊥) → quotient w x y result ≡ Ok result
  divides tests x y result some never =
      let divisor : int_eq y (pos 0) ≡ false = false_from_ne_true (int_eq y (pos 0)) (λ e. some (ap (of_z w) ((Decides-int_eq y (pos 0)).0 e))) in
      let rest : (int_eq x (least w) && int_eq y (negsuc 0)) ≡ false =
      false_from_ne_true (int_eq x (least w) && int_eq y (negsuc 0)) (λ e.
      never (ap (of_z w) ((Decides-int_eq y (negsuc 0)).0 (and_parts (int_eq x (least w)) (int_eq y (negsuc 0)) e).1))
      (ap (of_z w) ((Decides-int_eq x (least w)).0 (and_parts (int_eq x (least w)) (int_eq y (negsuc 0)) e).0) ∙ tests.lowest)) in
      ap (λ b. if b then Err DivideByZero else (if int_eq x (least w) && int_eq y (negsuc 0) then Err Arithmetic else Ok result)) divisor
      ∙ ap (λ b. if b then Err Arithmetic else Ok result) rest

  -- ---- the results of an operation on two integers, which the machine computes on their bits

  module _ (tests : HasTests w) (op : BinaryOperation) (x y : ℤ) (fits_x : SFits w x) (fits_y : SFits w y) where
    pub checked : (f : ℤ → ℤ → ℤ) (o : Option ℤ) (r : Result ℤ Fault) → binary w op x y ≡ exact w (f x y) → SomeIff o (SFits w (f (to_z w (of_z w x)) (to_z w (of_z w y)))) (f (to_z w (of_z w x)) (to_z w (of_z w y)))
        → r ≡ ok_or o Overflow → result_as (λ z. z) r ≡ binary w op x y
    checked f o r is some made = exact_is tests (f x y) (f (to_z w (of_z w x)) (to_z w (of_z w y))) o r (read_back f x y fits_x fits_y) some made ∙ sym is

    module _ (result : ℤ) (is : binary w op x y ≡ quotient w x y result) where
      pub by_divisor : (n : ℕ) → of_z w y ≡ n → quotient w x (to_z w n) result ≡ binary w op x y
      by_divisor n divisor = sym (is ∙ ap (λ k. quotient w x k result) (read_as y n fits_y divisor))

      pub by_both : (n k : ℕ) → of_z w y ≡ n → of_z w x ≡ k → quotient w (to_z w k) (to_z w n) result ≡ binary w op x y
      by_both n k divisor value = ap (λ z. quotient w z (to_z w n) result) (sym (read_as x k fits_x value)) ∙ by_divisor n divisor

      pub divided : (of_z w y ≡ 0 → ⊥) → ((of_z w x ≡ 2 ^ hbits w) × (of_z w y ≡ 2 ^ bits w - 1 → ⊥)) ⊎ (of_z w x ≡ 2 ^ hbits w → ⊥) → Ok result ≡ binary w op x y
      divided some either = sym (is ∙ divides tests x y result some (never_both x y either))
