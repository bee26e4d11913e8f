-- Assignability of two types, by how many brackets each of them has.
use Rattle.std.proofs.Common.{◌≡◌, ◌==◌, ◌<◌, ℕ, zero, suc, Bool, true, false, ◌||◌, ◌&&◌, refl, sym, ap, ◌∙◌, arith}
use Rattle.std.proofs.lemmas.Bool.{or_left, ne_eqb}
use Rattle.cil_model.specs.declared.types.ClassName.{ClassName}
use Rattle.cil_model.specs.declared.types.Element.{Element}
use Rattle.cil_model.specs.declared.types.Element.TheVariants.{Int32, Int64, Object, String, Class}
use Rattle.cil_model.specs.declared.trees.Tree.{Tree}
use Rattle.cil_model.specs.Same.{same_class, same_element}
use Rattle.cil_model.specs.Assignable.{is_reference_element, is_class_assignable, is_element_assignable, is_assignable_at}
use Rattle.cil_model.proofs.SameLaws.{same_class_equal, same_class_itself, same_element_equal}
use Rattle.resolved_code.proofs.ListLaws.Tests.{and_false}

module _ (tree : Tree) where
  -- a class is assignable to itself
  class_itself : (c : ClassName) → is_class_assignable tree c c ≡ true
  class_itself c = or_left _ _ (or_left _ _ (same_class_itself c))

  element_itself : (e : Element) → is_element_assignable tree e e ≡ true
  element_itself (Class c) = class_itself c
  element_itself _ = refl

  -- the same type, or an element that is assignable where both are references
  one_level : (e f : Element) → (same_element e f && true) || (is_reference_element e 0 && is_reference_element f 0 && is_element_assignable tree e f) ≡ is_element_assignable tree e f
  one_level (Class c) (Class d) = by_same (same_class c d) refl
    where
      by_same : (b : Bool) → same_class c d ≡ b → (b && true) || is_class_assignable tree c d ≡ is_class_assignable tree c d
      by_same false h = refl
      by_same true h = sym (ap (is_class_assignable tree c) (sym (same_class_equal c d h)) ∙ class_itself c)
  one_level Int32 Object = refl
  one_level Int64 Object = refl
  one_level Object Object = refl
  one_level String Object = refl
  one_level _ _ = refl

  -- the test when both types have the same number of brackets
  pub with_same_count : (e f : Element) (n : ℕ) → is_assignable_at tree e n f n ≡ is_element_assignable tree e f
  with_same_count e f zero = refl
  with_same_count e f (suc zero) = one_level e f
  with_same_count e f (suc (suc n)) = by_same (same_element e f) refl (with_same_count e f (suc n))
    where
      by_same : (b : Bool) → same_element e f ≡ b → is_assignable_at tree e (suc n) f (suc n) ≡ is_element_assignable tree e f →
          (b && (suc n == suc n)) || is_assignable_at tree e (suc n) f (suc n) ≡ is_element_assignable tree e f
      by_same false h further = further
      by_same true h further = all_true (suc n == suc n) (is_assignable_at tree e (suc n) f (suc n)) (is_element_assignable tree e f) further (ap (is_element_assignable tree e) (sym (same_element_equal e f h)) ∙ element_itself e)
        where
          all_true : (a b d : Bool) → b ≡ d → d ≡ true → a || b ≡ d
          all_true true b d p q = sym q
          all_true false b d p q = p

  -- a type with fewer brackets is assignable to none with more
  pub with_fewer : (e f : Element) (m n : ℕ) → m < n → is_assignable_at tree e m f n ≡ false
  with_fewer e f zero (suc n) h = refl
  with_fewer e f (suc m) (suc n) h =
      let l : m < n = omega (arith, h) in
      let apart : (m == n) ≡ false = ne_eqb m n (λ q. omega (arith, q, l)) in
      ap (λ b. (same_element e f && b) || (is_reference_element e m && is_reference_element f n && is_assignable_at tree e m f n)) apart ∙
      ap (λ b. (same_element e f && false) || (is_reference_element e m && is_reference_element f n && b)) (with_fewer e f m n l) ∙
      none (same_element e f) (is_reference_element e m) (is_reference_element f n)
    where
      none : (a b d : Bool) → (a && false) || (b && d && false) ≡ false
      none a b d = rw (and_false a, and_false (b && d)) refl
  with_fewer e f _ _ h = absurd (omega (arith, h))

  -- a type with more brackets is assignable to `object` with fewer alone
  pub with_more : (e f : Element) (m n : ℕ) → n < m → is_assignable_at tree e m f n ≡ same_element f Object
  with_more e f (suc m) zero h = refl
  with_more e f (suc m) (suc n) h =
      let l : n < m = omega (arith, h) in
      let apart : (m == n) ≡ false = ne_eqb m n (λ q. omega (arith, q, l)) in
      ap (λ b. (same_element e f && b) || (is_reference_element e m && is_reference_element f n && is_assignable_at tree e m f n)) apart ∙
      ap (λ b. (same_element e f && false) || (is_reference_element e m && is_reference_element f n && b)) (with_more e f m n l) ∙
      inner (same_element e f) m l
    where
      reference : (n : ℕ) → is_reference_element f n && same_element f Object ≡ same_element f Object
      reference (suc k) = refl
      reference zero = of_element f
        where
          of_element : (g : Element) → is_reference_element g 0 && same_element g Object ≡ same_element g Object
          of_element Int32 = refl
          of_element _ = refl

      joined : (a b c : Bool) → b && c ≡ c → (a && false) || (b && c) ≡ c
      joined true b c p = p
      joined false b c p = p

      inner : (a : Bool) (m : ℕ) → n < m → (a && false) || (is_reference_element e m && is_reference_element f n && same_element f Object) ≡ same_element f Object
      inner a zero l = absurd (omega (arith, l))
      inner a (suc k) l = joined a (is_reference_element f n) (same_element f Object) (reference n)
  with_more e f _ _ h = absurd (omega (arith, h))
