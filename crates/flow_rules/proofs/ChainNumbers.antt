-- Assignability of classes by their numbers.
use Rattle.std.proofs.Common.{◌≡◌, ◌==◌, ◌<◌, ◌+◌, ◌-◌, ℕ, zero, suc, Bool, true, false, ◌||◌, is_some, List, [], ◌∷◌, map, Option, Some, None, option_map, refl, sym, ap, ◌∙◌, arith}
use Rattle.std.specs.List.{list_any}
use Rattle.std.proofs.lemmas.Bool.{eqb-true, eq-eqb}
use Rattle.std.proofs.lemmas.Option.{same_Some}
use Rattle.cil_model.specs.declared.types.ClassName.{ClassName}
use Rattle.cil_model.specs.declared.types.Element.TheVariants as Named
use Rattle.cil_model.specs.declared.trees.Tree.{Tree}
use Rattle.cil_model.specs.Same.{same_class}
use Rattle.cil_model.specs.Declarations.{Declaration}
use Rattle.cil_model.specs.Chains.{base_of, chain_within, interfaces_declared, listed_by}
use Rattle.cil_model.specs.Legality.{IsLegal}
use Rattle.cil_model.proofs.Lists.{none_is_some}
use Rattle.cil_model.proofs.SameLaws.{same_class_equal, same_class_itself, class_equivalence}
use Rattle.resolved_code.specs.ById.{class_name}
use Rattle.resolved_code.specs.declared.types.ResolvedElement.TheVariants.{Class}
use Rattle.resolved_code.specs.declared.classes.ResolvedClass.{ResolvedClass}
use Rattle.flow_rules.specs.StackTypes.{class_named}
use Rattle.flow_rules.specs.Merging.{IsClassAt}
use Rattle.flow_rules.proofs.Classes.{one_element, own_declaration, element_at_number, base_at, base_known}

module _ (tree : Tree) where
  -- the class is the one, or lists it
  abbrev pub refines : ClassName → ClassName → Bool
  refines d k = same_class k d || list_any (same_class d) (interfaces_declared tree k)

  -- some class of the rest of a chain is the one, or lists it
  abbrev pub is_along : ClassName → ℕ → Option ClassName → Bool
  is_along d n c = list_any (refines d) (chain_within tree n c)

  module _ (legal : IsLegal tree) where
    same_number : (m n : ℕ) → is_some (class_name tree m) ≡ true → is_some (class_name tree n) ≡ true → same_class (class_named tree m) (class_named tree n) ≡ (m == n)
    same_number m n k l = by_tests (same_class (class_named tree m) (class_named tree n)) (m == n) refl refl
      where
        one : class_named tree m ≡ class_named tree n → m ≡ n
        one h = let e : Class m ≡ Class n = one_element tree legal (Class m) (Class n) k l (ap Named.Class h) in cc e

        by_tests : (s t : Bool) → same_class (class_named tree m) (class_named tree n) ≡ s → (m == n) ≡ t → s ≡ t
        by_tests true false p q = sym (eq-eqb m n (one (same_class_equal (class_named tree m) (class_named tree n) p))) ∙ q
        by_tests false true p q = sym p ∙ ap (λ (i : ℕ). same_class (class_named tree m) (class_named tree i)) (sym (eqb-true m n q)) ∙ same_class_itself (class_named tree m)
        by_tests _ _ _ _ = refl

    listed_number : (to : ℕ) → is_some (class_name tree to) ≡ true → (ks : List ℕ) (names : List ClassName) → map (class_name tree) ks ≡ map Some names →
        list_any (same_class (class_named tree to)) names ≡ list_any (λ i. i == to) ks
    listed_number to l [] [] h = refl
    listed_number to l (k ∷ ks) (c ∷ names) h =
        let first : class_name tree k ≡ Some c = cc h in
        let others : map (class_name tree) ks ≡ map Some names = cc h in
        let here : same_class (class_named tree to) c ≡ (k == to) =
        class_equivalence.symm (class_named tree to) c ∙ ap (λ (x : ClassName). same_class x (class_named tree to)) (sym (element_at_number tree k c first)) ∙ same_number k to (ap is_some first) l in
        ap (λ b. b || list_any (same_class (class_named tree to)) names) here ∙ ap (λ b. (k == to) || b) (listed_number to l ks names others)
    listed_number to l _ _ h = absurd (cc h)

    -- the test of one class, by numbers
    tested : (n to : ℕ) (k : ResolvedClass) → IsClassAt tree n k → is_some (class_name tree to) ≡ true → refines (class_named tree to) (class_named tree n) ≡ (n == to) || list_any (λ i. i == to) k.interfaces
    tested n to k (name, d, at, alike) l =
        let named : class_name tree n ≡ Some name = ap (option_map (λ (x : ClassName × Declaration). x.0)) at in
        let interfaces : interfaces_declared tree (class_named tree n) ≡ d.interfaces = ap (interfaces_declared tree) (element_at_number tree n name named) ∙ ap (listed_by (λ x. x.interfaces)) (own_declaration tree legal n name d at) in
        ap (λ b. b || list_any (same_class (class_named tree to)) (interfaces_declared tree (class_named tree n))) (same_number n to (ap is_some named) l) ∙
        ap (λ (is : List ClassName). (n == to) || list_any (same_class (class_named tree to)) is) interfaces ∙ ap (λ b. (n == to) || b) (listed_number to l k.interfaces d.interfaces alike.interfaces)

    chain_next : (total i : ℕ) (c : ClassName) → i < total → chain_within tree (total - i) (Some c) ≡ c ∷ chain_within tree (total - (i + 1)) (base_of tree c)
    chain_next total i c h = let more : total - i ≡ suc (total - (i + 1)) = omega (arith, h) in ap (λ m. chain_within tree m (Some c)) more

    along : (total i n to : ℕ) (k : ResolvedClass) (b : Bool) → i < total → IsClassAt tree n k → is_some (class_name tree to) ≡ true → (n == to) || list_any (λ j. j == to) k.interfaces ≡ b →
        is_along (class_named tree to) (total - i) (Some (class_named tree n)) ≡ b || is_along (class_named tree to) (total - (i + 1)) (base_of tree (class_named tree n))
    along total i n to k b h at l is =
        ap (list_any (refines (class_named tree to))) (chain_next total i (class_named tree n) h) ∙ ap (λ x. x || is_along (class_named tree to) (total - (i + 1)) (base_of tree (class_named tree n))) (tested n to k at l ∙ is)

    pub found_here : (total i n to : ℕ) (k : ResolvedClass) (all : Bool) → i < total → IsClassAt tree n k → is_some (class_name tree to) ≡ true → (n == to) || list_any (λ j. j == to) k.interfaces ≡ true →
        is_along (class_named tree to) (total - i) (Some (class_named tree n)) ≡ all → true ≡ all
    found_here total i n to k all h at l is rest = sym (along total i n to k true h at l is) ∙ rest

    -- the base's number refers to the base
    based : (n m : ℕ) (k : ResolvedClass) → IsClassAt tree n k → k.base ≡ Some m → base_of tree (class_named tree n) ≡ Some (class_named tree m)
    based n m k at e = by_base (base_of tree (class_named tree n)) (sym (ap (option_map (class_name tree)) e) ∙ base_at tree legal n k at)
      where
        by_base : (b : Option ClassName) → Some (class_name tree m) ≡ option_map Some b → b ≡ Some (class_named tree m)
        by_base None h = none_is_some (class_name tree m) (sym h)
        by_base (Some c) h = ap Some (sym (element_at_number tree m c (same_Some (class_name tree m) (Some c) h)))

    baseless : (n : ℕ) (k : ResolvedClass) → IsClassAt tree n k → k.base ≡ None → base_of tree (class_named tree n) ≡ None
    baseless n k at e = by_base (base_of tree (class_named tree n)) (sym (ap (option_map (class_name tree)) e) ∙ base_at tree legal n k at)
      where
        by_base : (b : Option ClassName) → None ≡ option_map Some b → b ≡ None
        by_base None h = refl
        by_base (Some c) h = none_is_some (Some c) h

    nothing_along : (d : ClassName) (n : ℕ) → is_along d n None ≡ false
    nothing_along d zero = refl
    nothing_along d (suc n) = refl

    pub found_nowhere : (total i n to : ℕ) (k : ResolvedClass) (all : Bool) → i < total → IsClassAt tree n k → is_some (class_name tree to) ≡ true → (n == to) || list_any (λ j. j == to) k.interfaces ≡ false → k.base ≡ None →
        is_along (class_named tree to) (total - i) (Some (class_named tree n)) ≡ all → false ≡ all
    found_nowhere total i n to k all h at l is none rest =
        sym (along total i n to k false h at l is ∙ ap (is_along (class_named tree to) (total - (i + 1))) (baseless n k at none) ∙ nothing_along (class_named tree to) (total - (i + 1))) ∙ rest

    pub found_later : (total i n m to : ℕ) (k : ResolvedClass) (all : Bool) → i < total → IsClassAt tree n k → is_some (class_name tree to) ≡ true → (n == to) || list_any (λ j. j == to) k.interfaces ≡ false → k.base ≡ Some m →
        is_along (class_named tree to) (total - i) (Some (class_named tree n)) ≡ all → is_along (class_named tree to) (total - (i + 1)) (Some (class_named tree m)) ≡ all
    found_later total i n m to k all h at l is e rest =
        sym (along total i n to k false h at l is ∙ ap (is_along (class_named tree to) (total - (i + 1))) (based n m k at e)) ∙ rest

    pub based_known : (n m : ℕ) (k : ResolvedClass) → IsClassAt tree n k → k.base ≡ Some m → is_some (class_name tree m) ≡ true
    based_known n m k at e = base_known tree k.base m (base_of tree (class_named tree n)) (base_at tree legal n k at) e
