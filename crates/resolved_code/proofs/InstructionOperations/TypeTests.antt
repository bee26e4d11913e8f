-- The outcome of a test of resolved types holds of the types that they represent.
use Rattle.std.proofs.Common.{◌≡◌, ◌==◌, ◌<◌, ◌≤◌, nat_lt, ℕ, Bool, true, false, ◌&&◌, cond, Option, Some, None, option_map, refl, sym, ap, ◌∙◌, subst, arith}
use Rattle.std.proofs.lemmas.Bool.{eqb-true, eqb-false, ltb-true, ltb-false}
use Rattle.cil_model.specs.declared.types.ClassName.{ClassName}
use Rattle.cil_model.specs.declared.types.Element.{Element}
use Rattle.cil_model.specs.declared.types.Element.TheVariants.{Int32 as Int32Element, Int64 as Int64Element, Object as ObjectElement, String as StringElement, Class as ClassElement}
use Rattle.cil_model.specs.declared.types.DeclaredType.{DeclaredType}
use Rattle.cil_model.specs.declared.trees.Tree.{Tree}
use Rattle.cil_model.specs.Same.{same_element}
use Rattle.cil_model.specs.Assignable.{is_element_assignable, is_assignable_at, is_assignable}
use Rattle.name_tables.proofs.NumberLaws.{none_is_some}
use Rattle.resolved_code.specs.declared.types.ResolvedElement.{ResolvedElement}
use Rattle.resolved_code.specs.declared.types.ResolvedElement.TheVariants.{Int32, Int64, Object, String, Class}
use Rattle.resolved_code.specs.declared.types.ResolvedType.{ResolvedType}
use Rattle.resolved_code.specs.ById.{class_name, element_at, type_at}
use Rattle.resolved_code.specs.declared.type_tests.TypeTest.TheVariants.{Answered}
use Rattle.resolved_code.specs.TypeTests.{is_object, element_test, type_test, IsResultOf}
use Rattle.resolved_code.proofs.InstructionOperations.ArrayTypes.{with_same_count, with_fewer, with_more}

module _ (tree : Tree) where
  -- the element that a resolved one represents, case by case
  data Refines : ResolvedElement → Element → Type 0 where
    an_int32 : Refines Int32 Int32Element
    an_int64 : Refines Int64 Int64Element
    an_object : Refines Object ObjectElement
    a_string : Refines String StringElement
    a_class : (n : ℕ) (c : ClassName) → class_name tree n ≡ Some c → Refines (Class n) (ClassElement c)

  refines : (n : ResolvedElement) (e : Element) → element_at tree n ≡ Some e → Refines n e
  refines Int32 e h = let q : Int32Element ≡ e = cc in subst (Refines Int32) q an_int32
  refines Int64 e h = let q : Int64Element ≡ e = cc in subst (Refines Int64) q an_int64
  refines Object e h = let q : ObjectElement ≡ e = cc in subst (Refines Object) q an_object
  refines String e h = let q : StringElement ≡ e = cc in subst (Refines String) q a_string
  refines (Class n) e h = by_name (class_name tree n) refl
    where
      by_name : (o : Option ClassName) → class_name tree n ≡ o → Refines (Class n) e
      by_name None p = absurd (none_is_some e (sym (ap (option_map ClassElement) p) ∙ h))
      by_name (Some c) p = let both : Some (ClassElement c) ≡ Some e = sym (ap (option_map ClassElement) p) ∙ h in let q : ClassElement c ≡ e = cc in subst (Refines (Class n)) q (a_class n c p)

  element_results_in : (n m : ResolvedElement) (e f : Element) → Refines n e → Refines m f → IsResultOf tree (element_test n m) (is_element_assignable tree e f)
  element_results_in _ _ _ _ (a_class n c h) (a_class m d k) = (c, d, h, k, refl)
  element_results_in _ _ _ _ an_int32 an_object = refl
  element_results_in _ _ _ _ an_int64 an_object = refl
  element_results_in _ _ _ _ an_object an_object = refl
  element_results_in _ _ _ _ a_string an_object = refl
  element_results_in _ _ _ _ _ _ = refl

  object_is : (m : ResolvedElement) (f : Element) → Refines m f → is_object m ≡ same_element f ObjectElement
  object_is _ _ an_int32 = refl
  object_is _ _ (a_class m d k) = refl
  object_is _ _ _ = refl

  -- a type's element and brackets
  parts : (n : ResolvedType) (a : DeclaredType) → type_at tree n ≡ Some a → Refines n.element a.element × (n.brackets ≡ a.brackets)
  parts n a h = by_element (element_at tree n.element) refl
    where
      by_element : (o : Option Element) → element_at tree n.element ≡ o → Refines n.element a.element × (n.brackets ≡ a.brackets)
      by_element None p = absurd (none_is_some a (sym (ap (option_map (λ (e : Element). let t : DeclaredType = record { element = e; brackets = n.brackets } in t)) p) ∙ h))
      by_element (Some e) p =
          let t : DeclaredType = record { element = e; brackets = n.brackets } in
          let both : Some t ≡ Some a = sym (ap (option_map (λ (x : Element). let s : DeclaredType = record { element = x; brackets = n.brackets } in s)) p) ∙ h in
          let same : t ≡ a = cc both in
          (refines n.element a.element (p ∙ ap (λ (x : DeclaredType). Some x.element) same), ap (λ (x : DeclaredType). x.brackets) same)

  -- the test, for the types with their brackets apart
  at_brackets : (n : ResolvedElement) (e : Element) (i : ℕ) (m : ResolvedElement) (f : Element) (j : ℕ) → Refines n e → Refines m f →
      IsResultOf tree (cond (i == j) (element_test n m) (Answered (nat_lt j i && is_object m))) (is_assignable_at tree e i f j)
  at_brackets n e i m f j h k = by_equal (i == j) refl
    where
      by_order : (b : Bool) → nat_lt j i ≡ b → (i == j) ≡ false → b && is_object m ≡ is_assignable_at tree e i f j
      by_order true l apart = object_is m f k ∙ sym (with_more tree e f i j (ltb-true j i l))
      by_order false l apart = let other : i < j = less (ltb-false j i l) (eqb-false i j apart) in sym (with_fewer tree e f i j other)
        where
          less : i ≤ j → (i ≡ j → ⊥) → i < j
          less p q = grind (arith, p, q)

      by_equal : (b : Bool) → (i == j) ≡ b → IsResultOf tree (cond b (element_test n m) (Answered (nat_lt j i && is_object m))) (is_assignable_at tree e i f j)
      by_equal true same =
          let P : Bool → Type 0 = IsResultOf tree (element_test n m) in
          subst P (sym (with_same_count tree e f i) ∙ ap (is_assignable_at tree e i f) (eqb-true i j same)) (element_results_in n m e f h k)
      by_equal false apart = by_order (nat_lt j i) refl apart

  pub type_results_in : (n m : ResolvedType) (a b : DeclaredType) → type_at tree n ≡ Some a → type_at tree m ≡ Some b → IsResultOf tree (type_test n m) (is_assignable tree a b)
  type_results_in n m a b h k =
      let from : Refines n.element a.element × (n.brackets ≡ a.brackets) = parts n a h in
      let to : Refines m.element b.element × (m.brackets ≡ b.brackets) = parts m b k in
      let P : Bool → Type 0 = IsResultOf tree (type_test n m) in
      subst P (ap (λ i. is_assignable_at tree a.element i b.element m.brackets) from.1 ∙ ap (λ j. is_assignable_at tree a.element a.brackets b.element j) to.1)
      (at_brackets n.element a.element n.brackets m.element b.element m.brackets from.0 to.0)
