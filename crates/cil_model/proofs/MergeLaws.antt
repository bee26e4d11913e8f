-- Two types with a type above both have a merge.
use Rattle.std.proofs.Common.{◌≡◌, ◌≤◌, ◌<◌, ◌+◌, ◌-◌, ◌⊎◌, ℕ, zero, suc, Bool, true, false, IsTrue, Option, Some, None, option_and_then, refl, inl, inr, sym, ap, ◌∙◌, subst, arith}
use Rattle.std.proofs.lemmas.Bool.{cases_lt}
use Rattle.std.proofs.lemmas.Option.{same_Some}
use Rattle.cil_model.specs.declared.types.DeclaredType.{DeclaredType}
use Rattle.cil_model.specs.declared.trees.Tree.{Tree}
use Rattle.cil_model.specs.Same.{same_type}
use Rattle.cil_model.specs.Assignable.{is_reference}
use Rattle.cil_model.specs.TypeTree.{StackType, Declared, NativeInt, Null, parent, ancestor, IsBelow, IsMerge}
use Rattle.cil_model.specs.Legality.{IsLegal}
use Rattle.cil_model.proofs.SameLaws.{same_type_equal, same_type_itself}
use Rattle.cil_model.proofs.Lists.{none_is_some}
use Rattle.cil_model.proofs.BelowLaws.{declared_is_null, declared_is_native, null_is_native, lower_is_reference, climb, both_up}

-- ---- equal types

equal_or_not : (t u : DeclaredType) → (t ≡ u) ⊎ (t ≡ u → ⊥)
equal_or_not t u = by_test (same_type t u) refl
  where
    lost : false ≡ true → ⊥
    lost e = cc

    by_test : (b : Bool) → same_type t u ≡ b → (t ≡ u) ⊎ (t ≡ u → ⊥)
    by_test true h = inl (same_type_equal t u h)
    by_test false h = inr (λ e. let P : DeclaredType → Type 0 = λ x. IsTrue (same_type t x) in lost (sym h ∙ subst P e (same_type_itself t)))

module _ (tree : Tree) where
  below_is_reference : (n : ℕ) (a b : DeclaredType) → IsTrue (is_reference b) → ancestor tree n a ≡ Some b → IsTrue (is_reference a)
  below_is_reference zero a b r e = let P : DeclaredType → Type 0 = λ x. IsTrue (is_reference x) in subst P (sym (same_Some a b e)) r
  below_is_reference (suc n) a b r e = by_parent (parent tree a) refl e
    where
      by_parent : (o : Option DeclaredType) → parent tree a ≡ o → option_and_then (ancestor tree n) o ≡ Some b → IsTrue (is_reference a)
      by_parent None h e' = none_is_some b e'
      by_parent (Some p) h e' = lower_is_reference tree a.element a.brackets p h

  -- ---- the types on the way up

  -- from one ancestor on to a further one
  pub on_from : (m j : ℕ) (b t v : DeclaredType) → m ≤ j → ancestor tree m b ≡ Some t → ancestor tree j b ≡ Some v → (r : ℕ) × (ancestor tree r t ≡ Some v)
  on_from m j b t v h e f =
      let c : (k : ℕ) × (k ≡ m + (j - m)) × (ancestor tree k b ≡ ancestor tree (j - m) t) = climb tree m (j - m) b t e in
      let same : c.0 ≡ j = omega (arith, h, c.1) in
      (j - m, sym c.2 ∙ ap (λ k. ancestor tree k b) same ∙ f)

  -- a type is among the first ancestors, or is not
  among : (m : ℕ) (b u : DeclaredType) → ((j : ℕ) × (ancestor tree j b ≡ Some u)) ⊎ ((j : ℕ) → j ≤ m → ancestor tree j b ≡ Some u → ⊥)
  among zero b u = by_same (equal_or_not b u)
    where
      by_same : (b ≡ u) ⊎ (b ≡ u → ⊥) → ((j : ℕ) × (ancestor tree j b ≡ Some u)) ⊎ ((j : ℕ) → j ≤ zero → ancestor tree j b ≡ Some u → ⊥)
      by_same (inl e) = inl (0, ap Some e)
      by_same (inr differs) = inr (λ j h k. let P : ℕ → Type 0 = λ x. ancestor tree x b ≡ Some u in let none : j ≡ 0 = omega (arith, h) in differs (same_Some b u (subst P none k)))
  among (suc m) b u = by_same (equal_or_not b u) (by_parent (parent tree b) refl (λ p. among m p u))
    where
      by_parent : (o : Option DeclaredType) → parent tree b ≡ o → ((p : DeclaredType) → ((j : ℕ) × (ancestor tree j p ≡ Some u)) ⊎ ((j : ℕ) → j ≤ m → ancestor tree j p ≡ Some u → ⊥)) →
          ((j : ℕ) × (ancestor tree (suc j) b ≡ Some u)) ⊎ ((j : ℕ) → j ≤ m → ancestor tree (suc j) b ≡ Some u → ⊥)
      by_parent None h further = inr (λ j k e. none_is_some u (sym (ap (option_and_then (ancestor tree j)) h) ∙ e))
      by_parent (Some p) h further = up (further p)
        where
          up : ((j : ℕ) × (ancestor tree j p ≡ Some u)) ⊎ ((j : ℕ) → j ≤ m → ancestor tree j p ≡ Some u → ⊥) → ((j : ℕ) × (ancestor tree (suc j) b ≡ Some u)) ⊎ ((j : ℕ) → j ≤ m → ancestor tree (suc j) b ≡ Some u → ⊥)
          up (inl (j, e)) = inl (j, ap (option_and_then (ancestor tree j)) h ∙ e)
          up (inr differs) = inr (λ j k e. differs j k (sym (ap (option_and_then (ancestor tree j)) h) ∙ e))

      by_same : (b ≡ u) ⊎ (b ≡ u → ⊥) → ((j : ℕ) × (ancestor tree (suc j) b ≡ Some u)) ⊎ ((j : ℕ) → j ≤ m → ancestor tree (suc j) b ≡ Some u → ⊥) →
          ((j : ℕ) × (ancestor tree j b ≡ Some u)) ⊎ ((j : ℕ) → j ≤ suc m → ancestor tree j b ≡ Some u → ⊥)
      by_same (inl e) later = inl (0, ap Some e)
      by_same (inr differs) (inl (j, e)) = inl (suc j, e)
      by_same (inr differs) (inr none) = inr neither
        where
          neither : (j : ℕ) → j ≤ suc m → ancestor tree j b ≡ Some u → ⊥
          neither zero k e = differs (same_Some b u e)
          neither (suc j) k e = none j (omega (arith, k)) e

  module _ (legal : IsLegal tree) where
    -- a type that is above both, k parents up from the first, and no nearer one is
    abbrev Closest : DeclaredType → DeclaredType → Type 0
    Closest a b = (k : ℕ) × (u : DeclaredType) × (ancestor tree k a ≡ Some u) × ((j : ℕ) × (ancestor tree j b ≡ Some u)) ×
        ((i j : ℕ) (v : DeclaredType) → i < k → ancestor tree i a ≡ Some v → ancestor tree j b ≡ Some v → ⊥)

    -- where the first is not among the types up to one that is above both, it is nowhere above the second
    nowhere : (n m j : ℕ) (a b t : DeclaredType) → ancestor tree n a ≡ Some t → ancestor tree m b ≡ Some t → ((i : ℕ) → i ≤ m → ancestor tree i b ≡ Some a → ⊥) → ancestor tree j b ≡ Some a → ⊥
    nowhere n m j a b t e f none h = by_order (cases_lt j m)
      where
        by_order : (j < m) ⊎ (m ≤ j) → ⊥
        by_order (inl k) = none j (omega (arith, k)) h
        by_order (inr k) =
            let up : (r : ℕ) × (ancestor tree r t ≡ Some a) = on_from m j b t a k f h in
            let same : a ≡ t = both_up tree legal n up.0 a t e up.1 in
            none m (omega arith) (f ∙ ap Some (sym same))

    none_before : {A : Type 0} (x : ℕ) → x < 0 → A
    none_before x h = absurd (omega (arith, h))

    closest : (n m : ℕ) (a b t : DeclaredType) → ancestor tree n a ≡ Some t → ancestor tree m b ≡ Some t → Closest a b
    closest zero m a b t e f = (0, a, refl, (m, f ∙ sym e), λ i j v k p q. none_before i k)
    closest (suc n) m a b t e f = by_index (among m b a) (by_parent (parent tree a) refl e (λ p h. closest n m p b t h f))
      where
        by_parent : (o : Option DeclaredType) → parent tree a ≡ o → option_and_then (ancestor tree n) o ≡ Some t → ((p : DeclaredType) → ancestor tree n p ≡ Some t → Closest p b) → (p : DeclaredType) × (parent tree a ≡ Some p) × Closest p b
        by_parent None h e' further = none_is_some t e'
        by_parent (Some p) h e' further = (p, h, further p e')

        by_index : ((j : ℕ) × (ancestor tree j b ≡ Some a)) ⊎ ((j : ℕ) → j ≤ m → ancestor tree j b ≡ Some a → ⊥) → (p : DeclaredType) × (parent tree a ≡ Some p) × Closest p b → Closest a b
        by_index (inl (j, h)) later = (0, a, refl, (j, h), λ i j' v k p q. none_before i k)
        by_index (inr none) (p, up, (k, u, first, second, nearer)) = (suc k, u, ap (option_and_then (ancestor tree k)) up ∙ first, second, earlier)
          where
            earlier : (i j : ℕ) (v : DeclaredType) → i < suc k → ancestor tree i a ≡ Some v → ancestor tree j b ≡ Some v → ⊥
            earlier zero j v h q r = nowhere (suc n) m j a b t e f none (r ∙ sym q)
            earlier (suc i) j v h q r = nearer i j v (omega (arith, h)) (sym (ap (option_and_then (ancestor tree i)) up) ∙ q) r

    -- ---- merges

    declared_merge : (n m : ℕ) (a b t : DeclaredType) → ancestor tree n a ≡ Some t → ancestor tree m b ≡ Some t → (merged : StackType) × IsMerge tree (Declared a) (Declared b) merged
    declared_merge n m a b t e f = made (closest n m a b t e f)
      where
        least : (k : ℕ) (u : DeclaredType) → ancestor tree k a ≡ Some u → ((i j : ℕ) (v : DeclaredType) → i < k → ancestor tree i a ≡ Some v → ancestor tree j b ≡ Some v → ⊥) →
            (other : StackType) → IsBelow tree (Declared a) other → IsBelow tree (Declared b) other → IsBelow tree (Declared u) other
        least k u first nearer (Declared v) (i, h) (j, h') = by_order (cases_lt i k)
          where
            by_order : (i < k) ⊎ (k ≤ i) → IsBelow tree (Declared u) (Declared v)
            by_order (inl l) = absurd (nearer i j v l h h')
            by_order (inr l) = on_from k i a u v l first h
        least k u first nearer Null h h' = declared_is_null a h
        least k u first nearer NativeInt h h' = declared_is_native a h

        made : Closest a b → (merged : StackType) × IsMerge tree (Declared a) (Declared b) merged
        made (k, u, first, second, nearer) = (Declared u, record { above_first = (k, first); above_second = second; least = least k u first nearer })

    -- null merged with a reference is that reference
    null_merge : (m : ℕ) (b t : DeclaredType) → IsTrue (is_reference t) → ancestor tree m b ≡ Some t → IsTrue (is_reference b)
    null_merge m b t r f = below_is_reference m b t r f

    pub merge_exists : (a b above : StackType) → IsBelow tree a above → IsBelow tree b above → (merged : StackType) × IsMerge tree a b merged
    merge_exists (Declared a) (Declared b) (Declared t) (n, e) (m, f) = declared_merge n m a b t e f
    merge_exists Null (Declared b) (Declared t) r (m, f) = (Declared b, record { above_first = null_merge m b t r f; above_second = (0, refl); least = λ other h k. k })
    merge_exists (Declared a) Null (Declared t) (n, e) r = (Declared a, record { above_first = (0, refl); above_second = null_merge n a t r e; least = λ other h k. h })
    merge_exists Null Null above h k = (Null, record { above_first = refl; above_second = refl; least = λ other p q. p })
    merge_exists NativeInt NativeInt above h k = (NativeInt, record { above_first = refl; above_second = refl; least = λ other p q. p })
    merge_exists (Declared a) (Declared b) Null h k = declared_is_null a h
    merge_exists (Declared a) (Declared b) NativeInt h k = declared_is_native a h
    merge_exists Null (Declared b) Null h k = declared_is_null b k
    merge_exists Null (Declared b) NativeInt h k = declared_is_native b k
    merge_exists (Declared a) Null Null h k = declared_is_null a h
    merge_exists (Declared a) Null NativeInt h k = declared_is_native a h
    merge_exists NativeInt (Declared b) (Declared t) h k = declared_is_native t (sym h)
    merge_exists NativeInt (Declared b) Null h k = declared_is_null b k
    merge_exists NativeInt (Declared b) NativeInt h k = declared_is_native b k
    merge_exists (Declared a) NativeInt (Declared t) h k = declared_is_native t (sym k)
    merge_exists (Declared a) NativeInt Null h k = declared_is_null a h
    merge_exists (Declared a) NativeInt NativeInt h k = declared_is_native a h
    merge_exists Null NativeInt (Declared t) h k = declared_is_native t (sym k)
    merge_exists Null NativeInt Null h k = null_is_native (sym k)
    merge_exists Null NativeInt NativeInt h k = null_is_native h
    merge_exists NativeInt Null (Declared t) h k = declared_is_native t (sym h)
    merge_exists NativeInt Null Null h k = null_is_native (sym h)
    merge_exists NativeInt Null NativeInt h k = null_is_native k
