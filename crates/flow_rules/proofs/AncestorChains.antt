-- Ancestors end in a legal tree, within the number of its classes and the brackets.
use Rattle.std.proofs.Common.{◌≡◌, ◌≤◌, ◌<◌, ◌+◌, ◌-◌, ◌⊎◌, ℕ, zero, suc, Bool, true, false, IsTrue, Option, Some, None, option_and_then, refl, inl, inr, sym, ap, ◌∙◌, subst, arith}
use Rattle.std.proofs.lemmas.Bool.{cases_lt}
use Rattle.std.proofs.lemmas.Option.{same_Some}
use Rattle.std.specs.Prelude.{drop}
use Rattle.cil_model.specs.declared.types.ClassName.{ClassName}
use Rattle.cil_model.specs.declared.types.Element.{Element}
use Rattle.cil_model.specs.declared.types.Element.TheVariants.{Int32, Int64, Object, String, Class}
use Rattle.cil_model.specs.declared.types.DeclaredType.{DeclaredType}
use Rattle.cil_model.specs.declared.trees.Tree.{Tree}
use Rattle.cil_model.specs.Same.{same_class}
use Rattle.cil_model.specs.Declarations.{object_name, string_name}
use Rattle.cil_model.specs.Chains.{base_of, chain_within, longest_chain}
use Rattle.cil_model.specs.Assignable.{is_reference, element_named}
use Rattle.cil_model.specs.TypeTree.{StackType, Declared, NativeInt, Null, parent_element, parent, ancestor, IsBelow, IsMerge}
use Rattle.cil_model.specs.Legality.{IsLegal}
use Rattle.cil_model.proofs.MergeLaws.{on_from}
use Rattle.cil_model.proofs.Lists.{none_is_some, no_item}
use Rattle.cil_model.proofs.Legal.{no_cycle}
use Rattle.cil_model.proofs.ChainLaws.{chain_ends}
use Rattle.cil_model.proofs.BelowLaws.{typed, declared_is_null, declared_is_native, climb, lower_is_reference}

module _ (tree : Tree) where
  -- one more parent up
  pub next : (n : ℕ) (a b c : DeclaredType) → ancestor tree n a ≡ Some b → parent tree b ≡ Some c → ancestor tree (n + 1) a ≡ Some c
  next n a b c e f =
      let k : (k : ℕ) × (k ≡ n + 1) × (ancestor tree k a ≡ ancestor tree 1 b) = climb tree n 1 a b e in
      let one : ancestor tree 1 b ≡ Some c = ap (option_and_then (ancestor tree 0)) f in
      ap (λ m. ancestor tree m a) (sym k.1) ∙ k.2 ∙ one

  -- above a type without a parent there is nothing
  pub past : (n j : ℕ) (a b : DeclaredType) → ancestor tree n a ≡ Some b → parent tree b ≡ None → n < j → ancestor tree j a ≡ None
  past n j a b e f h =
      let k : (k : ℕ) × (k ≡ n + suc (j - n - 1)) × (ancestor tree k a ≡ ancestor tree (suc (j - n - 1)) b) = climb tree n (suc (j - n - 1)) a b e in
      let same : k.0 ≡ j = omega (arith, k.1, h) in
      let none : ancestor tree (suc (j - n - 1)) b ≡ None = ap (option_and_then (ancestor tree (j - n - 1))) f in
      ap (λ m. ancestor tree m a) (sym same) ∙ k.2 ∙ none

  pub beyond : (n j : ℕ) (a b v : DeclaredType) → ancestor tree n a ≡ Some b → parent tree b ≡ None → n < j → ancestor tree j a ≡ Some v → ⊥
  beyond n j a b v e f h g = none_is_some v (sym (past n j a b e f h) ∙ g)

  object_ends : (k n : ℕ) → k < n → ancestor tree n (typed Object k) ≡ None
  object_ends k zero h = absurd (omega (arith, h))
  object_ends zero (suc n) h = refl
  object_ends (suc k) (suc n) h = object_ends k n (omega (arith, h))

  string_ends : (k n : ℕ) → k + 1 < n → ancestor tree n (typed String k) ≡ None
  string_ends k zero h = absurd (omega (arith, h))
  string_ends k (suc n) h = object_ends k n (omega (arith, h))

  class_ends : (m : ℕ) (c : ClassName) → chain_within tree (suc m) (Some c) ≡ chain_within tree m (Some c) → (k n : ℕ) → m + k + 2 ≤ n → ancestor tree n (typed (Class c) k) ≡ None
  class_ends zero c e k n h = no_item c (chain_within tree zero (base_of tree c)) e
  class_ends (suc m) c e k zero h = absurd (omega (arith, h))
  class_ends (suc m) c e k (suc n) h = by_base (base_of tree c) (ap (drop 1) e) (λ b f. class_ends m b f k n (omega (arith, h)))
    where
      by_name : (v w : Bool) (b : ClassName) → ancestor tree n (typed (Class b) k) ≡ None → ancestor tree n (typed (element_named v w b) k) ≡ None
      by_name true w b f = object_ends k n (omega (arith, h))
      by_name false true b f = string_ends k n (omega (arith, h))
      by_name false false b f = f

      by_base : (o : Option ClassName) → chain_within tree (suc m) o ≡ chain_within tree m o → ((b : ClassName) → chain_within tree (suc m) (Some b) ≡ chain_within tree m (Some b) → ancestor tree n (typed (Class b) k) ≡ None) →
          ancestor tree n (typed (parent_element o) k) ≡ None
      by_base None f further = object_ends k n (omega (arith, h))
      by_base (Some b) f further = by_name (same_class b object_name) (same_class b string_name) b (further b f)

  pub type_ends : IsLegal tree → (e : Element) (k n : ℕ) → longest_chain tree + k + 2 ≤ n → ancestor tree n (typed e k) ≡ None
  type_ends legal e k zero h = absurd (omega (arith, h))
  type_ends legal Object k n h = object_ends k n (omega (arith, h))
  type_ends legal String k n h = string_ends k n (omega (arith, h))
  type_ends legal Int32 (suc k) (suc n) h = object_ends k n (omega (arith, h))
  type_ends legal Int64 (suc k) (suc n) h = object_ends k n (omega (arith, h))
  type_ends legal (Class c) k n h = class_ends (longest_chain tree) c (chain_ends tree (no_cycle tree legal) c (suc (longest_chain tree)) (omega arith)) k n h
  type_ends _ _ _ _ _ = refl

  -- ---- merges

  -- the first above the one that is above the other too is the merge
  pub closest : (k : ℕ) (a b u : DeclaredType) → ancestor tree k a ≡ Some u → IsBelow tree (Declared b) (Declared u) →
      ((i : ℕ) (v : DeclaredType) → i < k → ancestor tree i a ≡ Some v → IsBelow tree (Declared b) (Declared v) → ⊥) → IsMerge tree (Declared a) (Declared b) (Declared u)
  closest k a b u first second nearer = record { above_first = (k, first); above_second = second; least = least }
    where
      least : (other : StackType) → IsBelow tree (Declared a) other → IsBelow tree (Declared b) other → IsBelow tree (Declared u) other
      least (Declared v) (i, h) under = by_order (cases_lt i k)
        where
          by_order : (i < k) ⊎ (k ≤ i) → IsBelow tree (Declared u) (Declared v)
          by_order (inl l) = absurd (nearer i v l h under)
          by_order (inr l) = on_from tree k i a u v l first h
      least Null h h' = declared_is_null a h
      least NativeInt h h' = declared_is_native a h

  -- where none above the one is above the other, they have none in common
  pub apart : (a b : DeclaredType) → ((i : ℕ) (v : DeclaredType) → ancestor tree i a ≡ Some v → IsBelow tree (Declared b) (Declared v) → ⊥) → (above : StackType) → IsBelow tree (Declared a) above → IsBelow tree (Declared b) above → ⊥
  apart a b none (Declared v) (i, h) under = none i v h under
  apart a b none Null h under = declared_is_null a h
  apart a b none NativeInt h under = declared_is_native a h

  -- null and what is no reference have no type above both
  never : {A : Type 0} → true ≡ false → A
  never e = absurd (cc e)

  alone : (n : ℕ) (t v : DeclaredType) → is_reference t ≡ false → IsTrue (is_reference v) → ancestor tree n t ≡ Some v → ⊥
  alone zero t v none r e = let P : DeclaredType → Type 0 = λ x. IsTrue (is_reference x) in never (sym (subst P (sym (same_Some t v e)) r) ∙ none)
  alone (suc n) t v none r e = by_parent (parent tree t) refl e
    where
      by_parent : (o : Option DeclaredType) → parent tree t ≡ o → option_and_then (ancestor tree n) o ≡ Some v → ⊥
      by_parent None h f = none_is_some v f
      by_parent (Some p) h f = never (sym (lower_is_reference tree t.element t.brackets p h) ∙ none)

  pub null_apart : (t : DeclaredType) → is_reference t ≡ false → (above : StackType) → IsBelow tree Null above → IsBelow tree (Declared t) above → ⊥
  null_apart t none (Declared v) r (n, e) = alone n t v none r e
  null_apart t none Null r under = declared_is_null t under
  null_apart t none NativeInt r under = declared_is_native t under

  -- so far up there is nothing
  pub too_far : IsLegal tree → (n m : ℕ) (a u : DeclaredType) → longest_chain tree + a.brackets + 2 ≤ m → m ≤ n → ancestor tree n a ≡ Some u → ⊥
  too_far legal n m a u far reached e = none_is_some u (sym (type_ends legal a.element a.brackets n (omega (arith, far, reached))) ∙ e)
