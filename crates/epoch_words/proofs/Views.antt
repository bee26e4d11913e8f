-- The views of a table, as a list read by `get_elem?`: after a step of one of them, and once there is one more.
use Rattle.std.proofs.Common.{◌≡◌, ◌≢◌, ◌⊎◌, ℕ, zero, suc, ◌<◌, List, [], ◌∷◌, ◌++◌, length, set, sym, refl, ap, subst, ⊎_elim, inl, inr, arith}
use mathlib.Core.Option.{some, some-injective, some-ne-none}
use lib.ListN.{get_elem?}
use Rattle.atomic_table.proofs.Lists.{at_set}

module _ {A : Type 0} where
  pub at_inside : (l : List A) (i : ℕ) (a : A) → get_elem? l i ≡ some a → i < length l
  at_inside [] i a e = absurd (some-ne-none a (sym e))
  at_inside (x ∷ xs) zero a e = omega arith
  at_inside (x ∷ xs) (suc i) a e = let h = at_inside xs i a e in omega arith

  pub at_end : (l : List A) (a b : A) (j : ℕ) → get_elem? (l ++ a ∷ []) j ≡ some b → (get_elem? l j ≡ some b) ⊎ ((j ≡ length l) × (a ≡ b))
  at_end [] a b zero e = inr (refl, some-injective a b e)
  at_end [] a b (suc j) e = absurd (some-ne-none b (sym e))
  at_end (x ∷ xs) a b zero e = inl e
  at_end (x ∷ xs) a b (suc j) e = ⊎_elim (λ t. inl t) (λ t. inr (ap suc t.0, t.1)) (at_end xs a b j e)

  -- the views after a step at the position `mover`: its own, or another's
  pub changed : (P : ℕ → A → Type 0) (l : List A) (mover : ℕ) (w : A) → P mover w → ((j : ℕ) (v : A) → j ≢ mover → get_elem? l j ≡ some v → P j v) → (j : ℕ) (v : A) → get_elem? (set l mover w) j ≡ some v → P j v
  changed P l mover w mine others j v e = ⊎_elim (λ (t : (j ≡ mover) × (w ≡ v)). subst (λ (z : ℕ × A). P z.0 z.1) (λ i. (sym t.0 i, t.1 i)) mine)
      (λ (t : (j ≢ mover) × (get_elem? l j ≡ some v)). others j v t.0 t.1) (at_set l mover j w v e)

  -- the views with w after them
  pub longer : (P : ℕ → A → Type 0) (l : List A) (w : A) → P (length l) w → ((j : ℕ) (v : A) → get_elem? l j ≡ some v → P j v) → (j : ℕ) (v : A) → get_elem? (l ++ w ∷ []) j ≡ some v → P j v
  longer P l w last others j v e = ⊎_elim (λ (old : get_elem? l j ≡ some v). others j v old)
      (λ (t : (j ≡ length l) × (w ≡ v)). subst (λ (z : ℕ × A). P z.0 z.1) (λ i. (sym t.0 i, t.1 i)) last) (at_end l w v j e)
