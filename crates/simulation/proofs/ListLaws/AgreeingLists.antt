-- What lists that agree item by item have in common, and which changes of both keep them so.
use Rattle.std.proofs.Common.{◌≡◌, ℕ, zero, suc, List, [], ◌∷◌, ◌++◌, length, take, drop, reverse, Some, None, slice_get, slice_set, refl, sym, ap, subst}
use Rattle.std.proofs.lemmas.List.{reverse-append}
use Rattle.std.proofs.lemmas.Option.{same_Some}
use Rattle.simulation.specs.Agreement.{Agree}
use Rattle.interpreter.proofs.cil_model.Lists.{none_is_some}

module _ {A B : Type 0} (R : A → B → Type 0) where
  -- ---- how long they are

  pub agree_length : (xs : List A) (ys : List B) → Agree R xs ys → length xs ≡ length ys
  agree_length [] [] h = refl
  agree_length (x ∷ xs) (y ∷ ys) h = ap suc (agree_length xs ys h.1)
  agree_length _ _ h = elim h [ ]

  -- ---- elements

  -- an element of the second is at the same index of the first
  pub agree_get : (xs : List A) (ys : List B) → Agree R xs ys → (n : ℕ) (y : B) → slice_get ys n ≡ Some y → (x : A) × (slice_get xs n ≡ Some x) × R x y
  agree_get [] [] h n y is = none_is_some y is
  agree_get (x ∷ xs) (z ∷ zs) h zero y is = (x, refl, subst (λ w. R x w) (same_Some z y is) h.0)
  agree_get (x ∷ xs) (z ∷ zs) h (suc n) y is = agree_get xs zs h.1 n y is
  agree_get _ _ h n y is = elim h [ ]

  -- and one of the first at that of the second
  pub agree_at : (xs : List A) (ys : List B) → Agree R xs ys → (n : ℕ) (x : A) → slice_get xs n ≡ Some x → (y : B) × (slice_get ys n ≡ Some y) × R x y
  agree_at [] [] h n x is = none_is_some x is
  agree_at (z ∷ zs) (y ∷ ys) h zero x is = (y, refl, subst (λ w. R w y) (same_Some z x is) h.0)
  agree_at (z ∷ zs) (y ∷ ys) h (suc n) x is = agree_at zs ys h.1 n x is
  agree_at _ _ h n x is = elim h [ ]

  -- where one has no element, the other has none
  pub agree_beyond : (xs : List A) (ys : List B) → Agree R xs ys → (n : ℕ) → slice_get ys n ≡ None → slice_get xs n ≡ None
  agree_beyond [] [] h n is = refl
  agree_beyond (x ∷ xs) (y ∷ ys) h zero is = none_is_some y (sym is)
  agree_beyond (x ∷ xs) (y ∷ ys) h (suc n) is = agree_beyond xs ys h.1 n is
  agree_beyond _ _ h n is = elim h [ ]

  -- other elements that agree, at one index
  pub agree_set : (xs : List A) (ys : List B) → Agree R xs ys → (n : ℕ) (x : A) (y : B) → R x y → Agree R (slice_set xs n x) (slice_set ys n y)
  agree_set [] [] h n x y r = h
  agree_set (z ∷ zs) (w ∷ ws) h zero x y r = (r, h.1)
  agree_set (z ∷ zs) (w ∷ ws) h (suc n) x y r = (h.0, agree_set zs ws h.1 n x y r)
  agree_set _ _ h n x y r = elim h [ ]

  -- ---- parts

  pub agree_append : (xs : List A) (ys : List B) → Agree R xs ys → (zs : List A) (ws : List B) → Agree R zs ws → Agree R (xs ++ zs) (ys ++ ws)
  agree_append [] [] h zs ws k = k
  agree_append (x ∷ xs) (y ∷ ys) h zs ws k = (h.0, agree_append xs ys h.1 zs ws k)
  agree_append _ _ h zs ws k = elim h [ ]

  pub agree_take : (n : ℕ) (xs : List A) (ys : List B) → Agree R xs ys → Agree R (take n xs) (take n ys)
  agree_take zero xs ys h = tt
  agree_take (suc n) [] [] h = h
  agree_take (suc n) (x ∷ xs) (y ∷ ys) h = (h.0, agree_take n xs ys h.1)
  agree_take _ _ _ h = elim h [ ]

  pub agree_drop : (n : ℕ) (xs : List A) (ys : List B) → Agree R xs ys → Agree R (drop n xs) (drop n ys)
  agree_drop (suc n) (x ∷ xs) (y ∷ ys) h = agree_drop n xs ys h.1
  agree_drop (suc n) [] (y ∷ ys) h = elim h [ ]
  agree_drop (suc n) (x ∷ xs) [] h = elim h [ ]
  agree_drop _ _ _ h = h

  pub agree_reverse : (xs : List A) (ys : List B) → Agree R xs ys → Agree R (reverse xs) (reverse ys)
  agree_reverse [] [] h = h
  agree_reverse (x ∷ xs) (y ∷ ys) h =
      subst (λ l. Agree R l (reverse (y ∷ ys))) (sym (reverse-append (x ∷ []) xs))
      (subst (λ l. Agree R (reverse xs ++ x ∷ []) l) (sym (reverse-append (y ∷ []) ys)) (agree_append (reverse xs) (reverse ys) (agree_reverse xs ys h.1) (x ∷ []) (y ∷ []) (h.0, tt)))
  agree_reverse _ _ h = elim h [ ]

-- with a weaker relation
pub agree_weaken : {A B : Type 0} (R S : A → B → Type 0) → ((x : A) (y : B) → R x y → S x y) → (xs : List A) (ys : List B) → Agree R xs ys → Agree S xs ys
agree_weaken R S f [] [] h = h
agree_weaken R S f (x ∷ xs) (y ∷ ys) h = (f x y h.0, agree_weaken R S f xs ys h.1)
agree_weaken R S f _ _ h = elim h [ ]

-- another element at an index that is in each relation that the one before is in
pub agree_changed : {A B : Type 0} (R : A → B → Type 0) (xs : List A) (ys : List B) (t : ℕ) (x z : A) → slice_get xs t ≡ Some x → ((y : B) → R x y → R z y) → Agree R xs ys → Agree R (slice_set xs t z) ys
agree_changed R [] [] t x z is f h = h
agree_changed R (w ∷ xs) (y ∷ ys) zero x z is f h = (f y (subst (λ k. R k y) (same_Some w x is) h.0), h.1)
agree_changed R (w ∷ xs) (y ∷ ys) (suc t) x z is f h = (h.0, agree_changed R xs ys t x z is f h.1)
agree_changed R _ _ t x z is f h = elim h [ ]
