-- Lists whose items are related, index by index: their lengths, and the item that is related to one.
use Rattle.std.proofs.Common.{◌≡◌, ℕ, zero, suc, List, [], ◌∷◌, length, None, Some, slice_get, refl, sym, ap, subst}
use Rattle.name_tables.proofs.NumberLaws.{none_is_some}
use Rattle.resolved_code.specs.ResolvedPrograms.{AllAlike}

pub alike_length : {X Y : Type 0} (R : X → Y → Type 0) (xs : List X) (ys : List Y) → AllAlike R xs ys → length xs ≡ length ys
alike_length R [] [] h = refl
alike_length R (x ∷ xs) (y ∷ ys) h = ap suc (alike_length R xs ys h.1)
alike_length _ _ _ h = absurd h

-- the item that is related to one of the other list
pub record AlikeTo {X Y : Type 0} (R : X → Y → Type 0) (xs : List X) (n : ℕ) (y : Y) : Type 0 where
  pub item : X
  pub there : slice_get xs n ≡ Some item
  pub alike : R item y

pub alike_to : {X Y : Type 0} (R : X → Y → Type 0) (xs : List X) (ys : List Y) (n : ℕ) (y : Y) → AllAlike R xs ys → slice_get ys n ≡ Some y → AlikeTo R xs n y
alike_to R [] [] n y h e = absurd (none_is_some y e)
alike_to R (x ∷ xs) (z ∷ zs) zero y h e =
    let same : z ≡ y = cc in
    record { item = x; there = refl; alike = subst (R x) same h.0 }
alike_to R (x ∷ xs) (z ∷ zs) (suc n) y h e =
    let further : AlikeTo R xs n y = alike_to R xs zs n y h.1 e in
    record { item = further.item; there = further.there; alike = further.alike }
alike_to _ _ _ _ _ h _ = absurd h

-- beyond the last of one list there is none of the other
pub alike_beyond : {X Y : Type 0} (R : X → Y → Type 0) (xs : List X) (ys : List Y) → AllAlike R xs ys → (n : ℕ) → slice_get ys n ≡ None → slice_get xs n ≡ None
alike_beyond R [] [] h n e = refl
alike_beyond R (x ∷ xs) (z ∷ zs) h zero e = absurd (none_is_some z (sym e))
alike_beyond R (x ∷ xs) (z ∷ zs) h (suc n) e = alike_beyond R xs zs h.1 n e
alike_beyond _ _ _ h _ _ = absurd h
