-- An item that is found after a change of one index is the new one, or was there before.
use Rattle.std.proofs.Common.{◌≡◌, ◌⊎◌, ℕ, zero, suc, Bool, true, false, if◌then◌else◌, List, [], ◌∷◌, Some, slice_get, slice_set, refl, inl, inr, sym, ap}
use Rattle.std.proofs.lemmas.Option.{same_Some}
use Rattle.interpreter.specs.reference_machine.States.{entry_at, with_entry}
use Rattle.interpreter.proofs.cil_model.Lists.{none_is_some}

-- what was there stays, or its index is the one that changed
pub set_or_stays : {X : Type 0} (xs : List X) (n m : ℕ) (y x : X) → slice_get xs m ≡ Some x → (m ≡ n) ⊎ (slice_get (slice_set xs n y) m ≡ Some x)
set_or_stays [] n m y x e = none_is_some x e
set_or_stays (z ∷ zs) zero zero y x e = inl refl
set_or_stays (z ∷ zs) (suc n) (suc m) y x e = by_index (set_or_stays zs n m y x e)
  where
    by_index : (m ≡ n) ⊎ (slice_get (slice_set zs n y) m ≡ Some x) → (suc m ≡ suc n) ⊎ (slice_get (slice_set zs n y) m ≡ Some x)
    by_index (inl same) = inl (ap suc same)
    by_index (inr stays) = inr stays
set_or_stays _ _ _ y x e = inr e

-- what is under a key after a change of one entry is the new value, or was there
pub entry_or_was : {K V : Type 0} (same : K → K → Bool) (j k : K) (v w : V) (es : List (K × V)) → entry_at same j (with_entry same k v es) ≡ Some w → (w ≡ v) ⊎ (entry_at same j es ≡ Some w)
entry_or_was same j k v w [] h = inr h
entry_or_was {K} {V} same j k v w (e ∷ es) h = by_change (same e.0 k) h (entry_or_was same j k v w es)
  where
    at_change : (b : Bool) → (if b then Some v else entry_at same j es) ≡ Some w → (w ≡ v) ⊎ ((if b then Some e.1 else entry_at same j es) ≡ Some w)
    at_change true h' = inl (sym (same_Some v w h'))
    at_change false h' = inr h'

    before_change : (b : Bool) → (if b then Some e.1 else entry_at same j (with_entry same k v es)) ≡ Some w → (entry_at same j (with_entry same k v es) ≡ Some w → (w ≡ v) ⊎ (entry_at same j es ≡ Some w)) →
        (w ≡ v) ⊎ ((if b then Some e.1 else entry_at same j es) ≡ Some w)
    before_change true h' later = inr h'
    before_change false h' later = later h'

    by_change : (b : Bool) → entry_at same j (if b then (e.0, v) ∷ es else e ∷ with_entry same k v es) ≡ Some w → (entry_at same j (with_entry same k v es) ≡ Some w → (w ≡ v) ⊎ (entry_at same j es ≡ Some w)) →
        (w ≡ v) ⊎ (entry_at same j (e ∷ es) ≡ Some w)
    by_change true h' later = at_change (same e.0 j) h'
    by_change false h' later = before_change (same e.0 j) h' later
