-- The first outcome of a list that differs, and why an exploration is not done.
use Rattle.std.proofs.Common.{◌≡◌, ℕ, zero, suc, Bool, true, false, if◌then◌else◌, List, [], ◌∷◌, None, Some, slice_get, take, ap, refl, sym, ◌∙◌, inl, inr}
use Rattle.outcome_search.specs.exploration.declared.found_outcomes.FoundOutcome.{FoundOutcome}
use Rattle.driver.proofs.Names.{HasAcceptedTree, Failure, Device, Limits, IsNotPictured, first_other, first_other_in, is_other, HasNotExplored}
use Rattle.driver.proofs.Refusals.{not_run}

-- one more outcome does not differ
pub none_more : (printed : List ℕ) (found : List FoundOutcome) (n : ℕ) (f : FoundOutcome) → slice_get found n ≡ Some f → is_other printed f ≡ false
    → first_other_in printed (take n found) ≡ None → first_other_in printed (take (suc n) found) ≡ None
none_more printed [] n f there plain none = refl
none_more printed (g ∷ found) zero f there plain none =
    let same : g ≡ f = cc there in
    ap (λ h. if is_other printed h then Some g else None) same ∙ ap (λ b. if b then Some g else None) plain
none_more printed (g ∷ found) (suc n) f there plain none = by (is_other printed g) none (none_more printed found n f there plain)
  where
    by : (b : Bool) → (if b then Some g else first_other_in printed (take n found)) ≡ None
        → (first_other_in printed (take n found) ≡ None → first_other_in printed (take (suc n) found) ≡ None)
        → (if b then Some g else first_other_in printed (take (suc n) found)) ≡ None
    by true none rest = absurd (cc none)
    by false none rest = rest none

-- the first outcomes do not differ, and the next one does
pub first_here : (printed : List ℕ) (found : List FoundOutcome) (n : ℕ) (f : FoundOutcome) → slice_get found n ≡ Some f → is_other printed f ≡ true
    → first_other_in printed (take n found) ≡ None → first_other_in printed found ≡ Some f
first_here printed [] n f there other none = absurd (cc there)
first_here printed (g ∷ found) zero f there other none =
    let same : g ≡ f = cc there in
    ap (λ h. if is_other printed h then Some g else first_other_in printed found) same
    ∙ ap (λ b. if b then Some g else first_other_in printed found) other ∙ ap Some same
first_here printed (g ∷ found) (suc n) f there other none = by (is_other printed g) none (first_here printed found n f there other)
  where
    by : (b : Bool) → (if b then Some g else first_other_in printed (take n found)) ≡ None
        → (first_other_in printed (take n found) ≡ None → first_other_in printed found ≡ Some f)
        → (if b then Some g else first_other_in printed found) ≡ Some f
    by true none rest = absurd (cc none)
    by false none rest = rest none

-- the first outcome that differs from the first one, where there is a first one
pub first_other_at : (found : List FoundOutcome) (first : FoundOutcome) → slice_get found 0 ≡ Some first → first_other found ≡ first_other_in first.printed.items found
first_other_at [] first there = absurd (cc there)
first_other_at (f ∷ found) first there =
    let same : f ≡ first = cc there in
    ap (λ (g : FoundOutcome). first_other_in g.printed.items (f ∷ found)) same

-- a source of which there is no text is not explored
pub not_explored : (source : List ℕ) (limits : Limits) (failure : Failure) → HasAcceptedTree source → IsNotPictured source limits failure → HasNotExplored source limits failure
not_explored source limits failure let_in (inl refused) = inl refused
not_explored source limits failure let_in (inr memory) = inr (let_in, inl memory)

-- no write failed where there is no text
pub not_pictured : (source : List ℕ) (limits : Limits) (failure : Failure) → IsNotPictured source limits failure → failure ≡ Device → ⊥
not_pictured source limits failure (inl refused) device = not_run source limits failure refused device
not_pictured source limits failure (inr memory) device = absurd (cc (sym memory ∙ device))
