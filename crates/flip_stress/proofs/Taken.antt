-- What a loop has taken of a list, and what is left.
use Rattle.std.proofs.Common.{◌≡◌, ℕ, zero, suc, ◌+◌, ◌%◌, ◌<◌, true, nat_eq, All, Option, Some, None, List, [], ◌∷◌, ◌++◌, length, set, slice_get, sum_by, append_assoc, refl, eq-eqb, ◌∙◌, arith}
use Rattle.std.specs.Option.{option_eq}
use Rattle.std.proofs.lemmas.List.{append-nil}
use Rattle.std.proofs.lemmas.List.Sums.{sum_by-append, sum_by-cons}
use Rattle.std.proofs.Math.Nat.{mod-lt}

pub one_taken : {X : Type 0} (all taken : List X) (x : X) (left after : List X) → all ≡ taken ++ left → left ≡ x ∷ after → all ≡ (taken ++ x ∷ []) ++ after
one_taken all taken x left after e step = rw (e, step, append_assoc)

pub all_taken : {X : Type 0} (all taken left : List X) → all ≡ taken ++ left → length left ≡ 0 → all ≡ taken
all_taken all taken [] e none = e ∙ append-nil taken
all_taken all taken (x ∷ left) e none = absurd (omega arith)

pub sum_taken : {X : Type 0} (f : X → ℕ) (all taken : List X) (x : X) (left after : List X) → all ≡ taken ++ left → left ≡ x ∷ after → sum_by f all ≡ sum_by f taken + (f x + sum_by f after)
sum_taken f all taken x left after e step = rw (e, step, sum_by-append f taken (x ∷ after), sum_by-cons f x after)

within : {X : Type 0} (P : X → Type 0) (taken : List X) (x : X) (after : List X) → All P (taken ++ x ∷ after) → P x
within P [] x after all = all 0 x (omega arith)
within P (y ∷ taken) x after all = within P taken x after (λ k d l. all (suc k) d (omega arith))

-- what holds of all elements holds of the one that is taken
pub within_taken : {X : Type 0} (P : X → Type 0) (all taken : List X) (x : X) (left after : List X) → all ≡ taken ++ left → left ≡ x ∷ after → All P all → P x
within_taken P all taken x left after e step each = within P taken x after (rw (← step, ← e) each)

-- what is found where a value was written is that value
pub set_there : {X : Type 0} (xs : List X) (index : ℕ) (written found : X) → slice_get (set xs index written) index ≡ Some found → found ≡ written
set_there [] index written found e = absurd cc
set_there (x ∷ xs) zero written found e = cc
set_there (x ∷ xs) (suc index) written found e = set_there xs index written found e

pub some_below : (n limit x : ℕ) → 0 < limit → Some (n % limit) ≡ Some x → x < limit
some_below n limit x some e = let same : n % limit ≡ x = cc in omega (arith, mod-lt n some)

same_option : (a : Option ℕ) → option_eq nat_eq a a ≡ true
same_option None = refl
same_option (Some n) = eq-eqb n n refl

pub equal_options : (a b : Option ℕ) → a ≡ b → option_eq nat_eq a b ≡ true
equal_options a b e = rw e (same_option b)
