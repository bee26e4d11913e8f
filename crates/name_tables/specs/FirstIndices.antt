-- The first index of each key of a list.
use Rattle.std.specs.Prelude.{◌≡◌, ◌&&◌, ℕ, Bool, List, Option, Some, is_none, if◌then◌else◌}
use Rattle.std.specs.List.{position_from}

-- each key's index is the first of an equal one
abbrev pub AreFirst : {K : Type 0} → (K → K → Bool) → (K → Option ℕ) → List K → Type 0
AreFirst {K} same indices keys = (q : K) → indices q ≡ position_from (same q) 0 keys

-- indices with that of a key that has none
abbrev pub with_first : {K : Type 0} → (K → K → Bool) → (K → Option ℕ) → K → ℕ → K → Option ℕ
with_first same indices key index q = if is_none (indices key) && same key q then Some index else indices q
