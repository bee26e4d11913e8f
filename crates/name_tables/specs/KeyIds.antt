-- Keys by numbers.
use Rattle.std.specs.Prelude.{◌≡◌, ℕ, Bool, List, length, Some, option_map, slice_get, unwrap_or}
use Rattle.std.specs.List.{position_from}
use Rattle.inheritance.specs.Lines.{index_in}

-- the index of the first key that is the same, and the index after all keys where there is none
abbrev pub number_in : {K : Type 0} → (K → K → Bool) → List K → K → ℕ
number_in same keys key = unwrap_or (position_from (same key) 0 keys) (length keys)

-- each number that is declared is that of the key there
abbrev pub HaveIds : {K : Type 0} → (K → K → Bool) → List K → List (List ℕ) → Type 0
HaveIds same keys declared = (n class index : ℕ) → index_in declared n class ≡ Some index → option_map (number_in same keys) (slice_get keys n) ≡ Some n
