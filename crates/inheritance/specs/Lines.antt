-- Classes by numbers: the base of each, the keys that each declares, and the nearest class with a key.
use Rattle.std.specs.Prelude.{◌≡◌, ℕ, zero, suc, ◌==◌, List, [], ◌∷◌, Option, Some, None, slice_index_or}
use Rattle.std.specs.Option.{option_map_or}
use Rattle.std.specs.List.{position_from}

-- the base of a class
abbrev pub base_in : List (Option ℕ) → ℕ → Option ℕ
base_in bases class = slice_index_or bases class None

-- the class, its base, and so on, up to a number of classes
abbrev pub line_within : List (Option ℕ) → ℕ → Option ℕ → List ℕ
line_within bases zero class = []
line_within bases (suc n) None = []
line_within bases (suc n) (Some class) = class ∷ line_within bases n (base_in bases class)

-- one class more than the given number finds no further one
abbrev pub Ends : List (Option ℕ) → ℕ → ℕ → Type 0
Ends bases most class = line_within bases (suc most) (Some class) ≡ line_within bases most (Some class)

-- the first index at which a class declares a key
abbrev pub index_in : List (List ℕ) → ℕ → ℕ → Option ℕ
index_in declared key class = position_from (λ k. key == k) 0 (slice_index_or declared class [])

-- the first class at which an index is found, with that index
abbrev pub nearest : (ℕ → Option ℕ) → List ℕ → Option (ℕ × ℕ)
nearest at [] = None
nearest at (class ∷ classes) = option_map_or (λ index. Some (class, index)) (at class) (nearest at classes)
