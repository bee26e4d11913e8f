-- Declarations that are marked.
use Rattle.std.specs.Prelude.{◌≡◌, ◌<◌, ℕ, Bool, true, false, List, [], Option, Some, None, slice_index_or}
use Rattle.inheritance.specs.declared.forests.Forest.{Forest}
use Rattle.inheritance.specs.ScopedTables.{nearest_from}

-- whether the declaration that is found is marked, by its class and index
abbrev pub is_marked : List (List Bool) → Option (ℕ × ℕ) → Bool
is_marked marks None = false
is_marked marks (Some p) = slice_index_or (slice_index_or marks p.0 []) p.1 false

-- some key finds what is marked, from a class on
abbrev pub FindsMarked : List (List Bool) → Forest → ℕ → Type 0
FindsMarked marks forest class = (key : ℕ) × (key < forest.keys) × (is_marked marks (nearest_from forest key forest.most (Some class)) ≡ true)
