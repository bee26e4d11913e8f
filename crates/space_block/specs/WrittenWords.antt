-- The words that slots hold.
use Rattle.std.specs.Prelude.{◌≡◌, ℕ, ◌-◌, List, [], ◌∷◌, ◌++◌, get_or, length, map, replicate, take, Option, Some, None}
use Rattle.space_block.specs.Rows.{Row}

-- the words of the slots that hold one
abbrev pub written_words : List (Option ℕ) → List ℕ
written_words [] = []
written_words (None ∷ cs) = written_words cs
written_words (Some w ∷ cs) = w ∷ written_words cs

-- the slot holds a word
abbrev pub IsWritten : List (Option ℕ) → ℕ → Type 0
IsWritten cs i = (w : ℕ) × (get_or cs i None ≡ Some w)

-- the first slots hold words, `used` of them
abbrev pub AreWritten : List (Option ℕ) → (used : ℕ) → Type 0
AreWritten cs used = take used cs ≡ map Some (written_words (take used cs))

-- the words of slots, the first `used` of which are in use
abbrev pub row_of : List (Option ℕ) → (used : ℕ) → Row
row_of cs used = record { words = written_words (take used cs) ++ replicate (length cs - used) 0; used = used }
