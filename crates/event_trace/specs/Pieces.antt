-- Bytes that are put together before they are written.
use Rattle.std.specs.Io.KnownBytes.{Appends}
use Rattle.std.specs.Prelude.{◌≡◌, ◌++◌, ℕ, List, Option}

-- a writer has taken all of these bytes but the pending ones at their end
abbrev pub TakesAllBut : List ℕ → Option (List ℕ) → Option (List ℕ) → List ℕ → Type 0
TakesAllBut pending old new whole = (taken : List ℕ) × (whole ≡ taken ++ pending) × Appends old new taken
