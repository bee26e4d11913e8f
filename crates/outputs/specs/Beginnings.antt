-- What an output has taken of bytes that were to be written whole.
use Rattle.std.specs.Io.KnownBytes.{Appends}
use Rattle.std.specs.Prelude.{◌≡◌, ◌++◌, ℕ, List, Option}

-- these bytes are a prefix of those
abbrev pub IsBeginningOf : List ℕ → List ℕ → Type 0
IsBeginningOf part whole = (rest : List ℕ) × (whole ≡ part ++ rest)

-- known bytes grow by a prefix of these
abbrev pub AppendsBeginning : Option (List ℕ) → Option (List ℕ) → List ℕ → Type 0
AppendsBeginning old new whole = (part : List ℕ) × IsBeginningOf part whole × Appends old new part
