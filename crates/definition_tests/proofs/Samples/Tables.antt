-- Tables of examples: each row has a name, what the function is given, and its answer.
use Rattle.std.proofs.Common.{◌≡◌, ℕ, List, map}

-- a function of one argument answers each row as the table says
abbrev pub Answers : {A Answer : Type 0} → (A → Answer) → List (List ℕ × A × Answer) → Type 0
Answers f rows = map (λ row. f row.1) rows ≡ map (λ row. row.2) rows

-- a function of two arguments does
abbrev pub PairAnswers : {A B Answer : Type 0} → (A → B → Answer) → List (List ℕ × A × B × Answer) → Type 0
PairAnswers f rows = map (λ row. f row.1 row.2) rows ≡ map (λ row. row.3) rows
