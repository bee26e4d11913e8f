-- Lists whose elements stand in a relation.
use Rattle.std.specs.Prelude.{List, [], ◌∷◌}

-- two lists agree, element by element
abbrev pub Agree : {A B : Type 0} → (A → B → Type 0) → List A → List B → Type 0
Agree R [] [] = Unit {0}
Agree R (x ∷ xs) (y ∷ ys) = R x y × Agree R xs ys
Agree R [] (y ∷ ys) = ⊥
Agree R (x ∷ xs) [] = ⊥
