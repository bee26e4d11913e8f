-- The rules of legality, one part after the other.
use Rattle.std.proofs.Common.{◌≡◌, ◌++◌, ◌∷◌, [], ℕ, Bool, true, false, List, Some, cond, refl}
use Rattle.std.specs.Option.{option_or}
use Rattle.cil_model.specs.Legality.{first_broken}

pub broken_in_parts : (rules others : List (ℕ × Bool)) → first_broken (rules ++ others) ≡ option_or (first_broken rules) (first_broken others)
broken_in_parts [] others = refl
broken_in_parts (r ∷ rs) others = by_test (broken_in_parts rs others) r.1
  where
    by_test : first_broken (rs ++ others) ≡ option_or (first_broken rs) (first_broken others) → (b : Bool) → cond b (Some r.0) (first_broken (rs ++ others)) ≡ option_or (cond b (Some r.0) (first_broken rs)) (first_broken others)
    by_test further true = refl
    by_test further false = further
