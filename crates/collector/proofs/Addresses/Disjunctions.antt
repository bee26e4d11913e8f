-- Disjunctions of tests.
use Rattle.std.proofs.Common.{◌≡◌, Bool, true, false, refl}
use Rattle.std.specs.Prelude.{◌||◌}
use Rattle.std.proofs.lemmas.Bool.{or_left, or_right}
pub use Rattle.std.proofs.lemmas.Bool.{or_cases as either_true, or_left as or_first, or_right as or_second}

-- a sum of three is true by the first two
pub or_of_three : (x y z : Bool) → (x || y) ≡ true → (x || (y || z)) ≡ true
or_of_three true y z e = refl
or_of_three false y z e = or_left y z e

-- a sum of more is true
pub or_more : (w x y : Bool) → (x ≡ true → y ≡ true) → (w || x) ≡ true → (w || y) ≡ true
or_more true x y more e = refl
or_more false x y more e = more e

-- or of more than both
pub or_both : (w x y z : Bool) → (w ≡ true → y ≡ true) → (x ≡ true → z ≡ true) → (w || x) ≡ true → (y || z) ≡ true
or_both true x y z more more' e = or_left y z (more refl)
or_both false x y z more more' e = or_right y z (more' e)
