-- Repeats in a list are found by the keys of its items.
use Rattle.std.proofs.Common.{◌≡◌, Bool, true, false, ◌||◌, IfOk, Result, Ok, Err, ap}
pub use Rattle.cil_model.proofs.Lists.{list_any-map, has_repeat-map}

-- what the first of two tests decides, or the second
pub first_decides : (a b : Bool) → true ≡ a → true ≡ a || b
first_decides a b e = ap (λ x. x || b) e

pub none_before : (a b : Bool) → a ≡ false → a || b ≡ b
none_before a b e = ap (λ x. x || b) e

-- what holds of a result's value
pub if_ok_then : {T E : Type 0} (r : Result T E) (P Q : T → Type 0) → ((v : T) → P v → Q v) → IfOk r P → IfOk r Q
if_ok_then (Ok v) P Q f h = f v h
if_ok_then (Err e) P Q f h = h
