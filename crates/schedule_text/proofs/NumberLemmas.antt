-- Decimal digits, and a number that is read digit by digit and stays at a greatest one.
use Rattle.std.proofs.Common.{◌≡◌, ◌+◌, ◌-◌, ◌*◌, ◌<◌, ℕ, min, List, ◌∷◌, [], ◌++◌, length, take, get_or, arith, rules, true, add-one}
use Rattle.std.specs.Char.{is_ascii_digit, digit_value}
use Rattle.std.specs.List.{list_all}
use Rattle.std.specs.Str.Parse.{digits_value}
use Rattle.std.proofs.lemmas.Int.Digits.{digits_value_push}
use Rattle.std.proofs.lemmas.Str.{digit_value_digit}
use Rattle.std.proofs.lemmas.Str.Parse.{IsNumeralModel, numerals_by_value, digit_at}
use Rattle.std.proofs.Math.Seq.{take-suc}

-- digits are what std takes for decimal digits
pub numerals : IsNumeralModel (λ digits. list_all is_ascii_digit digits ≡ true) (digits_value 10)
numerals = numerals_by_value _ (search rules)

-- one digit more
pub value_next : (digits : List ℕ) (i : ℕ) → list_all is_ascii_digit digits ≡ true → i < length digits →
    digits_value 10 (take (i + 1) digits) ≡ digits_value 10 (take i digits) * 10 + (get_or digits i 0 - 48)
value_next digits i all below =
    let digit : digit_value (get_or digits i 0) + 48 ≡ get_or digits i 0 = digit_value_digit _ (digit_at digits i (numerals.to digits all) below) in
    let taken : take (i + 1) digits ≡ take i digits ++ (get_or digits i 0 ∷ []) = rw (add-one i) (take-suc digits i 0 below) in
    rw taken (rw (digits_value_push 10 (take i digits) (get_or digits i 0)) (omega arith))

pub capped_next : (value so_far digit most : ℕ) → value ≡ min so_far most → min (min (value * 10) most + digit) most ≡ min (so_far * 10 + digit) most
capped_next value so_far digit most e = omega arith
