-- Boolean tests, and tests of all items of a list.
use Rattle.std.proofs.Common.{◌≡◌, ◌<◌, ◌+◌, ℕ, suc, length, drop, get_or, arith, Bool, true, false, not, ◌&&◌, ◌||◌, List, [], ◌∷◌, Option, Some, None, is_some, option_map, refl, sym, ap, ◌∙◌}
use Rattle.std.specs.Prelude.{flat_map}
use Rattle.std.specs.List.{list_any, list_all}
use Rattle.std.proofs.Math.Seq.{drop-cons}
use Rattle.std.proofs.lemmas.List.Folds.{list_any-append}

pub and_false : (b : Bool) → b && false ≡ false
and_false true = refl
and_false false = refl

pub and_true : (b : Bool) → b && true ≡ b
and_true true = refl
and_true false = refl

pub not_not : (b : Bool) → not (not b) ≡ b
not_not true = refl
not_not false = refl

pub and_comm : (a b : Bool) → a && b ≡ b && a
and_comm true b = sym (and_true b)
and_comm false b = sym (and_false b)

pub third_decides : (a b c : Bool) → a ≡ true → b ≡ false → a && not b && c ≡ c
third_decides a b c h k = ap (λ x. x && not b && c) h ∙ ap (λ x. not x && c) k

pub is_some-option_map : {X Y : Type 0} (f : X → Y) (o : Option X) → is_some (option_map f o) ≡ is_some o
is_some-option_map f None = refl
is_some-option_map f (Some x) = refl

-- what two look-ups find alike, both find or neither
pub found_alike : {X Y Z : Type 0} (f : X → Z) (g : Y → Z) (o : Option X) (p : Option Y) → option_map f o ≡ option_map g p → is_some o ≡ is_some p
found_alike f g o p e = sym (is_some-option_map f o) ∙ ap is_some e ∙ is_some-option_map g p

pub list_all_congr : {X : Type 0} (p q : X → Bool) → ((x : X) → p x ≡ q x) → (xs : List X) → list_all p xs ≡ list_all q xs
list_all_congr p q same [] = refl
list_all_congr p q same (x ∷ xs) = ap (λ b. b && list_all p xs) (same x) ∙ ap (λ b. q x && b) (list_all_congr p q same xs)

pub list_any-flat_map : {X Y : Type 0} (p : Y → Bool) (f : X → List Y) (xs : List X) → list_any p (flat_map f xs) ≡ list_any (λ x. list_any p (f x)) xs
list_any-flat_map p f [] = refl
list_any-flat_map p f (x ∷ xs) = list_any-append p (f x) (flat_map f xs) ∙ ap (λ b. list_any p (f x) || b) (list_any-flat_map p f xs)

-- two tests of a list as one
pub list_all_both : {X : Type 0} (p q : X → Bool) (xs : List X) → list_all p xs && list_all q xs ≡ list_all (λ x. p x && q x) xs
list_all_both p q [] = refl
list_all_both {X} p q (x ∷ xs) = by_cases (p x) (q x) (list_all p xs) (list_all_both p q xs)
  where
    by_cases : (a b ps : Bool) → ps && list_all q xs ≡ list_all (λ x. p x && q x) xs → (a && ps) && (b && list_all q xs) ≡ (a && b) && list_all (λ x. p x && q x) xs
    by_cases false b ps e = refl
    by_cases true true ps e = e
    by_cases true false ps e = and_false ps

-- an item that passes changes no test of what is left
pub all_after : {X : Type 0} (p : X → Bool) (xs : List X) (i : ℕ) (x : X) → i < length xs → x ≡ get_or xs i x → p x ≡ true → list_all p (drop (i + 1) xs) ≡ list_all p (drop i xs)
all_after p xs i x l e h =
    let k : i + 1 ≡ suc i = omega arith in
    ap (λ n. list_all p (drop n xs)) k ∙ sym (ap (list_all p) (drop-cons xs i x l ∙ ap (λ y. y ∷ drop (suc i) xs) (sym e)) ∙ ap (λ b. b && list_all p (drop (suc i) xs)) h)

-- ---- five tests one after another

pub first_fails : (a b c d e : Bool) → a ≡ false → a && b && c && d && e ≡ false
first_fails a b c d e h = ap (λ x. x && b && c && d && e) h

pub second_fails : (a b c d e : Bool) → b ≡ false → a && b && c && d && e ≡ false
second_fails a b c d e h = ap (λ x. a && x && c && d && e) h ∙ ap (λ x. x && c && d && e) (and_false a)

pub third_fails : (a b c d e : Bool) → c ≡ false → a && b && c && d && e ≡ false
third_fails a b c d e h = ap (λ x. a && b && x && d && e) h ∙ ap (λ x. x && d && e) (and_false (a && b))

pub last_two_decide : (a b c d e : Bool) → a ≡ true → b ≡ true → c ≡ true → a && b && c && d && e ≡ d && e
last_two_decide a b c d e h i j = ap (λ x. x && b && c && d && e) h ∙ ap (λ x. x && c && d && e) i ∙ ap (λ x. x && d && e) j

pub last_decides : (a b c d e : Bool) → a ≡ true → b ≡ true → c ≡ true → d ≡ true → a && b && c && d && e ≡ e
last_decides a b c d e h i j k = ap (λ x. x && b && c && d && e) h ∙ ap (λ x. x && c && d && e) i ∙ ap (λ x. x && d && e) j ∙ ap (λ x. x && e) k
