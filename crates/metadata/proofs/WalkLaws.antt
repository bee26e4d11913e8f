-- A walk along a list up to the first item that fails, or to the first that is found.
use Rattle.std.proofs.Common.{◌≡◌, ◌<◌, ◌≤◌, ◌+◌, ℕ, suc, length, map, drop, get_or, Bool, true, false, ◌&&◌, ◌||◌, List, [], ◌∷◌, sym, ap, ◌∙◌, arith}
use Rattle.std.specs.List.{list_any, list_all}
use Rattle.std.proofs.Math.Seq.{drop-cons}
use Rattle.std.proofs.lemmas.List.{drop_all}

-- what is left of a list begins with the item at its index
left : {X : Type 0} (xs : List X) (i : ℕ) (x : X) → i < length xs → x ≡ get_or xs i x → drop i xs ≡ x ∷ drop (i + 1) xs
left xs i x l e =
    let k : suc i ≡ i + 1 = omega arith in
    drop-cons xs i x l ∙ ap (λ y. y ∷ drop (suc i) xs) (sym e) ∙ ap (λ n. x ∷ drop n xs) k

-- an item that fails decides a test of all that are left
pub all_fail : {X : Type 0} (p : X → Bool) (xs : List X) (i : ℕ) (x : X) → i < length xs → x ≡ get_or xs i x → p x ≡ false → list_all p (drop i xs) ≡ false
all_fail p xs i x l e h = ap (list_all p) (drop-cons xs i x l ∙ ap (λ y. y ∷ drop (suc i) xs) (sym e)) ∙ ap (λ b. b && list_all p (drop (suc i) xs)) h

-- an item that is found decides whether one of those that are left is
pub any_found : {X : Type 0} (p : X → Bool) (xs : List X) (i : ℕ) (x : X) → i < length xs → x ≡ get_or xs i x → p x ≡ true → list_any p (drop i xs) ≡ true
any_found p xs i x l e h = ap (list_any p) (left xs i x l e) ∙ ap (λ b. b || list_any p (drop (i + 1) xs)) h

-- an item that is none of those sought changes no test of what is left
pub any_after : {X : Type 0} (p : X → Bool) (xs : List X) (i : ℕ) (x : X) → i < length xs → x ≡ get_or xs i x → p x ≡ false → list_any p (drop (i + 1) xs) ≡ list_any p (drop i xs)
any_after p xs i x l e h = sym (ap (list_any p) (left xs i x l e) ∙ ap (λ b. b || list_any p (drop (i + 1) xs)) h)

-- the same of what a list's items represent
module _ {X Y : Type 0} (f : X → Y) where
  pub all_fail_in : (p : Y → Bool) (xs : List X) (i : ℕ) (x : X) → i < length xs → x ≡ get_or xs i x → p (f x) ≡ false → list_all p (map f (drop i xs)) ≡ false
  all_fail_in p xs i x l e h = ap (λ ys. list_all p (map f ys)) (left xs i x l e) ∙ ap (λ b. b && list_all p (map f (drop (i + 1) xs))) h

  pub all_after_in : (p : Y → Bool) (xs : List X) (i : ℕ) (x : X) → i < length xs → x ≡ get_or xs i x → p (f x) ≡ true → list_all p (map f (drop (i + 1) xs)) ≡ list_all p (map f (drop i xs))
  all_after_in p xs i x l e h = sym (ap (λ ys. list_all p (map f ys)) (left xs i x l e) ∙ ap (λ b. b && list_all p (map f (drop (i + 1) xs))) h)

  pub any_found_in : (p : Y → Bool) (xs : List X) (i : ℕ) (x : X) → i < length xs → x ≡ get_or xs i x → p (f x) ≡ true → list_any p (map f (drop i xs)) ≡ true
  any_found_in p xs i x l e h = ap (λ ys. list_any p (map f ys)) (left xs i x l e) ∙ ap (λ b. b || list_any p (map f (drop (i + 1) xs))) h

  pub any_after_in : (p : Y → Bool) (xs : List X) (i : ℕ) (x : X) → i < length xs → x ≡ get_or xs i x → p (f x) ≡ false → list_any p (map f (drop (i + 1) xs)) ≡ list_any p (map f (drop i xs))
  any_after_in p xs i x l e h = sym (ap (λ ys. list_any p (map f ys)) (left xs i x l e) ∙ ap (λ b. b || list_any p (map f (drop (i + 1) xs))) h)

  pub none_left_in : {Z : Type 0} (F : List Y → Z) (xs : List X) (i : ℕ) → length xs ≤ i → F (map f (drop i xs)) ≡ F []
  none_left_in F xs i l = ap (λ ys. F (map f ys)) (drop_all i xs l)
