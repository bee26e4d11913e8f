-- Lemmas on options and lists that std does not have.
use Rattle.std.proofs.Common.{◌≡◌, ◌+◌, ◌≤◌, ◌⊎◌, ℕ, zero, suc, Bool, true, false, ◌&&◌, ◌||◌, cond, IsTrue, List, [], ◌∷◌, ◌++◌, length, map, find, Option, Some, None, slice_get, slice_set, refl, inl, inr, sym, ap, ◌∙◌, subst, arith}
use Rattle.std.specs.Prelude.{filter, flat_map, filter_map}
use Rattle.std.specs.List.{list_any, list_all, cons_option}
use Rattle.std.specs.Option.{option_map_or}
use Rattle.std.proofs.lemmas.Bool.{or_from, or_parts}
use Rattle.std.proofs.lemmas.List.Folds.{list_all-append}
use Rattle.std.proofs.lemmas.Option.{none-some, same_Some}
use Rattle.cil_model.specs.Legality.{has_repeat}

-- none is not some, and an item is not the end
pub none_is_some : {X A : Type 0} (x : X) → None ≡ Some x → A
none_is_some x e = absurd (none-some x e)

pub no_item : {X A : Type 0} (x : X) (xs : List X) → x ∷ xs ≡ [] → A
no_item x xs e = absurd (cc e)

-- ---- the item at an index

-- where there is no item the list has ended
pub none_is_outside : {X : Type 0} (xs : List X) (n : ℕ) → slice_get xs n ≡ None → length xs ≤ n
none_is_outside [] n e = omega arith
none_is_outside (x ∷ xs) zero e = none_is_some x (sym e)
none_is_outside (x ∷ xs) (suc n) e = let further : length xs ≤ n = none_is_outside xs n e in omega (arith, further)

-- the item at an index stays there when more follows
pub get_before : {X : Type 0} (xs more : List X) (n : ℕ) (x : X) → slice_get xs n ≡ Some x → slice_get (xs ++ more) n ≡ Some x
get_before [] more n x e = none_is_some x e
get_before (y ∷ ys) more zero x e = e
get_before (y ∷ ys) more (suc n) x e = get_before ys more n x e

-- and an item of the list that follows is at its index after this one
pub get_after : {X : Type 0} (xs more : List X) (n k : ℕ) → n ≡ length xs + k → slice_get (xs ++ more) n ≡ slice_get more k
get_after [] more n k e = ap (slice_get more) (omega (arith, e))
get_after (x ∷ xs) more zero k e = absurd (omega (arith, e))
get_after (x ∷ xs) more (suc n) k e = get_after xs more n k (omega (arith, e))

-- the last one is at the end
pub last_is_there : {X : Type 0} (xs : List X) (y : X) → slice_get (xs ++ y ∷ []) (length xs) ≡ Some y
last_is_there [] y = refl
last_is_there (x ∷ xs) y = last_is_there xs y

-- what is there with one more at the end is that one, or was there
pub last_or_was : {X : Type 0} (xs : List X) (m : ℕ) (y x : X) → slice_get (xs ++ y ∷ []) m ≡ Some x → (x ≡ y) ⊎ (slice_get xs m ≡ Some x)
last_or_was [] zero y x e = inl (sym (same_Some y x e))
last_or_was [] (suc m) y x e = none_is_some x e
last_or_was (z ∷ zs) zero y x e = inr e
last_or_was (z ∷ zs) (suc m) y x e = last_or_was zs m y x e

-- ---- after a change at one index

-- at an index that had an item, the new item is there
pub set_is_there : {X : Type 0} (xs : List X) (n : ℕ) (y x : X) → slice_get xs n ≡ Some x → slice_get (slice_set xs n y) n ≡ Some y
set_is_there [] n y x e = none_is_some x e
set_is_there (z ∷ zs) zero y x e = refl
set_is_there (z ∷ zs) (suc n) y x e = set_is_there zs n y x e

-- an item after a change at one index is the new one, or was there before
pub set_or_was : {X : Type 0} (xs : List X) (n m : ℕ) (y x : X) → slice_get (slice_set xs n y) m ≡ Some x → (x ≡ y) ⊎ (slice_get xs m ≡ Some x)
set_or_was [] n m y x e = none_is_some x e
set_or_was (z ∷ zs) zero zero y x e = inl (sym (same_Some y x e))
set_or_was (z ∷ zs) (suc n) (suc m) y x e = set_or_was zs n m y x e
set_or_was _ _ _ _ _ e = inr e

-- what is there may be set again
pub set_itself : {X : Type 0} (xs : List X) (n : ℕ) (x : X) → slice_get xs n ≡ Some x → slice_set xs n x ≡ xs
set_itself [] n x e = refl
set_itself (z ∷ zs) zero x e = ap (λ y. y ∷ zs) (sym (same_Some z x e))
set_itself (z ∷ zs) (suc n) x e = ap (λ l. z ∷ l) (set_itself zs n x e)

-- ---- tests of items

-- what is found passes the test
pub find_passes : {X : Type 0} (test : X → Bool) (xs : List X) (x : X) → find test xs ≡ Some x → IsTrue (test x)
find_passes test [] x e = none_is_some x e
find_passes {X} test (y ∷ ys) x e = by_test (test y) refl e (find_passes test ys x)
  where
    by_test : (b : Bool) → test y ≡ b → cond b (Some y) (find test ys) ≡ Some x → (find test ys ≡ Some x → IsTrue (test x)) → IsTrue (test x)
    by_test true passes h further = subst (λ z. IsTrue (test z)) (same_Some y x h) passes
    by_test false passes h further = further h

-- a test that no item passes, the one at an index does not pass
pub passes_not : {X : Type 0} (test : X → Bool) (xs : List X) (n : ℕ) (x : X) → list_any test xs ≡ false → slice_get xs n ≡ Some x → test x ≡ false
passes_not test [] n x h e = none_is_some x e
passes_not test (y ∷ ys) zero x h e = subst (λ z. test z ≡ false) (same_Some y x e) (or_parts _ _ h).0
passes_not test (y ∷ ys) (suc n) x h e = passes_not test ys n x (or_parts _ _ h).1 e

-- two tests that agree on each item
pub list_any_congr : {X : Type 0} (p q : X → Bool) → ((x : X) → p x ≡ q x) → (xs : List X) → list_any p xs ≡ list_any q xs
list_any_congr p q same [] = refl
list_any_congr p q same (x ∷ xs) = ap (λ b. b || list_any p xs) (same x) ∙ ap (λ b. q x || b) (list_any_congr p q same xs)

-- a test of the items that a map, or a map to lists or options, makes
pub list_any-map : {X Y : Type 0} (f : X → Y) (test : Y → Bool) (xs : List X) → list_any test (map f xs) ≡ list_any (λ x. test (f x)) xs
list_any-map f test [] = refl
list_any-map f test (x ∷ xs) = ap (λ b. test (f x) || b) (list_any-map f test xs)

pub list_all-flat_map : {X Y : Type 0} (p : Y → Bool) (f : X → List Y) (xs : List X) → list_all p (flat_map f xs) ≡ list_all (λ x. list_all p (f x)) xs
list_all-flat_map p f [] = refl
list_all-flat_map p f (x ∷ xs) = list_all-append p (f x) (flat_map f xs) ∙ ap (λ b. list_all p (f x) && b) (list_all-flat_map p f xs)

pub list_all-filter_map : {X Y : Type 0} (p : Y → Bool) (f : X → Option Y) (xs : List X) → list_all p (filter_map f xs) ≡ list_all (λ x. option_map_or p (f x) true) xs
list_all-filter_map p f [] = refl
list_all-filter_map {X} {Y} p f (x ∷ xs) = by_found (f x) (list_all-filter_map p f xs)
  where
    by_found : (o : Option Y) → list_all p (filter_map f xs) ≡ list_all (λ x. option_map_or p (f x) true) xs → list_all p (cons_option o (filter_map f xs)) ≡ option_map_or p o true && list_all (λ x. option_map_or p (f x) true) xs
    by_found None e = e
    by_found (Some y) e = ap (λ b. p y && b) e

-- repeats among mapped items
pub has_repeat-map : {X Y : Type 0} (f : X → Y) (same : Y → Y → Bool) (xs : List X) → has_repeat same (map f xs) ≡ has_repeat (λ a b. same (f a) (f b)) xs
has_repeat-map f same [] = refl
has_repeat-map f same (x ∷ xs) = ap (λ b. b || has_repeat same (map f xs)) (list_any-map f (same (f x)) xs) ∙ ap (λ b. list_any (λ y. same (f x) (f y)) xs || b) (has_repeat-map f same xs)

-- what no item passes, no item that is kept passes
pub none_kept : {X : Type 0} (test kept : X → Bool) (xs : List X) → list_any test xs ≡ false → list_any test (filter kept xs) ≡ false
none_kept test kept [] h = refl
none_kept test kept (x ∷ xs) h = by_test (kept x) (none_kept test kept xs (or_parts _ _ h).1)
  where
    by_test : (b : Bool) → list_any test (filter kept xs) ≡ false → list_any test (cond b (x ∷ filter kept xs) (filter kept xs)) ≡ false
    by_test true rest = or_from _ _ (or_parts _ _ h).0 rest
    by_test false rest = rest

-- where no item is in the list twice, none that is kept does
pub once_kept : {X : Type 0} (same : X → X → Bool) (kept : X → Bool) (xs : List X) → has_repeat same xs ≡ false → has_repeat same (filter kept xs) ≡ false
once_kept same kept [] h = refl
once_kept same kept (x ∷ xs) h = by_test (kept x) (once_kept same kept xs (or_parts _ _ h).1)
  where
    by_test : (b : Bool) → has_repeat same (filter kept xs) ≡ false → has_repeat same (cond b (x ∷ filter kept xs) (filter kept xs)) ≡ false
    by_test true rest = or_from _ _ (none_kept (same x) kept xs (or_parts _ _ h).0) rest
    by_test false rest = rest
