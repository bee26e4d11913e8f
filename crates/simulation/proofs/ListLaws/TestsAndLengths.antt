-- What a test of all items says of an item that is looked up, and how long lists are that are built from others.
use Rattle.std.proofs.Common.{◌≡◌, ◌≤◌, ◌<◌, ◌+◌, ◌*◌, ℕ, zero, suc, Bool, true, false, not, cond, IsTrue, List, [], ◌∷◌, length, Option, Some, None, find, filter_map, flat_map, slice_get, refl, sym, subst, ◌∙◌, arith}
use Rattle.std.specs.List.{list_all, position_from, cons_option}
use Rattle.std.proofs.lemmas.Bool.{and_from}
use Rattle.std.proofs.lemmas.List.Concat.{length-flat_map}
use Rattle.std.proofs.lemmas.List.Elements.{All-weaker}
use Rattle.std.proofs.lemmas.List.Folds.{list_all-append}
use Rattle.std.proofs.lemmas.List.Sums.{AllPass-from_list_all, list_all-from_AllPass, length-filter, count_by-le-length, sum_by-le}
use Rattle.std.proofs.lemmas.Option.{same_Some}
use Rattle.interpreter.specs.cil_model.Mentions.{each_once}
use Rattle.interpreter.proofs.cil_model.Lists.{none_is_some}
use Rattle.interpreter.proofs.cil_model.SameLaws.{both_first, both_second}

-- ---- tests

-- what all items pass, the one at an index passes
pub item_passes : {X : Type 0} (test : X → Bool) (xs : List X) (n : ℕ) (x : X) → IsTrue (list_all test xs) → slice_get xs n ≡ Some x → IsTrue (test x)
item_passes test [] n x all e = none_is_some x e
item_passes test (y ∷ ys) zero x all e = subst (λ z. IsTrue (test z)) (same_Some y x e) (both_first _ _ all)
item_passes test (y ∷ ys) (suc n) x all e = item_passes test ys n x (both_second _ _ all) e

-- a look-up finds nothing, or an item that passes its test and what all items pass
pub by_find : {X : Type 0} (looked test : X → Bool) (P : Option X → Type 0) → P None → ((x : X) → IsTrue (looked x) → IsTrue (test x) → P (Some x)) → (xs : List X) → IsTrue (list_all test xs) → P (find looked xs)
by_find looked test P none some [] all = none
by_find looked test P none some (x ∷ xs) all = by_test (looked x) refl (by_find looked test P none some xs (both_second _ _ all))
  where
    by_test : (b : Bool) → looked x ≡ b → P (find looked xs) → P (cond b (Some x) (find looked xs))
    by_test true is later = some x is (both_first _ _ all)
    by_test false is later = later

-- what follows from a test that all items pass
pub all_weaker : {X : Type 0} (test also : X → Bool) → ((x : X) → IsTrue (test x) → IsTrue (also x)) → (xs : List X) → IsTrue (list_all test xs) → IsTrue (list_all also xs)
all_weaker test also each xs all = list_all-from_AllPass also xs (All-weaker (λ x. IsTrue (test x)) (λ x. IsTrue (also x)) each xs (AllPass-from_list_all test xs all))

-- what all items of each part pass, all items of the whole pass
pub all_of_parts : {X Y : Type 0} (test : X → Bool) (also : Y → Bool) (f : X → List Y) → ((x : X) → IsTrue (test x) → IsTrue (list_all also (f x))) → (xs : List X) → IsTrue (list_all test xs) → IsTrue (list_all also (flat_map f xs))
all_of_parts test also f each [] all = refl
all_of_parts test also f each (x ∷ xs) all = list_all-append also (f x) (flat_map f xs) ∙ and_from _ _ (each x (both_first _ _ all)) (all_of_parts test also f each xs (both_second _ _ all))

-- ---- lengths

-- an index that is found is one of the list
pub found_within : {X : Type 0} (test : X → Bool) (first : ℕ) (xs : List X) (n : ℕ) → position_from test first xs ≡ Some n → n < first + length xs
found_within test first [] n e = none_is_some n e
found_within test first (x ∷ xs) n e = by_test (test x) e (found_within test (first + 1) xs n)
  where
    by_test : (b : Bool) → cond b (Some first) (position_from test (first + 1) xs) ≡ Some n → (position_from test (first + 1) xs ≡ Some n → n < first + 1 + length xs) → n < first + length (x ∷ xs)
    by_test true h later = omega (arith, same_Some first n h)
    by_test false h later = omega (arith, later h)

-- short parts make no long whole
pub whole_length : {X Y : Type 0} (test : X → Bool) (f : X → List Y) (most : ℕ) → ((x : X) → IsTrue (test x) → length (f x) ≤ most) → (xs : List X) → IsTrue (list_all test xs) → length (flat_map f xs) ≤ length xs * most
whole_length test f most each xs all =
    subst (λ n. n ≤ length xs * most) (sym (length-flat_map f xs)) (sum_by-le (λ x. length (f x)) most xs (All-weaker (λ x. IsTrue (test x)) (λ x. length (f x) ≤ most) each xs (AllPass-from_list_all test xs all)))

-- what a function gives of a list's items are no more than they
pub given_length : {X Y : Type 0} (f : X → Option Y) (xs : List X) → length (filter_map f xs) ≤ length xs
given_length f [] = omega arith
given_length {X} {Y} f (x ∷ xs) = by_value (f x) (given_length f xs)
  where
    by_value : (o : Option Y) → length (filter_map f xs) ≤ length xs → length (cons_option o (filter_map f xs)) ≤ length (x ∷ xs)
    by_value None h = omega (arith, h)
    by_value (Some y) h = omega (arith, h)

-- items without repeats are no more than all
pub once_length : {X : Type 0} (same : X → X → Bool) (xs : List X) → length (each_once same xs) ≤ length xs
once_length same [] = omega arith
once_length same (x ∷ xs) =
    omega (arith, length-filter (λ y. not (same x y)) (each_once same xs), count_by-le-length (λ y. not (same x y)) (each_once same xs), once_length same xs)
