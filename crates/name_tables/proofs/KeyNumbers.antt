-- Keys are the same where their numbers are.
use Rattle.std.proofs.Common.{◌≡◌, ◌≢◌, ◌<◌, ◌+◌, ◌⊎◌, inl, inr, ℕ, zero, suc, Bool, true, false, cond, ◌==◌, List, [], ◌∷◌, ◌++◌, length, map, flat_map, Option, Some, None, option_map, is_some, slice_get, slice_index_or, unwrap_or, refl, sym, ap, subst, ◌∙◌, arith}
use Rattle.std.specs.Prelude.{find}
use Rattle.std.specs.List.{position_from, list_any, list_all}
use Rattle.std.specs.Cmp.{IsEquivalence}
use Rattle.std.proofs.lemmas.Bool.{and_from, eq-eqb, or_left, or_right}
use Rattle.std.proofs.lemmas.Bool.Decides.{eqb_tells}
use Rattle.std.proofs.lemmas.List.{length-map}
use Rattle.std.proofs.lemmas.List.Folds.{list_any-append}
use Rattle.std.proofs.lemmas.Option.{none-some, slice_get_within}
use Rattle.cil_model.proofs.SameLaws.{both_first, both_second}
use Rattle.cil_model.proofs.Lists.{find_passes}
use Rattle.inheritance.specs.Lines.{index_in}
use Rattle.name_tables.specs.KeyIds.{number_in, HaveIds}
use Rattle.name_tables.proofs.FirstIndices.{is_some-position_from, position_from-congr}
use Rattle.name_tables.proofs.NumberLaws.{none_is_some, position_from-map, found_at_index}

lost : true ≡ false → ⊥
lost e = cc

found_item : {X : Type 0} (test : X → Bool) (xs : List X) (i : ℕ) → position_from test 0 xs ≡ Some i → (y : X) × (slice_get xs i ≡ Some y) × (test y ≡ true)
found_item {X} test xs i e = by_find (find test xs) refl (sym (ap (option_map (slice_get xs)) e) ∙ found_at_index test xs)
  where
    by_find : (o : Option X) → find test xs ≡ o → Some (slice_get xs i) ≡ option_map Some o → (y : X) × (slice_get xs i ≡ Some y) × (test y ≡ true)
    by_find None k h = absurd (none_is_some (slice_get xs i) (sym h))
    by_find (Some y) k h = (y, cc h, find_passes test xs y k)

all_wider : {X : Type 0} (test other : X → Bool) → ((x : X) → test x ≡ true → other x ≡ true) → (xs : List X) → list_all test xs ≡ true → list_all other xs ≡ true
all_wider test other wider [] h = refl
all_wider test other wider (x ∷ xs) h = and_from _ _ (wider x (both_first _ _ h)) (all_wider test other wider xs (both_second _ _ h))

module _ {K : Type 0} (same : K → K → Bool) (laws : IsEquivalence same) where
  -- a key is among those of the rows
  abbrev pub is_known : List K → K → Bool
  is_known keys x = list_any (same x) keys

  known_in_row : (row : List K) → list_all (is_known row) row ≡ true
  known_in_row [] = refl
  known_in_row (x ∷ xs) = and_from _ _ (or_left (same x x) (list_any (same x) xs) (laws.refl x)) (all_wider (is_known xs) (is_known (x ∷ xs)) (λ y h. or_right (same y x) (list_any (same y) xs) h) xs (known_in_row xs))

  pub known_in_rows : {R : Type 0} (row_in : R → List K) (rows : List R) (n : ℕ) → list_all (is_known (flat_map row_in rows)) (slice_index_or (map row_in rows) n []) ≡ true
  known_in_rows row_in [] n = refl
  known_in_rows row_in (r ∷ rs) zero =
      all_wider (is_known (row_in r)) (is_known (row_in r ++ flat_map row_in rs)) (λ y h. list_any-append (same y) (row_in r) (flat_map row_in rs) ∙ or_left _ _ h) (row_in r) (known_in_row (row_in r))
  known_in_rows row_in (r ∷ rs) (suc n) =
      all_wider (is_known (flat_map row_in rs)) (is_known (row_in r ++ flat_map row_in rs)) (λ y h. list_any-append (same y) (row_in r) (flat_map row_in rs) ∙ or_right _ _ h) (slice_index_or (map row_in rs) n []) (known_in_rows row_in rs n)

  module _ (keys : List K) where
    abbrev number : K → ℕ
    number = number_in same keys

    same_numbers : (q x : K) → same q x ≡ true → (number q == number x) ≡ true
    same_numbers q x h = eq-eqb (number q) (number x) (ap (λ o. unwrap_or o (length keys)) (position_from-congr (same q) (same x) (λ z. laws.congr q x z h) 0 keys))

    index_of_known : (x : K) → is_known keys x ≡ true → (o : Option ℕ) → position_from (same x) 0 keys ≡ o → (j : ℕ) × (position_from (same x) 0 keys ≡ Some j)
    index_of_known x h (Some j) e = (j, e)
    index_of_known x h None e = absurd (lost (sym (is_some-position_from (same x) 0 keys ∙ h) ∙ ap is_some e))

    other_numbers : (q x : K) → is_known keys x ≡ true → same q x ≡ false → (number q == number x) ≡ false
    other_numbers q x known h = by_index (position_from (same q) 0 keys) refl (eqb_tells (number q) (number x))
      where
        at : (j : ℕ) × (position_from (same x) 0 keys ≡ Some j)
        at = index_of_known x known (position_from (same x) 0 keys) refl

        by_index : (o : Option ℕ) → position_from (same q) 0 keys ≡ o → ((number q == number x) ≡ true) × (number q ≡ number x) ⊎ ((number q == number x) ≡ false) × (number q ≢ number x) → (number q == number x) ≡ false
        by_index o e (inr k) = k.0
        by_index None e (inl k) =
            let item = found_item (same x) keys at.0 at.1 in
            let inside : at.0 < length keys = slice_get_within keys at.0 item.0 item.1 in
            let there : number x ≡ at.0 = ap (λ p. unwrap_or p (length keys)) at.1 in
            let past : number q ≡ length keys = ap (λ p. unwrap_or p (length keys)) e in
            absurd (omega (arith, inside, there, past, k.1))
        by_index (Some i) e (inl k) =
            let there : number x ≡ at.0 = ap (λ p. unwrap_or p (length keys)) at.1 in
            let here : number q ≡ i = ap (λ p. unwrap_or p (length keys)) e in
            let one : i ≡ at.0 = omega (arith, there, here, k.1) in
            let item = found_item (same x) keys at.0 at.1 in
            let own = found_item (same q) keys i e in
            let both : own.0 ≡ item.0 = cc (sym own.1 ∙ ap (slice_get keys) one ∙ item.1) in
            let meets : same q item.0 ≡ true = sym (ap (same q) both) ∙ own.2 in
            let turned : same item.0 x ≡ true = laws.symm item.0 x ∙ item.2 in
            absurd (lost (sym (laws.congr q item.0 x meets ∙ turned) ∙ h))

    pub number_decides : (q x : K) → is_known keys x ≡ true → (number q == number x) ≡ same q x
    number_decides q x known = by_test (same q x) refl
      where
        by_test : (b : Bool) → same q x ≡ b → (number q == number x) ≡ b
        by_test true h = same_numbers q x h
        by_test false h = other_numbers q x known h

    pub index_by_number : (q : K) (row : List K) (i : ℕ) → list_all (is_known keys) row ≡ true → position_from (λ k. number q == k) i (map number row) ≡ position_from (same q) i row
    index_by_number q [] i h = refl
    index_by_number q (x ∷ xs) i h =
        ap (λ b. cond b (Some i) (position_from (λ k. number q == k) (i + 1) (map number xs))) (number_decides q x (both_first _ _ h)) ∙
        ap (λ o. cond (same q x) (Some i) o) (index_by_number q xs (i + 1) (both_second _ _ h))

    -- the key at the index that is its number has that number again
    number_again : (x : K) → is_known keys x ≡ true → option_map number (slice_get keys (number x)) ≡ Some (number x)
    number_again x known =
        let at = index_of_known x known (position_from (same x) 0 keys) refl in
        let item = found_item (same x) keys at.0 at.1 in
        let there : number x ≡ at.0 = ap (λ p. unwrap_or p (length keys)) at.1 in
        let again : number item.0 ≡ number x = ap (λ o. unwrap_or o (length keys)) (position_from-congr (same item.0) (same x) (λ z. sym (laws.congr x item.0 z item.2)) 0 keys) in
        ap (λ n. option_map number (slice_get keys n)) there ∙ ap (option_map number) item.1 ∙ ap Some again

    id_in_row : (row : List K) → list_all (is_known keys) row ≡ true → (n i index : ℕ) → position_from (λ k. n == k) i (map number row) ≡ Some index → option_map number (slice_get keys n) ≡ Some n
    id_in_row [] known n i index e = absurd (none-some index e)
    id_in_row (x ∷ xs) known n i index e = by_test (id_in_row xs (both_second _ _ known) n (i + 1) index) (eqb_tells n (number x))
      where
        by_test : (position_from (λ k. n == k) (i + 1) (map number xs) ≡ Some index → option_map number (slice_get keys n) ≡ Some n) → ((n == number x) ≡ true) × (n ≡ number x) ⊎ ((n == number x) ≡ false) × (n ≢ number x) → option_map number (slice_get keys n) ≡ Some n
        by_test further (inl h) = subst (λ m. option_map number (slice_get keys m) ≡ Some m) (sym h.1) (number_again x (both_first _ _ known))
        by_test further (inr h) = further (sym (ap (λ b. cond b (Some i) (position_from (λ k. n == k) (i + 1) (map number xs))) h.0) ∙ e)

  pub row_at : {R : Type 0} (row_in : R → List K) (number : K → ℕ) (rows : List R) (n : ℕ) → slice_index_or (map (λ r. map number (row_in r)) rows) n [] ≡ map number (slice_index_or (map row_in rows) n [])
  row_at row_in number [] n = refl
  row_at row_in number (r ∷ rs) zero = refl
  row_at row_in number (r ∷ rs) (suc n) = row_at row_in number rs n

  -- where all declared keys are listed, the index by numbers is that by keys
  pub index_in_rows : {R : Type 0} (row_in : R → List K) (rows : List R) (keys : List K) (declared : List (List ℕ)) → keys ≡ flat_map row_in rows → declared ≡ map (λ r. map (number_in same keys) (row_in r)) rows →
      (q : K) (n : ℕ) → index_in declared (number_in same keys q) n ≡ position_from (same q) 0 (slice_index_or (map row_in rows) n [])
  index_in_rows row_in rows keys declared e d q n =
      ap (λ ds. position_from (λ k. number_in same keys q == k) 0 (slice_index_or ds n [])) d ∙
      ap (position_from (λ k. number_in same keys q == k) 0) (row_at row_in (number_in same keys) rows n) ∙
      index_by_number keys q (slice_index_or (map row_in rows) n []) 0 (ap (λ ks. list_all (is_known ks) (slice_index_or (map row_in rows) n [])) e ∙ known_in_rows row_in rows n)

  pub id_in_rows : {R : Type 0} (row_in : R → List K) (rows : List R) (keys : List K) (declared : List (List ℕ)) → keys ≡ flat_map row_in rows → declared ≡ map (λ r. map (number_in same keys) (row_in r)) rows → HaveIds same keys declared
  id_in_rows row_in rows keys declared e d = λ n class index found.
      id_in_row keys (slice_index_or (map row_in rows) class []) (ap (λ ks. list_all (is_known ks) (slice_index_or (map row_in rows) class [])) e ∙ known_in_rows row_in rows class) n 0 index
      (sym (ap (λ ds. position_from (λ k. n == k) 0 (slice_index_or ds class [])) d ∙ ap (position_from (λ k. n == k) 0) (row_at row_in (number_in same keys) rows class)) ∙ found)

pub number_within : {K : Type 0} (same : K → K → Bool) (keys : List K) (q : K) → number_in same keys q < length keys + 1
number_within same keys q = by_index (position_from (same q) 0 keys) refl
  where
    by_index : (o : Option ℕ) → position_from (same q) 0 keys ≡ o → unwrap_or o (length keys) < length keys + 1
    by_index None e = omega arith
    by_index (Some i) e =
        let item = found_item (same q) keys i e in
        let inside : i < length keys = slice_get_within keys i item.0 item.1 in
        omega (arith, inside)

-- the number of a key is that of what it represents
pub number_of_view : {K X : Type 0} (view : K → X) (same : X → X → Bool) (keys : List K) (key : K) → number_in (λ a b. same (view a) (view b)) keys key ≡ number_in same (map view keys) (view key)
number_of_view view same keys key =
    ap (λ o. unwrap_or o (length keys)) (sym (position_from-map view (same (view key)) 0 keys)) ∙ ap (unwrap_or (position_from (same (view key)) 0 (map view keys))) (sym (length-map keys view))
