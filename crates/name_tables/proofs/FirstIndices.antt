-- The first index of a key in a list, as the list grows at its end.
use Rattle.std.proofs.Common.{◌≡◌, ◌<◌, ◌≤◌, ◌+◌, ℕ, zero, suc, Bool, true, false, ◌||◌, ◌&&◌, cond, List, [], ◌∷◌, ◌++◌, length, take, get_or, map, Option, Some, None, is_some, is_none, unwrap_or, refl, sym, ap, subst, ◌∙◌, arith}
use Rattle.std.specs.List.{list_any, position_from}
use Rattle.std.specs.Option.{option_map_or}
use Rattle.std.specs.Cmp.{IsEquivalence}
use Rattle.std.proofs.Math.Seq.{take_all}
use Rattle.std.proofs.lemmas.List.{length-take-le}
use Rattle.std.proofs.lemmas.List.Folds.{list_any-append}
use Rattle.std.proofs.lemmas.Option.{none-some}
use Rattle.cil_model.specs.Legality.{has_repeat}
use Rattle.name_tables.specs.FirstIndices.{AreFirst, with_first}
use Rattle.name_tables.specs.KeyIds.{number_in}
use Rattle.name_tables.proofs.Lists.{take_one_more, map-take_more}

-- an index is found exactly where some item passes
pub is_some-position_from : {K : Type 0} (test : K → Bool) (i : ℕ) (xs : List K) → is_some (position_from test i xs) ≡ list_any test xs
is_some-position_from test i [] = refl
is_some-position_from test i (x ∷ xs) = elim (test x) as (λ v. is_some (cond v (Some i) (position_from test (i + 1) xs)) ≡ v || list_any test xs) [ true ↦ refl | false ↦ is_some-position_from test (i + 1) xs ]

pub position_from-congr : {X : Type 0} (test other : X → Bool) → ((x : X) → test x ≡ other x) → (i : ℕ) (xs : List X) → position_from test i xs ≡ position_from other i xs
position_from-congr test other same i [] = refl
position_from-congr test other same i (x ∷ xs) = ap (λ b. cond b (Some i) (position_from test (i + 1) xs)) (same x) ∙ ap (λ o. cond (other x) (Some i) o) (position_from-congr test other same (i + 1) xs)

or_none : {X : Type 0} (o : Option X) → option_map_or Some o None ≡ o
or_none None = refl
or_none (Some x) = refl

-- the first index where one more item comes last
pub more_indices : {K : Type 0} (test : K → Bool) (i : ℕ) (xs : List K) (x : K) → position_from test i (xs ++ x ∷ []) ≡ option_map_or Some (position_from test i xs) (cond (test x) (Some (i + length xs)) None)
more_indices test i [] x = let e : i ≡ i + 0 = omega arith in ap (λ n. cond (test x) (Some n) None) e
more_indices test i (y ∷ ys) x =
    let e : i + 1 + length ys ≡ i + length (y ∷ ys) = omega arith in
    elim (test y) as (λ v. cond v (Some i) (position_from test (i + 1) (ys ++ x ∷ [])) ≡ option_map_or Some (cond v (Some i) (position_from test (i + 1) ys)) (cond (test x) (Some (i + length (y ∷ ys))) None)) [
      | true ↦ refl
      | false ↦ more_indices test (i + 1) ys x ∙ ap (λ n. option_map_or Some (position_from test (i + 1) ys) (cond (test x) (Some n) None)) e
    ]

-- what is found among the first items is found among all
pub found_in_part : {K : Type 0} (test : K → Bool) (i : ℕ) (xs : List K) (m n : ℕ) → position_from test i (take m xs) ≡ Some n → position_from test i xs ≡ Some n
found_in_part test i xs zero n e = absurd (none-some n e)
found_in_part test i [] (suc m) n e = e
found_in_part test i (x ∷ xs) (suc m) n e = by_test (found_in_part test (i + 1) xs m n) (test x) e
  where
    by_test : (position_from test (i + 1) (take m xs) ≡ Some n → position_from test (i + 1) xs ≡ Some n) → (b : Bool) → cond b (Some i) (position_from test (i + 1) (take m xs)) ≡ Some n → cond b (Some i) (position_from test (i + 1) xs) ≡ Some n
    by_test further true h = h
    by_test further false h = further h

four : (a b c d : Bool) → (a || (b || false)) || (c || d) ≡ (a || c) || (b || d)
four true b c d = refl
four false true true d = refl
four false true false d = refl
four false false c d = refl

module _ {K : Type 0} (eq : K → K → Bool) (laws : IsEquivalence eq) where
  same_indices : (q x : K) (xs : List K) → eq q x ≡ true → position_from (eq q) 0 xs ≡ position_from (eq x) 0 xs
  same_indices q x xs h = position_from-congr (eq q) (eq x) (λ z. laws.congr q x z h) 0 xs

  -- a key that was known comes last
  known_last : (indices : K → Option ℕ) (x : K) (xs : List K) (p : ℕ) → ((q : K) → indices q ≡ position_from (eq q) 0 xs) → indices x ≡ Some p → (q : K) → indices q ≡ position_from (eq q) 0 (xs ++ x ∷ [])
  known_last indices x xs p before known q = before q ∙ by_test (eq q x) refl ∙ sym (more_indices (eq q) 0 xs x)
    where
      by_test : (b : Bool) → eq q x ≡ b → position_from (eq q) 0 xs ≡ option_map_or Some (position_from (eq q) 0 xs) (cond (eq q x) (Some (0 + length xs)) None)
      by_test true h =
          let e : position_from (eq q) 0 xs ≡ Some p = same_indices q x xs h ∙ sym (before x) ∙ known in
          e ∙ sym (ap (λ o. option_map_or Some o (cond (eq q x) (Some (0 + length xs)) None)) e)
      by_test false h = sym (or_none (position_from (eq q) 0 xs)) ∙ sym (ap (λ b. option_map_or Some (position_from (eq q) 0 xs) (cond b (Some (0 + length xs)) None)) h)

  -- a new key comes last
  new_last : (old new : K → Option ℕ) (x : K) (xs : List K) (p : ℕ) → p ≡ length xs → ((q : K) → old q ≡ position_from (eq q) 0 xs) → old x ≡ None → ((q : K) → new q ≡ cond (eq x q) (Some p) (old q)) →
      (q : K) → new q ≡ position_from (eq q) 0 (xs ++ x ∷ [])
  new_last old new x xs p len before unknown after q = after q ∙ ap (λ b. cond b (Some p) (old q)) (laws.symm x q) ∙ by_test (eq q x) refl ∙ sym (more_indices (eq q) 0 xs x)
    where
      zero_more : length xs ≡ 0 + length xs
      zero_more = omega arith

      by_test : (b : Bool) → eq q x ≡ b → cond (eq q x) (Some p) (old q) ≡ option_map_or Some (position_from (eq q) 0 xs) (cond (eq q x) (Some (0 + length xs)) None)
      by_test true h =
          let e : position_from (eq q) 0 xs ≡ None = same_indices q x xs h ∙ sym (before x) ∙ unknown in
          ap (λ b. cond b (Some p) (old q)) h ∙ ap Some (len ∙ zero_more) ∙ sym (ap (λ b. cond b (Some (0 + length xs)) None) h) ∙ sym (ap (λ o. option_map_or Some o (cond (eq q x) (Some (0 + length xs)) None)) e)
      by_test false h = ap (λ b. cond b (Some p) (old q)) h ∙ before q ∙ sym (or_none (position_from (eq q) 0 xs)) ∙ sym (ap (λ b. option_map_or Some (position_from (eq q) 0 xs) (cond b (Some (0 + length xs)) None)) h)

  -- one more key comes last
  first_more : (old new : K → Option ℕ) (x : K) (xs more : List K) (p : ℕ) → p ≡ length xs → more ≡ xs ++ x ∷ [] → AreFirst eq old xs → ((q : K) → new q ≡ with_first eq old x p q) → AreFirst eq new more
  first_more old new x xs more p len is before after q = by_old (old x) refl ∙ sym (ap (position_from (eq q) 0) is)
    where
      by_old : (o : Option ℕ) → old x ≡ o → new q ≡ position_from (eq q) 0 (xs ++ x ∷ [])
      by_old None e = new_last old new x xs p len before e (λ k. after k ∙ ap (λ o. cond (is_none o && eq x k) (Some p) (old k)) e) q
      by_old (Some n) e = after q ∙ ap (λ o. cond (is_none o && eq x q) (Some p) (old q)) e ∙ known_last old x xs n before e q

  -- its index is the one that was known, or the last
  index_last : (x : K) (xs : List K) (p : ℕ) (o : Option ℕ) → p ≡ length xs → o ≡ position_from (eq x) 0 xs → position_from (eq x) 0 (xs ++ x ∷ []) ≡ Some (unwrap_or o p)
  index_last x xs p o len e = more_indices (eq x) 0 xs x ∙ ap (λ k. option_map_or Some k (cond (eq x x) (Some (0 + length xs)) None)) (sym e) ∙ by_known o
    where
      at_end : 0 + length xs ≡ p
      at_end = omega (arith, len)

      by_known : (k : Option ℕ) → option_map_or Some k (cond (eq x x) (Some (0 + length xs)) None) ≡ Some (unwrap_or k p)
      by_known None = ap (λ b. cond b (Some (0 + length xs)) None) (laws.refl x) ∙ ap Some at_end
      by_known (Some n) = refl

  -- it repeats one where its index was known
  repeat_last : (x : K) (xs : List K) → has_repeat eq (xs ++ x ∷ []) ≡ has_repeat eq xs || is_some (position_from (eq x) 0 xs)
  repeat_last x xs = repeats xs ∙ ap (λ b. has_repeat eq xs || b) (sym (is_some-position_from (eq x) 0 xs))
    where
      repeats : (ys : List K) → has_repeat eq (ys ++ x ∷ []) ≡ has_repeat eq ys || list_any (eq x) ys
      repeats [] = refl
      repeats (y ∷ ys) =
          ap (λ b. b || has_repeat eq (ys ++ x ∷ [])) (list_any-append (eq y) ys (x ∷ []) ∙ ap (λ b. list_any (eq y) ys || (b || false)) (laws.symm y x)) ∙
          ap (λ b. (list_any (eq y) ys || (eq x y || false)) || b) (repeats ys) ∙ four (list_any (eq y) ys) (eq x y) (has_repeat eq ys) (list_any (eq x) ys)

  -- its number is its first index up to it
  number_last : (x : K) (keys : List K) (m n : ℕ) → position_from (eq x) 0 (take m keys) ≡ Some n → n ≡ number_in eq keys x
  number_last x keys m n e = sym (ap (λ o. unwrap_or o (length keys)) (found_in_part (eq x) 0 keys m n e))

  -- what is known of the first keys, with one more of them
  pub one_more : (keys : List K) (index : ℕ) (x : K) (old new : K → Option ℕ) (known : Option ℕ) (some more : Bool) (first : ℕ) (numbers others : List ℕ) → index < length keys → x ≡ get_or keys index x →
      known ≡ old x → ((q : K) → new q ≡ with_first eq old x index q) → more ≡ some || is_some known → first ≡ unwrap_or known index → others ≡ numbers ++ first ∷ [] →
      AreFirst eq old (take index keys) × (some ≡ has_repeat eq (take index keys)) × (numbers ≡ map (number_in eq keys) (take index keys)) →
      AreFirst eq new (take (index + 1) keys) × (more ≡ has_repeat eq (take (index + 1) keys)) × (others ≡ map (number_in eq keys) (take (index + 1) keys))
  one_more keys index x old new known some more first numbers others inside here is after repeats chosen pushed before =
      let xs = take index keys in
      let longer : take (index + 1) keys ≡ xs ++ x ∷ [] = take_one_more keys index x inside here in
      let long : index ≡ length xs = sym (length-take-le index keys (omega (arith, inside))) in
      let found : known ≡ position_from (eq x) 0 xs = is ∙ before.0 x in
      let at : position_from (eq x) 0 (take (index + 1) keys) ≡ Some (unwrap_or known index) = ap (position_from (eq x) 0) longer ∙ index_last x xs index known long found in (
        first_more old new x xs (take (index + 1) keys) index long longer before.0 after,
        repeats ∙ ap (λ b. b || is_some known) before.1 ∙ ap (λ o. has_repeat eq xs || is_some o) found ∙ sym (ap (has_repeat eq) longer ∙ repeat_last x xs),
        pushed ∙ ap (λ ns. ns ++ first ∷ []) before.2 ∙ ap (λ n. map (number_in eq keys) xs ++ n ∷ []) (chosen ∙ number_last x keys (index + 1) (unwrap_or known index) at) ∙ sym (map-take_more (number_in eq keys) keys index x inside here),
      )

-- a prefix of the full length is the whole list of keys
pub all_known : {K : Type 0} (eq : K → K → Bool) (keys : List K) (i : ℕ) {indices : K → Option ℕ} {some : Bool} {numbers : List ℕ} → length keys ≤ i →
    AreFirst eq indices (take i keys) × (some ≡ has_repeat eq (take i keys)) × (numbers ≡ map (number_in eq keys) (take i keys)) →
    AreFirst eq indices keys × (some ≡ has_repeat eq keys) × (numbers ≡ map (number_in eq keys) keys)
all_known eq keys i {indices} {some} {numbers} past h = subst (λ xs. AreFirst eq indices xs × (some ≡ has_repeat eq xs) × (numbers ≡ map (number_in eq keys) xs)) (take_all i keys past) h
