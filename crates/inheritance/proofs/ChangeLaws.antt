-- Laws of changes.
use Rattle.std.proofs.Common.{◌≡◌, ◌≢◌, ◌<◌, ◌≤◌, ◌-◌, ◌+◌, ◌⊎◌, inl, inr, ℕ, zero, suc, Bool, true, false, ◌&&◌, ◌==◌, nat_le, if◌then◌else◌, List, [], ◌∷◌, ◌++◌, length, take, drop, get_or, map, Option, None, Some, refl, sym, ap, ◌∙◌, arith}
use Rattle.std.proofs.lemmas.List.Folds.{list_all-append}
use Rattle.std.proofs.lemmas.Bool.{and_from, eqb-true, le-leb, lt-leb, leb-true}
use Rattle.std.proofs.lemmas.Bool.Decides.{eqb_tells}
use Rattle.std.proofs.lemmas.List.{get_or-set_same, get_or-set_other, length-set, length-map, get_or-map, get_or_past, take-append-drop, take_rest}
use Rattle.std.proofs.Math.Seq.{drop-cons}
use Rattle.std.specs.List.{list_all, position_from}
use Rattle.std.specs.Option.{option_map_or}
use Rattle.cil_model.proofs.SameLaws.{both_first, both_second}
use Rattle.inheritance.specs.declared.changes.Declared.{Declared}
use Rattle.inheritance.specs.declared.changes.Change.{Change}
use Rattle.inheritance.specs.declared.changes.Source.{Source}
use Rattle.inheritance.specs.declared.changes.Source.TheVariants.{Nothing, Class, Time}
use Rattle.inheritance.specs.Changes.{latest_known, is_ordered, is_past, changes_of, known_of, with_change, found_from, is_earlier, AreUpTo, AddsChange, AddsChanges}

pub known-append : (t : ℕ) (xs ys : List Change) (before : Option Declared) → latest_known before t (xs ++ ys) ≡ latest_known (latest_known before t xs) t ys
known-append t [] ys before = refl
known-append t (c ∷ xs) ys before = known-append t xs ys (if nat_le c.time t then c.found else before)

-- what comes later changes nothing
pub known_late : (before : Option Declared) (t low : ℕ) (ys : List Change) → t < low → list_all (λ (d : Change). nat_le low d.time) ys ≡ true → latest_known before t ys ≡ before
known_late before t low [] h e = refl
known_late before t low (c ∷ ys) h e =
    let from : low ≤ c.time = leb-true low c.time (both_first _ _ e) in
    let fails : nat_le c.time t ≡ false = lt-leb c.time t (omega (arith, h, from)) in
    rw fails (known_late before t low ys h (both_second _ _ e))

pub ordered_after : (xs ys : List Change) → is_ordered (xs ++ ys) ≡ true → is_ordered ys ≡ true
ordered_after [] ys h = h
ordered_after (x ∷ xs) ys h = ordered_after xs ys (both_second _ _ h)

pub ordered_before : (xs ys : List Change) → is_ordered (xs ++ ys) ≡ true → is_ordered xs ≡ true
ordered_before [] ys h = refl
ordered_before (x ∷ xs) ys h =
    and_from _ _ (both_first _ _ (sym (list_all-append (λ (d : Change). nat_le x.time d.time) xs ys) ∙ both_first _ _ h)) (ordered_before xs ys (both_second _ _ h))

pub ordered_more : (xs : List Change) (c : Change) → is_ordered xs ≡ true → is_past c.time xs ≡ true → is_ordered (xs ++ c ∷ []) ≡ true
ordered_more [] c h k = refl
ordered_more (x ∷ xs) c h k =
    and_from _ _ (list_all-append (λ (d : Change). nat_le x.time d.time) xs (c ∷ []) ∙ and_from _ _ (both_first _ _ h) (and_from _ _ (both_first _ _ k) refl)) (ordered_more xs c (both_second _ _ h) (both_second _ _ k))

-- the item in the middle is of the time or earlier
pub known_upper : (before : Option Declared) (t : ℕ) (xs ys zs : List Change) (c : Change) → xs ≡ ys ++ c ∷ zs → c.time ≤ t → latest_known c.found t zs ≡ latest_known before t xs
known_upper before t xs ys zs c e h =
    let passes : nat_le c.time t ≡ true = le-leb c.time t h in
    sym (ap (latest_known before t) e ∙ known-append t ys (c ∷ zs) before ∙ rw passes refl)

-- it is later
pub known_lower : (before : Option Declared) (t : ℕ) (xs ys zs : List Change) (c : Change) → xs ≡ ys ++ c ∷ zs → t < c.time → is_ordered xs ≡ true → latest_known before t ys ≡ latest_known before t xs
known_lower before t xs ys zs c e h k =
    let fails : nat_le c.time t ≡ false = lt-leb c.time t h in
    let ends : is_ordered (c ∷ zs) ≡ true = ordered_after ys (c ∷ zs) (sym (ap is_ordered e) ∙ k) in
    let late : latest_known (latest_known before t ys) t zs ≡ latest_known before t ys = known_late (latest_known before t ys) t c.time zs h (both_first _ _ ends) in
    sym (ap (latest_known before t) e ∙ known-append t ys (c ∷ zs) before ∙ rw fails late)

-- ---- one more change

pub past_more : (xs : List Change) (c : Change) → is_past c.time xs ≡ true → is_past c.time (xs ++ c ∷ []) ≡ true
past_more xs c h = list_all-append (λ (d : Change). nat_le d.time c.time) xs (c ∷ []) ∙ and_from _ _ h (and_from _ _ (le-leb c.time c.time (omega arith)) refl)

module _ (rows : List (List Change)) (key : ℕ) (c : Change) (inside : key < length rows) where
  changes_of_key : changes_of (with_change rows key c) key ≡ changes_of rows key ++ c ∷ []
  changes_of_key = get_or-set_same rows key (changes_of rows key ++ c ∷ []) [] inside

  changes_of_other : (q : ℕ) → q ≢ key → changes_of (with_change rows key c) q ≡ changes_of rows q
  changes_of_other q h = get_or-set_other rows key q (changes_of rows key ++ c ∷ []) [] h

  ordered_with : (q : ℕ) → AreUpTo c.time rows → is_ordered (changes_of (with_change rows key c) q) ≡ true
  ordered_with q u = by_key (eqb_tells q key)
    where
      by_key : ((q == key) ≡ true) × (q ≡ key) ⊎ ((q == key) ≡ false) × (q ≢ key) → is_ordered (changes_of (with_change rows key c) q) ≡ true
      by_key (inl h) = ap (λ k. is_ordered (changes_of (with_change rows key c) k)) h.1 ∙ ap is_ordered changes_of_key ∙ ordered_more (changes_of rows key) c (u.ordered key) (u.past key)
      by_key (inr h) = ap is_ordered (changes_of_other q h.1) ∙ u.ordered q

  past_with : (q : ℕ) → AreUpTo c.time rows → is_past c.time (changes_of (with_change rows key c) q) ≡ true
  past_with q u = by_key (eqb_tells q key)
    where
      by_key : ((q == key) ≡ true) × (q ≡ key) ⊎ ((q == key) ≡ false) × (q ≢ key) → is_past c.time (changes_of (with_change rows key c) q) ≡ true
      by_key (inl h) = ap (λ k. is_past c.time (changes_of (with_change rows key c) k)) h.1 ∙ ap (is_past c.time) changes_of_key ∙ past_more (changes_of rows key) c (u.past key)
      by_key (inr h) = ap (is_past c.time) (changes_of_other q h.1) ∙ u.past q

  known_with : (q t : ℕ) → known_of (with_change rows key c) q t ≡ (if (q == key) && nat_le c.time t then c.found else known_of rows q t)
  known_with q t = by_key (eqb_tells q key)
    where
      by_key : ((q == key) ≡ true) × (q ≡ key) ⊎ ((q == key) ≡ false) × (q ≢ key) → known_of (with_change rows key c) q t ≡ (if (q == key) && nat_le c.time t then c.found else known_of rows q t)
      by_key (inl h) =
          let same : changes_of (with_change rows key c) q ≡ changes_of rows q ++ c ∷ [] = ap (changes_of (with_change rows key c)) h.1 ∙ changes_of_key ∙ ap (λ k. changes_of rows k ++ c ∷ []) (sym h.1) in
          ap (latest_known None t) same ∙ known-append t (changes_of rows q) (c ∷ []) None ∙ ap (λ b. if b && nat_le c.time t then c.found else known_of rows q t) (sym h.0)
      by_key (inr h) = ap (latest_known None t) (changes_of_other q h.1) ∙ ap (λ b. if b && nat_le c.time t then c.found else known_of rows q t) (sym h.0)

  pub adds_change : (new : List (List Change)) → new ≡ with_change rows key c → AddsChange rows new key c
  adds_change new e = rw e record {
    width = length-set rows key (changes_of rows key ++ c ∷ []);
    up_to = λ u. record { ordered = λ q. ordered_with q u; past = λ q. past_with q u };
    found = λ q t h. known_with q t;
  }

-- there is no such key
pub adds_no_change : (rows : List (List Change)) (key : ℕ) (c : Change) → length rows ≤ key → AddsChange rows rows key c
adds_no_change rows key c past = record { width = refl; up_to = λ u. u; found = λ q t h. other q t (eqb_tells q key) h }
  where
    other : (q t : ℕ) → ((q == key) ≡ true) × (q ≡ key) ⊎ ((q == key) ≡ false) × (q ≢ key) → q < length rows → known_of rows q t ≡ (if (q == key) && nat_le c.time t then c.found else known_of rows q t)
    other q t (inl e) h = absurd (omega (arith, h, e.1, past))
    other q t (inr e) h = ap (λ b. if b && nat_le c.time t then c.found else known_of rows q t) (sym e.0)

-- ---- the changes of keys that a class declares

pub adds_none : (rows : List (List Change)) (first : ℕ) (source : Source) (time : ℕ) → AddsChanges rows rows [] first source time
adds_none rows first source time = record { width = refl; up_to = λ u. u; found = λ q t h. either (nat_le time t) (known_of rows q t) }
  where
    either : (late : Bool) (x : Option Declared) → x ≡ (if late then x else x)
    either true x = refl
    either false x = refl

-- one key more, in front of these
module _ (old mid new : List (List Change)) (key first : ℕ) (keys : List ℕ) (source : Source) (time : ℕ) (finds : Option Declared) (earlier : is_earlier time source ≡ true) (following : AddsChanges old mid keys (first + 1) source time) (is : finds ≡ found_from mid source key first) (one : AddsChange mid new key (record { time = time; found = finds })) where
  as_before : (of : Source) → is_earlier time of ≡ true → key < length old → found_from mid of key first ≡ found_from old of key first
  as_before Nothing before within = refl
  as_before (Class class) before within = refl
  as_before (Time past) before within =
      following.found key past within ∙
      ap (λ late. if late then option_map_or (found_from old source key) (position_from (λ k. key == k) (first + 1) keys) (known_of old key past) else known_of old key past)
      (lt-leb time past (omega (arith, leb-true (past + 1) time before)))

  choose : (same late : Bool) (f : ℕ → Option Declared) (index : Option ℕ) (x : Option Declared) → (same ≡ true → finds ≡ f first) →
      (if same && late then finds else (if late then option_map_or f index x else x)) ≡ (if late then option_map_or f (if same then Some first else index) x else x)
  choose true true f index x e = e refl
  choose true false f index x e = refl
  choose false true f index x e = refl
  choose false false f index x e = refl

  pub adds_before : AddsChanges old new (key ∷ keys) first source time
  adds_before = record {
    width = one.width ∙ following.width;
    up_to = λ u. one.up_to (following.up_to u);
    found = λ q t h.
        one.found q t (omega (arith, following.width, h)) ∙
        ap (λ x. if (q == key) && nat_le time t then finds else x) (following.found q t h) ∙
        choose (q == key) (nat_le time t) (found_from old source q) (position_from (λ k. q == k) (first + 1) keys) (known_of old q t)
        (λ e. let same : q ≡ key = eqb-true q key e in is ∙ as_before source earlier (omega (arith, same, h)) ∙ ap (λ k. found_from old source k first) (sym same));
  }

-- ---- rows of vectors

pub row_of : {X Y : Type 0} (f : X → Y) (xs : List X) (i : ℕ) (x : X) (d : Y) → i < length xs → x ≡ get_or xs i x → get_or (map f xs) i d ≡ f x
row_of f xs i x d h e = get_or-map f xs i x d h ∙ ap f (sym e)

pub item_of : {X : Type 0} (xs : List X) (i : ℕ) (x d : X) → i < length xs → x ≡ get_or xs i x → x ≡ get_or xs i d
item_of [] i x d within e = absurd (omega (arith, within))
item_of (y ∷ ys) zero x d within e = e
item_of (y ∷ ys) (suc i) x d within e = item_of ys i x d (omega (arith, within)) e

pub row_past : {X Y : Type 0} (f : X → Y) (xs : List X) (i : ℕ) (d : Y) → length xs ≤ i → get_or (map f xs) i d ≡ d
row_past f xs i d h = get_or_past (map f xs) i d (omega (arith, h, length-map xs f))

-- ---- halves

-- the first half, then the item after it, then the others
pub halves : {X : Type 0} (xs ys zs : List X) (m : ℕ) (d : X) → ys ≡ take m xs → zs ≡ drop m xs → 1 ≤ length zs → xs ≡ ys ++ get_or zs 0 d ∷ take (length zs - 1) (drop 1 zs)
halves xs ys zs m d e f h =
    let front : zs ≡ get_or zs 0 d ∷ take (length zs - 1) (drop 1 zs) = drop-cons zs 0 d (omega (arith, h)) ∙ ap (λ r. get_or zs 0 d ∷ r) (sym (take_rest zs 1)) in
    sym (take-append-drop m xs) ∙ ap (λ r. r ++ drop m xs) (sym e) ∙ ap (λ r. ys ++ r) (sym f ∙ front)
