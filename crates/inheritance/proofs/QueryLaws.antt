-- Laws of what is sought.
use Rattle.std.proofs.Common.{◌≡◌, ◌<◌, ◌≤◌, ◌+◌, ◌-◌, ◌⊎◌, inl, inr, ℕ, zero, suc, Bool, true, false, ◌||◌, nat_le, nat_lt, if◌then◌else◌, List, [], ◌∷◌, ◌++◌, length, take, drop, replicate, Option, Some, None, slice_index_or, slice_get, refl, sym, ap, subst, ◌∙◌, arith}
use Rattle.std.specs.List.{list_all, list_any}
use Rattle.std.proofs.lemmas.List.Folds.{list_all-append, list_any-append}
use Rattle.std.proofs.lemmas.Bool.{and_from, le-leb, leb-true, leb-false, or_parts}
use Rattle.std.proofs.lemmas.Bool.Decides.{leb_tells}
use Rattle.std.proofs.lemmas.List.{take-append-drop, length-append}
use Rattle.std.proofs.lemmas.Option.{same_Some, none-some}
use Rattle.std.proofs.Math.Seq.{drop-cons, get_or-append_seam}
use Rattle.std.proofs.Math.ListN.{get_or-append}
use borrow.Author.Count.{below_more}
use Rattle.cil_model.proofs.SameLaws.{both_first, both_second}
use Rattle.inheritance.specs.declared.changes.Declared.{Declared}
use Rattle.inheritance.specs.declared.changes.Change.{Change}
use Rattle.inheritance.specs.Changes.{latest_known, is_ordered}
use Rattle.inheritance.specs.declared.forests.Forest.{Forest}
use Rattle.inheritance.specs.Lines.{Ends}
use Rattle.inheritance.specs.ScopedTables.{pair_of}
use Rattle.inheritance.specs.Query.{at_first, below, finds_some, next_time, AreNoted, AreLater, HoldsTill, IsLatest, IsReach}
use Rattle.inheritance.proofs.ChangeLaws.{known_late, known_upper, ordered_after}

not_both : true ≡ false → ⊥
not_both e = cc

-- what is noted by some ends is noted by later ones
pub noted_later : (test : Option (ℕ × ℕ) → Bool) (old new : List ℕ) (cs : List Change) → AreLater old new → AreNoted test old cs → AreNoted test new cs
noted_later test old new [] l h = tt
noted_later test old new (c ∷ cs) l h = (
  λ m k.
      let before : c.time < length old = omega (arith, k, l.width) in
      let was : next_time (length old) cs ≤ slice_index_or old c.time 0 = h.0 m before in
      let more : slice_index_or old c.time 0 ≤ slice_index_or new c.time 0 = l.later c.time in
      let same : next_time (length new) cs ≡ next_time (length old) cs = ap (λ n. next_time n cs) l.width in
      omega (arith, was, more, same),
  noted_later test old new cs l h.1,
)

pub later_both : (a b c : List ℕ) → AreLater a b → AreLater b c → AreLater a c
later_both a b c h k = record { width = k.width ∙ h.width; later = λ t. let x : slice_index_or a t 0 ≤ slice_index_or b t 0 = h.later t in let y : slice_index_or b t 0 ≤ slice_index_or c t 0 = k.later t in omega (arith, x, y) }

-- one more change, before those that are noted
pub noted_more : (test : Option (ℕ × ℕ) → Bool) (old new : List ℕ) (row : List Change) (i : ℕ) (d : Change) → 0 < i → i ≤ length row → AreLater old new → AreNoted test old (drop i row) →
    (test (pair_of (slice_index_or row (i - 1) d).found) ≡ true → (slice_index_or row (i - 1) d).time < length old → next_time (length old) (drop i row) ≤ slice_index_or new (slice_index_or row (i - 1) d).time 0) →
    ((slice_index_or row (i - 1) d).time ≡ next_time (length new) (drop (i - 1) row)) × AreNoted test new (drop (i - 1) row)
noted_more test old new row i d h k l noted ends =
    let c = slice_index_or row (i - 1) d in
    let one : suc (i - 1) ≡ i = omega arith in
    let within : i - 1 < length row = omega (arith, h, k) in
    let split : drop (i - 1) row ≡ c ∷ drop i row = drop-cons row (i - 1) d within ∙ ap (λ n. c ∷ drop n row) one in
    let same : next_time (length new) (drop i row) ≡ next_time (length old) (drop i row) = ap (λ n. next_time n (drop i row)) l.width in
    let here : test (pair_of c.found) ≡ true → c.time < length new → next_time (length new) (drop i row) ≤ slice_index_or new c.time 0 = λ m w. let e : next_time (length old) (drop i row) ≤ slice_index_or new c.time 0 = ends m (omega (arith, w, l.width)) in omega (arith, e, same) in (
      sym (ap (next_time (length new)) split),
      subst (AreNoted test new) (sym split) (here, noted_later test old new (drop i row) l noted),
    )

module _ (test : Option (ℕ × ℕ) → Bool) (ends : List ℕ) (t : ℕ) (inside : t < length ends) where
  abbrev passes : Option Declared → Bool
  passes o = test (pair_of o)

  -- a change up to the time, which noted an end after it
  abbrev IsCovered : Type 0
  IsCovered = (s : ℕ) × (s ≤ t) × (t < slice_index_or ends s 0)

  -- what passes is found after a change up to the time
  pub covered : (c : Change) (cs : List Change) → AreNoted test ends (c ∷ cs) → is_ordered cs ≡ true → c.time ≤ t → passes (latest_known c.found t cs) ≡ true → IsCovered
  covered c [] noted ordered early h = let end : length ends ≤ slice_index_or ends c.time 0 = noted.0 h (omega (arith, early, inside)) in (c.time, early, omega (arith, end, inside))
  covered c (d ∷ ds) noted ordered early h = by_time (covered d ds noted.1 (both_second _ _ ordered)) (nat_le d.time t) refl
    where
      by_time : (d.time ≤ t → passes (latest_known d.found t ds) ≡ true → IsCovered) → (b : Bool) → nat_le d.time t ≡ b → IsCovered
      by_time further true e = further (leb-true d.time t e) (sym (ap (λ b. passes (latest_known (if b then d.found else c.found) t ds)) e) ∙ h)
      by_time further false e =
          let past : t < d.time = leb-false d.time t e in
          let late : latest_known c.found t (d ∷ ds) ≡ c.found = ap (λ b. latest_known (if b then d.found else c.found) t ds) e ∙ known_late c.found t d.time ds past (both_first _ _ ordered) in
          let end : d.time ≤ slice_index_or ends c.time 0 = noted.0 (sym (ap passes late) ∙ h) (omega (arith, early, inside)) in
          (c.time, early, omega (arith, end, past))

-- nothing that passes is found at a time that has no noted end after it
pub none_sought : (test : Option (ℕ × ℕ) → Bool) (ends reach : List ℕ) (cs : List Change) (t : ℕ) → AreNoted test ends (at_first ∷ cs) → is_ordered cs ≡ true → IsReach ends reach → length reach ≡ length ends → t < length reach →
    slice_index_or reach t 0 ≤ t → test (pair_of (latest_known None t cs)) ≡ false
none_sought test ends reach cs t noted ordered reaches width inside low = by_value (test (pair_of (latest_known None t cs))) refl
  where
    by_value : (b : Bool) → test (pair_of (latest_known None t cs)) ≡ b → b ≡ false
    by_value false e = refl
    by_value true e =
        let within : t < length ends = omega (arith, inside, width) in
        let found = covered test ends t within at_first cs noted ordered (omega arith) e in
        let high : slice_index_or ends found.0 0 ≤ slice_index_or reach t 0 = (reaches t inside).bounds_ends found.0 (omega (arith, found.1)) in
        absurd (omega (arith, high, low, found.2))

-- ---- what is found until an end

pub holds_both : (P : ℕ → Type 0) (a b c : List ℕ) → HoldsTill P a b → HoldsTill P b c → HoldsTill P a c
holds_both P a b c h k = λ s t early low high. by_end s t early low high (leb_tells (suc t) (slice_index_or b s 0))
  where
    by_end : (s t : ℕ) → s ≤ t → slice_index_or a s 0 ≤ t → t < slice_index_or c s 0 →
        ((nat_le (suc t) (slice_index_or b s 0) ≡ true) × (suc t ≤ slice_index_or b s 0)) ⊎ ((nat_le (suc t) (slice_index_or b s 0) ≡ false) × (slice_index_or b s 0 < suc t)) → P t
    by_end s t early low high (inl e) = h s t early low (omega (arith, e.1))
    by_end s t early low high (inr e) = k s t early (omega (arith, e.1)) high

-- before the first of these changes nothing changes
pub known_early : (before : Option Declared) (last t : ℕ) (cs : List Change) → t < next_time last cs → is_ordered cs ≡ true → latest_known before t cs ≡ before
known_early before last t [] h e = refl
known_early before last t (c ∷ cs) h e = known_late before t c.time (c ∷ cs) h (and_from _ _ (le-leb c.time c.time (omega arith)) (both_first _ _ e))

-- from the time of a change to that of the next one, it says what is found
pub known_between : (last t : ℕ) (row : List Change) (i : ℕ) (d : Change) → 0 < i → i ≤ length row → is_ordered row ≡ true →
    (slice_index_or row (i - 1) d).time ≤ t → t < next_time last (drop i row) → latest_known None t row ≡ (slice_index_or row (i - 1) d).found
known_between last t row i d h k ordered early late =
    let c = slice_index_or row (i - 1) d in
    let one : suc (i - 1) ≡ i = omega arith in
    let split : drop (i - 1) row ≡ c ∷ drop i row = drop-cons row (i - 1) d (omega (arith, h, k)) ∙ ap (λ n. c ∷ drop n row) one in
    let whole : row ≡ take (i - 1) row ++ c ∷ drop i row = sym (take-append-drop (i - 1) row) ∙ ap (λ cs. take (i - 1) row ++ cs) split in
    let following : is_ordered (drop i row) ≡ true = both_second _ _ (ordered_after (take (i - 1) row) (c ∷ drop i row) (sym (ap is_ordered whole) ∙ ordered)) in
    sym (known_upper None t row (take (i - 1) row) (drop i row) c whole early) ∙ known_early c.found last t (drop i row) late following

-- ---- the latest of all ends

pub latest_at_first : (ends : List ℕ) → IsLatest ends 0 0
latest_at_first ends = record { bounds_ends = λ s h. absurd (omega (arith, h)); is_end = λ h. absurd (omega (arith, h)) }

pub latest_as_before : (ends : List ℕ) (n latest : ℕ) → IsLatest ends n latest → slice_index_or ends n 0 ≤ latest → IsLatest ends (n + 1) latest
latest_as_before ends n latest l h = record {
  bounds_ends = below_more (λ s. slice_index_or ends s 0 ≤ latest) n l.bounds_ends h;
  is_end = λ some. let found = l.is_end some in (found.0, omega (arith, found.1), found.2);
}

pub latest_here : (ends : List ℕ) (n latest : ℕ) → IsLatest ends n latest → latest < slice_index_or ends n 0 → IsLatest ends (n + 1) (slice_index_or ends n 0)
latest_here ends n latest l h = record {
  bounds_ends = below_more (λ s. slice_index_or ends s 0 ≤ slice_index_or ends n 0) n (λ s k. let low : slice_index_or ends s 0 ≤ latest = l.bounds_ends s k in omega (arith, low, h)) (omega arith);
  is_end = λ some. (n, omega arith, refl);
}

pub reach_more : (ends reach : List ℕ) (latest : ℕ) → IsReach ends reach → IsLatest ends (length reach + 1) latest → IsReach ends (reach ++ latest ∷ [])
reach_more ends reach latest r l = λ t h. below_more (λ t. IsLatest ends (t + 1) (slice_index_or (reach ++ latest ∷ []) t 0)) (length reach)
    (λ t k. subst (IsLatest ends (t + 1)) (sym (get_or-append reach (latest ∷ []) 0 t k)) (r t k))
    (subst (IsLatest ends (length reach + 1)) (sym (get_or-append_seam reach latest [] 0)) l)
    t (omega (arith, h, length-append reach (latest ∷ [])))

pub no_ends : (n s : ℕ) → ◌≡◌ {A = ℕ} (slice_index_or (replicate n 0) s 0) 0
no_ends zero s = refl
no_ends (suc n) zero = refl
no_ends (suc n) (suc s) = no_ends n s

-- a fact of each time that the reach is beyond
pub reach_sought : (P : ℕ → Type 0) (ends old reach : List ℕ) (t : ℕ) → ((s : ℕ) → slice_index_or old s 0 ≡ 0) → HoldsTill P old ends → IsReach ends reach → t < length reach → t < slice_index_or reach t 0 → P t
reach_sought P ends old reach t empty holds r inside high =
    let found = (r t inside).is_end (omega (arith, high)) in
    holds found.0 t (omega (arith, found.1)) (omega (arith, empty found.0)) (omega (arith, high, found.2))

-- ---- some of a list

or-true : (b : Bool) → (b || true) ≡ true
or-true true = refl
or-true false = refl

pub any_at : {X : Type 0} (p : X → Bool) (xs : List X) (i : ℕ) (d : X) → i < length xs → p (slice_index_or xs i d) ≡ true → list_any p xs ≡ true
any_at p [] i d h e = absurd (omega (arith, h))
any_at p (x ∷ xs) zero d h e = ap (λ b. b || list_any p xs) e
any_at p (x ∷ xs) (suc i) d h e = ap (λ b. p x || b) (any_at p xs i d (omega (arith, h)) e) ∙ or-true (p x)

pub index_of_any : {X : Type 0} (p : X → Bool) (xs : List X) (d : X) → list_any p xs ≡ true → (i : ℕ) × (i < length xs) × (p (slice_index_or xs i d) ≡ true)
index_of_any p [] d e = absurd (not_both (sym e))
index_of_any p (x ∷ xs) d e = by_first (p x) refl (index_of_any p xs d)
  where
    by_first : (b : Bool) → p x ≡ b → (list_any p xs ≡ true → (i : ℕ) × (i < length xs) × (p (slice_index_or xs i d) ≡ true)) → (i : ℕ) × (i < length (x ∷ xs)) × (p (slice_index_or (x ∷ xs) i d) ≡ true)
    by_first true h further = (zero, omega arith, h)
    by_first false h further = let found = further (sym (ap (λ b. b || list_any p xs) h) ∙ e) in (suc found.0, omega (arith, found.1), found.2)

-- two tests that agree on all that pass a third
pub any_same : {X : Type 0} (inside p q : X → Bool) → ((x : X) → inside x ≡ true → p x ≡ q x) → (xs : List X) → list_all inside xs ≡ true → list_any p xs ≡ list_any q xs
any_same inside p q same [] h = refl
any_same inside p q same (x ∷ xs) h = ap (λ b. b || list_any p xs) (same x (both_first _ _ h)) ∙ ap (λ b. q x || b) (any_same inside p q same xs (both_second _ _ h))

-- some number passes exactly at the times before an end
pub reach_decides : (p : ℕ → Bool) (keys : List ℕ) (t end : ℕ) → (t < end → list_any p keys ≡ true) → (end ≤ t → (index : ℕ) → index < length keys → p (slice_index_or keys index 0) ≡ false) → list_any p keys ≡ nat_lt t end
reach_decides p keys t end beyond up_to = by_time (nat_lt t end) refl
  where
    by_any : end ≤ t → (b : Bool) → list_any p keys ≡ b → b ≡ false
    by_any late false e = refl
    by_any late true e = let found = index_of_any p keys 0 e in absurd (not_both (sym found.2 ∙ up_to late found.0 found.1))

    by_time : (b : Bool) → nat_lt t end ≡ b → list_any p keys ≡ b
    by_time true e = let high : suc t ≤ end = leb-true (suc t) end e in beyond (omega (arith, high))
    by_time false e = let low : end < suc t = leb-false (suc t) end e in by_any (omega (arith, low)) (list_any p keys) refl

-- ---- results

-- the result for a class
pub record IsAnswer (test : Option (ℕ × ℕ) → Bool) (forest : Forest) (keys : List ℕ) (class : ℕ) (answer : Bool) : Type 0 where
  pub reported : Ends forest.bases.items forest.most class → answer ≡ finds_some test forest keys class
  pub ended : answer ≡ false → Ends forest.bases.items forest.most class

-- one more result after others
pub more_answers : (P : ℕ → Bool → Type 0) (xs : List Bool) (b : Bool) → ((k : ℕ) (v : Bool) → slice_get xs k ≡ Some v → P k v) → P (length xs) b → (k : ℕ) (v : Bool) → slice_get (xs ++ b ∷ []) k ≡ Some v → P k v
more_answers P [] b h here zero v e = subst (P zero) (same_Some b v e) here
more_answers P [] b h here (suc k) v e = absurd (none-some v e)
more_answers P (x ∷ xs) b h here zero v e = h zero v e
more_answers P (x ∷ xs) b h here (suc k) v e = more_answers (λ j. P (suc j)) xs b (λ j. h (suc j)) here k v e

-- the numbers below one

or-false : (b : Bool) → (b || false) ≡ b
or-false true = refl
or-false false = refl

pub below_all : (n m : ℕ) → n ≤ m → list_all (λ k. nat_lt k m) (below n) ≡ true
below_all zero m h = refl
below_all (suc n) m h = list_all-append (λ k. nat_lt k m) (below n) (n ∷ []) ∙ and_from _ _ (below_all n m (omega (arith, h))) (and_from _ _ (le-leb (suc n) m h) refl)

module _ (p : ℕ → Bool) where
  last_of_below : (n : ℕ) → list_any p (below (suc n)) ≡ (list_any p (below n) || p n)
  last_of_below n = list_any-append p (below n) (n ∷ []) ∙ ap (λ b. list_any p (below n) || b) (or-false (p n))

  abbrev IsNumberOf : ℕ → Type 0
  IsNumberOf n = (k : ℕ) × (k < n) × (p k ≡ true)

  pub number_of_any : (n : ℕ) → list_any p (below n) ≡ true → IsNumberOf n
  number_of_any zero e = absurd (not_both (sym e))
  number_of_any (suc n) e = by_last (number_of_any n) (p n) refl
    where
      by_last : (list_any p (below n) ≡ true → IsNumberOf n) → (b : Bool) → p n ≡ b → IsNumberOf (suc n)
      by_last further true h = (n, omega arith, h)
      by_last further false h = let found = further (sym (or-false (list_any p (below n))) ∙ sym (ap (λ b. list_any p (below n) || b) h) ∙ sym (last_of_below n) ∙ e) in (found.0, omega (arith, found.1), found.2)

  pub none_of_below : (n : ℕ) → list_any p (below n) ≡ false → (k : ℕ) → k < n → p k ≡ false
  none_of_below zero e k h = absurd (omega (arith, h))
  none_of_below (suc n) e k h = below_more (λ j. p j ≡ false) n (none_of_below n (or_parts (list_any p (below n)) (p n) split).0) (or_parts (list_any p (below n)) (p n) split).1 k (omega (arith, h))
    where
      split : list_any p (below n) || p n ≡ false
      split = sym (last_of_below n) ∙ e
