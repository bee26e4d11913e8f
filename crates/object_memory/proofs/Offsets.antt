-- Walks over the cells of a block: offsets, the next cell, and the next one with a property.
use Rattle.std.proofs.Common.{◌≡◌, ◌≢◌, ◌⊎◌, inl, inr, ℕ, ◌+◌, ◌<◌, ◌≤◌, Bool, true, false, List, [], ◌∷◌, ◌++◌, refl, sym, ap, subst, ◌∙◌, arith, append_assoc, append-nil}
use Rattle.std.specs.Prelude.{◌==◌, nat_lt, if◌then◌else◌, Some, None}
use Rattle.std.proofs.lemmas.List.Sums.{sum_by-cons, sum_by-append}
use Rattle.std.proofs.lemmas.Bool.Decides.{nat_tests}
use Rattle.object_memory.specs.declared.addresses.Addr.{Addr}
use Rattle.object_memory.specs.Cells.{Cell, Cells, size, used_words, cell_from, cell_in, change_from, change_in, with_last, address_after_cell, begins_after}
use Rattle.object_memory.specs.Spaces.{IsOffset, found_from, found_in}
use Rattle.object_memory.proofs.Blocks.{range_in, apart_in, none_in}

-- ---- offsets

pub IsOffset-start : (s : Cells) → IsOffset s s.start
IsOffset-start s = record { before = []; after = s.cells; split = refl; at = omega arith }

pub offset-le-end : (s : Cells) (p : ℕ) → IsOffset s p → (s.start ≤ p) × (p ≤ s.start + used_words s.cells)
offset-le-end s p h =
    let all = ap used_words h.split in
    let both = sum_by-append size h.before h.after in
    (omega (arith, h.at), omega (arith, h.at, all, both))

-- an offset stays an offset when a cell is added
pub IsOffset-last : (s : Cells) (c : Cell) (p : ℕ) → IsOffset s p → IsOffset (with_last s c) p
IsOffset-last s c p h = record { before = h.before; after = h.after ++ c ∷ []; split = ap (λ cs. cs ++ c ∷ []) h.split ∙ append_assoc h.before h.after (c ∷ []); at = h.at }

-- each offset stays an offset after a change of a cell that keeps its size
module _ (f : Cell → Cell) (keeps : (c : Cell) → size (f c) ≡ size c) where
  -- the cells on either side of an offset, after the change
  abbrev AreParted : ℕ → List Cell → List Cell → ℕ → Type 0
  AreParted at before after a = (cs : List Cell) × (ds : List Cell) × (change_from f at (before ++ after) a ≡ cs ++ ds) × (used_words cs ≡ used_words before)

  parted : (at : ℕ) (before after : List Cell) (a : ℕ) → AreParted at before after a
  parted at [] after a = ([], change_from f at after a, refl, refl)
  parted at (c ∷ cs) after a = by_test (a == at) (parted (at + size c) cs after a)
    where
      by_test : (t : Bool) → AreParted (at + size c) cs after a
          → (xs : List Cell) × (ys : List Cell) × ((if t then f c ∷ (cs ++ after) else c ∷ change_from f (at + size c) (cs ++ after) a) ≡ xs ++ ys) × (used_words xs ≡ used_words (c ∷ cs))
      by_test true rest = (f c ∷ cs, after, refl, sum_by-cons size (f c) cs ∙ ap (λ k. k + used_words cs) (keeps c) ∙ sym (sum_by-cons size c cs))
      by_test false rest = (c ∷ rest.0, rest.1, ap (λ xs. c ∷ xs) rest.2, sum_by-cons size c rest.0 ∙ ap (λ k. size c + k) rest.3 ∙ sym (sum_by-cons size c cs))

  pub IsOffset-change : (s : Cells) (a : Addr) (p : ℕ) → IsOffset s p → IsOffset (change_in f s a) p
  IsOffset-change s a p h =
      let both = parted s.start h.before h.after a.number in
      record {
        before = both.0;
        after = both.1;
        split = ap (λ cs. change_from f s.start cs a.number) h.split ∙ both.2;
        at = h.at ∙ ap (λ k. s.start + k) (sym both.3);
      }

at_from : (at : ℕ) (before after : List Cell) (c : Cell) → cell_from at (before ++ c ∷ after) (at + used_words before) ≡ Some c
at_from at [] after c = let test : (at + 0 == at) ≡ true = grind (arith, nat_tests) in rw test refl
at_from at (d ∷ ds) after c =
    let more = sum_by-cons size d ds in
    let test : (at + used_words (d ∷ ds) == at) ≡ false = grind (arith, nat_tests) in
    let offset : at + used_words (d ∷ ds) ≡ at + size d + used_words ds = omega (arith, more) in
    rw (test, offset) (at_from (at + size d) ds after c)

-- an offset is that of a cell, and the next offset is after it; or it is the end
pub data AtOffset (s : Cells) (p : ℕ) : Type 0 where
  cell : (c : Cell) → cell_in s (record { number = p }) ≡ Some c → IsOffset s (p + size c) → AtOffset s p
  end : p ≡ s.start + used_words s.cells → AtOffset s p

at_by : (s : Cells) (p : ℕ) (before after : List Cell) → s.cells ≡ before ++ after → p ≡ s.start + used_words before → AtOffset s p
at_by s p before [] split at =
    let all : s.cells ≡ before = split ∙ append-nil before in
    end (at ∙ ap (λ cs. s.start + used_words cs) (sym all))
at_by s p before (c ∷ after) split at =
    let there : cell_from s.start s.cells p ≡ Some c = rw (split, at) (at_from s.start before after c) in
    let next : p + size c ≡ s.start + used_words (before ++ c ∷ []) = omega (arith, at, sum_by-append size before (c ∷ []), sum_by-cons size c []) in
    cell c there (record { before = before ++ c ∷ []; after = after; split = split ∙ sym (append_assoc before (c ∷ []) after); at = next })

pub at_offset : (s : Cells) (p : ℕ) → IsOffset s p → AtOffset s p
at_offset s p h = at_by s p h.before h.after h.split h.at

-- after a cell there is an offset
pub offset-following : (s : Cells) (p : ℕ) (c : Cell) → IsOffset s p → cell_in s (record { number = p }) ≡ Some c → IsOffset s (p + size c)
offset-following s p c h e = elim (at_offset s p h) [
  | cell d there next ↦ let same : d ≡ c = cc in subst (λ x. IsOffset s (p + size x)) same next
  | end is ↦ absurd (omega (arith, is, (range_in s (record { number = p }) c e).1))
]

-- where no cell begins is the end
pub offset-last : (s : Cells) (p : ℕ) → IsOffset s p → cell_in s (record { number = p }) ≡ None → p ≡ s.start + used_words s.cells
offset-last s p h e = elim (at_offset s p h) [
  | cell d there next ↦ absurd cc
  | end is ↦ is
]

-- nothing begins after all words
pub begins_last : (s : Cells) (n : ℕ) → n ≡ used_words s.cells → begins_after s n ≡ None
begins_last s n e =
    let none : cell_in s (address_after_cell s n) ≡ None = none_in s (address_after_cell s n) (λ low below. absurd (omega (arith, e, below))) in
    rw none refl

-- a cell begins at any other offset
pub begins_here : (s : Cells) (n : ℕ) → IsOffset s (s.start + n) → n ≢ used_words s.cells → begins_after s n ≡ Some (address_after_cell s n)
begins_here s n h ne = elim (at_offset s (s.start + n) h) [
  | cell c there next ↦ rw there refl
  | end is ↦ absurd (omega (arith, is, ne))
]

-- the cells below the next offset are those below this one, and the one at it
pub below_next : (s : Cells) (p : ℕ) (d : Cell) → cell_in s (record { number = p }) ≡ Some d → (a : Addr) (c : Cell) → cell_in s a ≡ Some c → a.number < p + size d → (a.number < p) ⊎ (a.number ≡ p)
below_next s p d there a c e less = by_order (nat_lt p a.number) refl
  where
    by_order : (t : Bool) → nat_lt p a.number ≡ t → (a.number < p) ⊎ (a.number ≡ p)
    by_order true test =
        let over : p < a.number = grind (arith, nat_tests) in
        absurd (omega (arith, less, apart_in s (record { number = p }) a d c there e over))
    by_order false test = by_equal (a.number == p) refl
      where
        by_equal : (t : Bool) → (a.number == p) ≡ t → (a.number < p) ⊎ (a.number ≡ p)
        by_equal true same = inr (grind (arith, nat_tests))
        by_equal false same = inl (grind (arith, nat_tests))

-- ---- the next cell with a property

module _ (q : Cell → Bool) where
  -- nothing is found after all
  none_after : (at : ℕ) (cs : List Cell) (p : ℕ) → at + used_words cs ≤ p → found_from q at cs p ≡ None
  none_after at [] p far = refl
  none_after at (c ∷ cs) p far =
      let more = sum_by-cons size c cs in
      let test : nat_lt at p ≡ true = grind (arith, nat_tests) in
      rw test (none_after (at + size c) cs p (omega (arith, far, more)))

  pub found_end : (s : Cells) → found_in q s (s.start + used_words s.cells) ≡ None
  found_end s = none_after s.start s.cells (s.start + used_words s.cells) (omega arith)

  -- for a search that begins at the first cell or before, the offset doesn't matter
  early_from : (at : ℕ) (cs : List Cell) (p r : ℕ) → p ≤ at → r ≤ at → found_from q at cs p ≡ found_from q at cs r
  early_from at [] p r hp hr = refl
  early_from at (c ∷ cs) p r hp hr =
      let test : nat_lt at p ≡ false = grind (arith, nat_tests) in
      let test' : nat_lt at r ≡ false = grind (arith, nat_tests) in
      rw (test, test') (ap (λ o. if q c then Some at else o) (early_from (at + size c) cs p r (omega (arith, hp)) (omega (arith, hr))))

  here_from : (at : ℕ) (cs : List Cell) (p : ℕ) (c : Cell) → cell_from at cs p ≡ Some c → q c ≡ true → found_from q at cs p ≡ Some p
  here_from at [] p c e holds = absurd cc
  here_from at (d ∷ ds) p c e holds = by_test (p == at) refl e (here_from (at + size d) ds p c)
    where
      by_test : (t : Bool) → (p == at) ≡ t → (if t then Some d else cell_from (at + size d) ds p) ≡ Some c
          → (cell_from (at + size d) ds p ≡ Some c → q c ≡ true → found_from q (at + size d) ds p ≡ Some p)
          → found_from q at (d ∷ ds) p ≡ Some p
      by_test true test g rest =
          let same : d ≡ c = cc in
          let here : at ≡ p = grind (arith, nat_tests) in
          let before : nat_lt at p ≡ false = grind (arith, nat_tests) in
          rw (before, same, holds) (ap Some here)
      by_test false test g rest =
          let r = range_in (record { start = at + size d; cells = ds; words = 0 }) (record { number = p }) c g in
          let before : nat_lt at p ≡ true = (let low = r.0 in grind (arith, nat_tests)) in
          rw before (rest g holds)

  step_from : (at : ℕ) (cs : List Cell) (p : ℕ) (c : Cell) → cell_from at cs p ≡ Some c → q c ≡ false → found_from q at cs p ≡ found_from q at cs (p + size c)
  step_from at [] p c e fails = absurd cc
  step_from at (d ∷ ds) p c e fails = by_test (p == at) refl e (step_from (at + size d) ds p c)
    where
      by_test : (t : Bool) → (p == at) ≡ t → (if t then Some d else cell_from (at + size d) ds p) ≡ Some c
          → (cell_from (at + size d) ds p ≡ Some c → q c ≡ false → found_from q (at + size d) ds p ≡ found_from q (at + size d) ds (p + size c))
          → found_from q at (d ∷ ds) p ≡ found_from q at (d ∷ ds) (p + size c)
      by_test true test g rest =
          let same : d ≡ c = cc in
          let long = ap size same in
          let here : at ≡ p = grind (arith, nat_tests) in
          let before : nat_lt at p ≡ false = grind (arith, nat_tests) in
          let following : nat_lt at (p + size c) ≡ true = grind (arith, nat_tests) in
          rw (before, following, same, fails) (early_from (at + size c) ds p (p + size c) (omega (arith, here)) (omega (arith, here)))
      by_test false test g rest =
          let r = range_in (record { start = at + size d; cells = ds; words = 0 }) (record { number = p }) c g in
          let before : nat_lt at p ≡ true = (let low = r.0 in grind (arith, nat_tests)) in
          let following : nat_lt at (p + size c) ≡ true = (let low = r.0 in grind (arith, nat_tests)) in
          rw (before, following) (rest g fails)

  -- a walk stops at a cell with the property, and continues after one without it
  pub found_here : (s : Cells) (p : ℕ) (c : Cell) → cell_in s (record { number = p }) ≡ Some c → q c ≡ true → found_in q s p ≡ Some p
  found_here s p c e holds = here_from s.start s.cells p c e holds

  pub found_step : (s : Cells) (p : ℕ) (c : Cell) → cell_in s (record { number = p }) ≡ Some c → q c ≡ false → found_in q s p ≡ found_in q s (p + size c)
  found_step s p c e fails = step_from s.start s.cells p c e fails
