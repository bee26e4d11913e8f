-- One block: which cell lies where after a change or with one cell more.
use Rattle.std.proofs.Common.{◌≡◌, ◌≢◌, ◌⊎◌, inl, inr, ℕ, ◌+◌, ◌<◌, ◌≤◌, Bool, true, false, List, [], ◌∷◌, ◌++◌, refl, sym, ap, ◌∙◌, arith}
use Rattle.std.specs.Prelude.{◌==◌, if◌then◌else◌, sum_by, Option, Some, None}
use Rattle.std.proofs.lemmas.List.Sums.{sum_by-cons, sum_by-append}
use Rattle.std.proofs.lemmas.Bool.Decides.{nat_tests}
use Rattle.object_memory.specs.declared.addresses.Addr.{Addr}
use Rattle.object_memory.specs.Cells.{Cell, Cells, size, used_words, cell_from, change_from, next_address, cell_in, change_in, with_last}

-- ---- lists of cells

-- where a cell lies
range_from : (at : ℕ) (cs : List Cell) (a : ℕ) (c : Cell) → cell_from at cs a ≡ Some c → (at ≤ a) × (a + size c ≤ at + used_words cs)
range_from at [] a c e = absurd cc
range_from at (d ∷ ds) a c e = by_test (a == at) refl e (range_from (at + size d) ds a c)
  where
    by_test : (b : Bool) → (a == at) ≡ b → (if b then Some d else cell_from (at + size d) ds a) ≡ Some c
        → (cell_from (at + size d) ds a ≡ Some c → (at + size d ≤ a) × (a + size c ≤ at + size d + used_words ds))
        → (at ≤ a) × (a + size c ≤ at + used_words (d ∷ ds))
    by_test true test g rest =
        let same : d ≡ c = cc in
        let long = ap size same in
        let here : a ≡ at = grind (arith, nat_tests) in
        (omega (arith, here), omega (arith, here, long, sum_by-cons size d ds))
    by_test false test g rest =
        let r = rest g in
        (omega (arith, r.0), omega (arith, r.1, sum_by-cons size d ds))

-- two cells lie apart
apart_from : (at : ℕ) (cs : List Cell) (a b : ℕ) (c d : Cell) → cell_from at cs a ≡ Some c → cell_from at cs b ≡ Some d → a < b → a + size c ≤ b
apart_from at [] a b c d e e' less = absurd cc
apart_from at (x ∷ xs) a b c d e e' less = by_tests (a == at) (b == at) refl refl (λ g g'. apart_from (at + size x) xs a b c d g g' less) e e'
  where
    by_tests : (s t : Bool) → (a == at) ≡ s → (b == at) ≡ t
        → (cell_from (at + size x) xs a ≡ Some c → cell_from (at + size x) xs b ≡ Some d → a + size c ≤ b)
        → (if s then Some x else cell_from (at + size x) xs a) ≡ Some c → (if t then Some x else cell_from (at + size x) xs b) ≡ Some d → a + size c ≤ b
    by_tests true true test test' rest g g' = let p : a ≡ at = grind (arith, nat_tests) in let q : b ≡ at = grind (arith, nat_tests) in absurd (omega (arith, p, q))
    by_tests true false test test' rest g g' =
        let same : x ≡ c = cc in
        let long = ap size same in
        let here : a ≡ at = grind (arith, nat_tests) in
        omega (arith, here, long, (range_from (at + size x) xs b d g').0)
    by_tests false true test test' rest g g' = let q : b ≡ at = grind (arith, nat_tests) in absurd (omega (arith, q, (range_from (at + size x) xs a c g).0))
    by_tests false false test test' rest g g' = rest g g'

-- after all
last_from : (at : ℕ) (cs : List Cell) (c : Cell) → cell_from at (cs ++ c ∷ []) (at + used_words cs) ≡ Some c
last_from at [] c = let test : (at + 0 == at) ≡ true = grind (arith, nat_tests) in rw test refl
last_from at (d ∷ cs) c =
    let more = sum_by-cons size d cs in
    let test : (at + used_words (d ∷ cs) == at) ≡ false = grind (arith, nat_tests) in
    let offset : at + used_words (d ∷ cs) ≡ at + size d + used_words cs = omega (arith, more) in
    rw (test, offset) (last_from (at + size d) cs c)

kept_from : (at : ℕ) (cs : List Cell) (c d : Cell) (a : ℕ) → cell_from at cs a ≡ Some d → cell_from at (cs ++ c ∷ []) a ≡ Some d
kept_from at [] c d a e = absurd cc
kept_from at (x ∷ xs) c d a e = by_test (a == at) e (kept_from (at + size x) xs c d a)
  where
    by_test : (b : Bool) → (if b then Some x else cell_from (at + size x) xs a) ≡ Some d
        → (cell_from (at + size x) xs a ≡ Some d → cell_from (at + size x) (xs ++ c ∷ []) a ≡ Some d)
        → (if b then Some x else cell_from (at + size x) (xs ++ c ∷ []) a) ≡ Some d
    by_test true g rest = g
    by_test false g rest = rest g

-- a cell of the longer list is one of before, or the last
was_from : (at : ℕ) (cs : List Cell) (c d : Cell) (a : ℕ) → cell_from at (cs ++ c ∷ []) a ≡ Some d
    → (cell_from at cs a ≡ Some d) ⊎ ((a ≡ at + used_words cs) × (d ≡ c))
was_from at [] c d a e = by_test (a == at) refl e
  where
    by_test : (b : Bool) → (a == at) ≡ b → (if b then Some c else None) ≡ Some d → (None ≡ Some d) ⊎ ((a ≡ at + 0) × (d ≡ c))
    by_test true test g = let same : d ≡ c = cc in inr ((grind (arith, nat_tests)), same)
    by_test false test g = inl g
was_from at (x ∷ xs) c d a e = by_test (a == at) e (was_from (at + size x) xs c d a)
  where
    by_test : (b : Bool) → (if b then Some x else cell_from (at + size x) (xs ++ c ∷ []) a) ≡ Some d
        → (cell_from (at + size x) (xs ++ c ∷ []) a ≡ Some d → (cell_from (at + size x) xs a ≡ Some d) ⊎ ((a ≡ at + size x + used_words xs) × (d ≡ c)))
        → ((if b then Some x else cell_from (at + size x) xs a) ≡ Some d) ⊎ ((a ≡ at + used_words (x ∷ xs)) × (d ≡ c))
    by_test true g rest = inl g
    by_test false g rest = elim (rest g) [
      | inl was ↦ inl was
      | inr here ↦ inr (omega (arith, here.0, sum_by-cons size x xs), here.1)
    ]

-- a cell's part of a sum over the cells
part_from : (w : Cell → ℕ) (at : ℕ) (cs : List Cell) (a : ℕ) (c : Cell) → cell_from at cs a ≡ Some c → w c ≤ sum_by w cs
part_from w at [] a c e = absurd cc
part_from w at (x ∷ xs) a c e = by_test (a == at) e (part_from w (at + size x) xs a c)
  where
    by_test : (b : Bool) → (if b then Some x else cell_from (at + size x) xs a) ≡ Some c
        → (cell_from (at + size x) xs a ≡ Some c → w c ≤ sum_by w xs) → w c ≤ sum_by w (x ∷ xs)
    by_test true g rest = let same : x ≡ c = cc in let now = ap w same in omega (arith, now, sum_by-cons w x xs)
    by_test false g rest = omega (arith, rest g, sum_by-cons w x xs)

-- ---- a changed cell

module _ (f : Cell → Cell) where
  own_from : (at : ℕ) (cs : List Cell) (a : ℕ) (c : Cell) → cell_from at cs a ≡ Some c → cell_from at (change_from f at cs a) a ≡ Some (f c)
  own_from at [] a c e = absurd cc
  own_from at (x ∷ xs) a c e = by_test (a == at) refl e (own_from (at + size x) xs a c)
    where
      by_test : (b : Bool) → (a == at) ≡ b → (if b then Some x else cell_from (at + size x) xs a) ≡ Some c
          → (cell_from (at + size x) xs a ≡ Some c → cell_from (at + size x) (change_from f (at + size x) xs a) a ≡ Some (f c))
          → cell_from at (if b then f x ∷ xs else x ∷ change_from f (at + size x) xs a) a ≡ Some (f c)
      by_test true test g rest = let same : x ≡ c = cc in rw (test, same) refl
      by_test false test g rest = rw test (rest g)

  -- the last cell changes
  changed_last : (at : ℕ) (cs : List Cell) (c : Cell) → change_from f at (cs ++ c ∷ []) (at + used_words cs) ≡ cs ++ f c ∷ []
  changed_last at [] c = let test : (at + 0 == at) ≡ true = grind (arith, nat_tests) in rw test refl
  changed_last at (d ∷ cs) c =
      let more = sum_by-cons size d cs in
      let test : (at + used_words (d ∷ cs) == at) ≡ false = grind (arith, nat_tests) in
      let offset : at + used_words (d ∷ cs) ≡ at + size d + used_words cs = omega (arith, more) in
      rw (test, offset) (ap (λ xs. d ∷ xs) (changed_last (at + size d) cs c))

  -- where no cell lies nothing changes
  none_from : (at : ℕ) (cs : List Cell) (a : ℕ) → cell_from at cs a ≡ None → change_from f at cs a ≡ cs
  none_from at [] a e = refl
  none_from at (x ∷ xs) a e = by_test (a == at) e (none_from (at + size x) xs a)
    where
      by_test : (b : Bool) → (if b then Some x else cell_from (at + size x) xs a) ≡ None
          → (cell_from (at + size x) xs a ≡ None → change_from f (at + size x) xs a ≡ xs)
          → (if b then f x ∷ xs else x ∷ change_from f (at + size x) xs a) ≡ x ∷ xs
      by_test true g rest = absurd cc
      by_test false g rest = ap (λ ys. x ∷ ys) (rest g)

  -- a sum over the cells
  sum_from : (w : Cell → ℕ) (at : ℕ) (cs : List Cell) (a : ℕ) (c : Cell) → cell_from at cs a ≡ Some c → sum_by w (change_from f at cs a) + w c ≡ sum_by w cs + w (f c)
  sum_from w at [] a c e = absurd cc
  sum_from w at (x ∷ xs) a c e = by_test (a == at) e (sum_from w (at + size x) xs a c)
    where
      by_test : (b : Bool) → (if b then Some x else cell_from (at + size x) xs a) ≡ Some c
          → (cell_from (at + size x) xs a ≡ Some c → sum_by w (change_from f (at + size x) xs a) + w c ≡ sum_by w xs + w (f c))
          → sum_by w (if b then f x ∷ xs else x ∷ change_from f (at + size x) xs a) + w c ≡ sum_by w (x ∷ xs) + w (f c)
      by_test true g rest =
          let same : x ≡ c = cc in
          let now = ap w same in
          let then' = ap (λ y. w (f y)) same in
          omega (arith, now, then', sum_by-cons w x xs, sum_by-cons w (f x) xs)
      by_test false g rest =
          omega (arith, rest g, sum_by-cons w x xs, sum_by-cons w x (change_from f (at + size x) xs a))

  module _ (keeps : (c : Cell) → size (f c) ≡ size c) where
    other_from : (at : ℕ) (cs : List Cell) (a b : ℕ) → a ≢ b → cell_from at (change_from f at cs a) b ≡ cell_from at cs b
    other_from at [] a b ne = refl
    other_from at (x ∷ xs) a b ne = by_test (a == at) refl (other_from (at + size x) xs a b ne)
      where
        later : (b == at) ≡ false → cell_from at (f x ∷ xs) b ≡ cell_from at (x ∷ xs) b
        later test = rw (test, keeps x) refl

        by_test : (t : Bool) → (a == at) ≡ t → cell_from (at + size x) (change_from f (at + size x) xs a) b ≡ cell_from (at + size x) xs b
            → cell_from at (if t then f x ∷ xs else x ∷ change_from f (at + size x) xs a) b ≡ cell_from at (x ∷ xs) b
        by_test true test rest = later (grind (arith, nat_tests))
        by_test false test rest = ap (λ o. if b == at then Some x else o) rest

    used_from : (at : ℕ) (cs : List Cell) (a : ℕ) → used_words (change_from f at cs a) ≡ used_words cs
    used_from at [] a = refl
    used_from at (x ∷ xs) a = by_test (a == at) (used_from (at + size x) xs a)
      where
        by_test : (t : Bool) → used_words (change_from f (at + size x) xs a) ≡ used_words xs
            → used_words (if t then f x ∷ xs else x ∷ change_from f (at + size x) xs a) ≡ used_words (x ∷ xs)
        by_test true rest = omega (arith, keeps x, sum_by-cons size (f x) xs, sum_by-cons size x xs)
        by_test false rest = omega (arith, rest, sum_by-cons size x (change_from f (at + size x) xs a), sum_by-cons size x xs)

-- two changes that make the same of the cell make the same of all
same_from : (f g : Cell → Cell) (at : ℕ) (cs : List Cell) (a : ℕ) (c : Cell) → cell_from at cs a ≡ Some c → f c ≡ g c → change_from f at cs a ≡ change_from g at cs a
same_from f g at [] a c e same = refl
same_from f g at (x ∷ xs) a c e same = by_test (a == at) e (same_from f g (at + size x) xs a c)
  where
    by_test : (b : Bool) → (if b then Some x else cell_from (at + size x) xs a) ≡ Some c
        → (cell_from (at + size x) xs a ≡ Some c → f c ≡ g c → change_from f (at + size x) xs a ≡ change_from g (at + size x) xs a)
        → (if b then f x ∷ xs else x ∷ change_from f (at + size x) xs a) ≡ (if b then g x ∷ xs else x ∷ change_from g (at + size x) xs a)
    by_test true h rest = let is : x ≡ c = cc in ap (λ y. y ∷ xs) (ap f is ∙ same ∙ sym (ap g is))
    by_test false h rest = ap (λ ys. x ∷ ys) (rest h same)

-- ---- blocks

pub same_in : (f g : Cell → Cell) (s : Cells) (a : Addr) (c : Cell) → cell_in s a ≡ Some c → f c ≡ g c → change_in f s a ≡ change_in g s a
same_in f g s a c e same = ap (λ cs. record s { cells = cs }) (same_from f g s.start s.cells a.number c e same)

pub range_in : (s : Cells) (a : Addr) (c : Cell) → cell_in s a ≡ Some c → (s.start ≤ a.number) × (a.number + size c ≤ s.start + used_words s.cells)
range_in s a c e = range_from s.start s.cells a.number c e

pub apart_in : (s : Cells) (a b : Addr) (c d : Cell) → cell_in s a ≡ Some c → cell_in s b ≡ Some d → a.number < b.number → a.number + size c ≤ b.number
apart_in s a b c d e e' less = apart_from s.start s.cells a.number b.number c d e e' less

none_by : (s : Cells) (a : Addr) (o : Option Cell) → cell_in s a ≡ o → (s.start ≤ a.number → a.number < s.start + used_words s.cells → ⊥) → cell_in s a ≡ None
none_by s a None e out = e
none_by s a (Some c) e out = let r = range_in s a c e in elim (out r.0 (omega (arith, r.1))) [ ]

-- outside the words that cells take no cell lies
pub none_in : (s : Cells) (a : Addr) → (s.start ≤ a.number → a.number < s.start + used_words s.cells → ⊥) → cell_in s a ≡ None
none_in s a out = none_by s a (cell_in s a) refl out

pub next_in : (s : Cells) → cell_in s (next_address s) ≡ None
next_in s = none_in s (next_address s) (λ low high. omega (arith, high))

pub last_in : (s : Cells) (c : Cell) → cell_in (with_last s c) (next_address s) ≡ Some c
last_in s c = last_from s.start s.cells c

pub kept_in : (s : Cells) (c : Cell) (a : Addr) (d : Cell) → cell_in s a ≡ Some d → cell_in (with_last s c) a ≡ Some d
kept_in s c a d e = kept_from s.start s.cells c d a.number e

pub was_in : (s : Cells) (c : Cell) (a : Addr) (d : Cell) → cell_in (with_last s c) a ≡ Some d → (cell_in s a ≡ Some d) ⊎ ((a.number ≡ s.start + used_words s.cells) × (d ≡ c))
was_in s c a d e = was_from s.start s.cells c d a.number e

pub used_last : (s : Cells) (c : Cell) → used_words (with_last s c).cells ≡ used_words s.cells + size c
used_last s c = omega (arith, sum_by-append size s.cells (c ∷ []), sum_by-cons size c [])

pub sum_last : (w : Cell → ℕ) (s : Cells) (c : Cell) → sum_by w (with_last s c).cells ≡ sum_by w s.cells + w c
sum_last w s c = omega (arith, sum_by-append w s.cells (c ∷ []), sum_by-cons w c [])

pub part_in : (w : Cell → ℕ) (s : Cells) (a : Addr) (c : Cell) → cell_in s a ≡ Some c → w c ≤ sum_by w s.cells
part_in w s a c e = part_from w s.start s.cells a.number c e

module _ (f : Cell → Cell) where
  pub own_in : (s : Cells) (a : Addr) (c : Cell) → cell_in s a ≡ Some c → cell_in (change_in f s a) a ≡ Some (f c)
  own_in s a c e = own_from f s.start s.cells a.number c e

  pub last_changed : (s : Cells) (c : Cell) → change_in f (with_last s c) (next_address s) ≡ with_last s (f c)
  last_changed s c = ap (λ cs. record s { cells = cs }) (changed_last f s.start s.cells c)

  pub unchanged_in : (s : Cells) (a : Addr) → cell_in s a ≡ None → change_in f s a ≡ s
  unchanged_in s a e = ap (λ cs. record s { cells = cs }) (none_from f s.start s.cells a.number e)

  pub sum_in : (w : Cell → ℕ) (s : Cells) (a : Addr) (c : Cell) → cell_in s a ≡ Some c → sum_by w (change_in f s a).cells + w c ≡ sum_by w s.cells + w (f c)
  sum_in w s a c e = sum_from f w s.start s.cells a.number c e

  module _ (keeps : (c : Cell) → size (f c) ≡ size c) where
    pub other_in : (s : Cells) (a b : Addr) → a.number ≢ b.number → cell_in (change_in f s a) b ≡ cell_in s b
    other_in s a b ne = other_from f keeps s.start s.cells a.number b.number ne

    pub used_in : (s : Cells) (a : Addr) → used_words (change_in f s a).cells ≡ used_words s.cells
    used_in s a = used_from f keeps s.start s.cells a.number
