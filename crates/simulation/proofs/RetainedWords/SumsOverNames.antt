-- Where each cell has a number of its own on a list, the cells have no more words together than the list has.
use Rattle.std.proofs.Common.{◌≡◌, ◌+◌, ◌≤◌, ℕ, Bool, true, false, if◌then◌else◌, List, [], ◌∷◌, Some, refl, ap, ◌∙◌, arith}
use Rattle.std.specs.Prelude.{◌==◌, ◌||◌, nat_eq, sum_by}
use Rattle.std.specs.List.{AllByRecursion, IsDistinct, list_any}
use Rattle.std.proofs.lemmas.Bool.Decides.{nat_tests}
use Rattle.std.proofs.lemmas.List.Sums.{sum_by-cons}
use Rattle.interpreter.specs.object_memory.Cells.{Cell, cell_from, size, used_words}
use Rattle.interpreter.proofs.object_memory.Blocks.{range_in}

-- ---- numbers on a list

-- whether a number is on a list
abbrev pub is_listed : List ℕ → ℕ → Bool
is_listed names n = list_any (λ k. n == k) names

-- the list without a number
others : ℕ → List ℕ → List ℕ
others n [] = []
others n (k ∷ ks) = if n == k then others n ks else k ∷ others n ks

module _ (f : ℕ → ℕ) where
  less_without : (n : ℕ) (ks : List ℕ) → sum_by f (others n ks) ≤ sum_by f ks
  unfolding others
  less_without n [] = omega arith
  less_without n (k ∷ ks) = by_test (n == k) (less_without n ks)
    where
      by_test : (t : Bool) → sum_by f (others n ks) ≤ sum_by f ks → sum_by f (if t then others n ks else k ∷ others n ks) ≤ sum_by f (k ∷ ks)
      by_test true later = omega (arith, later, sum_by-cons f k ks)
      by_test false later = omega (arith, later, sum_by-cons f k ks, sum_by-cons f k (others n ks))

  -- its own share is gone
  own_share : (n : ℕ) (ks : List ℕ) → is_listed ks n ≡ true → f n + sum_by f (others n ks) ≤ sum_by f ks
  unfolding others
  own_share n [] e = absurd cc
  own_share n (k ∷ ks) e = by_test (n == k) refl e (own_share n ks)
    where
      by_test : (t : Bool) → (n == k) ≡ t → (t || is_listed ks n) ≡ true → (is_listed ks n ≡ true → f n + sum_by f (others n ks) ≤ sum_by f ks) → f n + sum_by f (if t then others n ks else k ∷ others n ks) ≤ sum_by f (k ∷ ks)
      by_test true test h later =
          let same : n ≡ k = grind (arith, nat_tests) in
          let share : f n ≡ f k = ap f same in
          omega (arith, share, less_without n ks, sum_by-cons f k ks)
      by_test false test h later = omega (arith, later h, sum_by-cons f k ks, sum_by-cons f k (others n ks))

-- and the other numbers are on it still
still_listed : (n m : ℕ) (ks : List ℕ) → (m == n) ≡ false → is_listed ks m ≡ true → is_listed (others n ks) m ≡ true
unfolding others
still_listed n m [] apart e = e
still_listed n m (k ∷ ks) apart e = by_tests (n == k) (m == k) refl refl e (still_listed n m ks apart)
  where
    by_tests : (t u : Bool) → (n == k) ≡ t → (m == k) ≡ u → (u || is_listed ks m) ≡ true → (is_listed ks m ≡ true → is_listed (others n ks) m ≡ true) → is_listed (if t then others n ks else k ∷ others n ks) m ≡ true
    by_tests true true test test' h later =
        let same : n ≡ k = grind (arith, nat_tests) in
        let same' : m ≡ k = grind (arith, nat_tests) in
        absurd (grind (arith, nat_tests))
    by_tests true false test test' h later = later h
    by_tests false true test test' h later = ap (λ b. b || is_listed (others n ks) m) test'
    by_tests false false test test' h later = ap (λ b. b || is_listed (others n ks) m) test' ∙ later h

-- distinct numbers that are all on a list have no larger sum than the list
pub distinct_sum : (f : ℕ → ℕ) (ns names : List ℕ) → IsDistinct nat_eq ns → AllByRecursion (λ n. is_listed names n ≡ true) ns → sum_by f ns ≤ sum_by f names
unfolding IsDistinct
distinct_sum f [] names distinct each = omega arith
distinct_sum f (n ∷ ns) names distinct each =
    let rest : sum_by f ns ≤ sum_by f (others n names) = distinct_sum f ns (others n names) distinct.1 (still_each ns distinct.0 each.1) in
    omega (arith, rest, own_share f n names each.0, sum_by-cons f n ns)
  where
    apart : (m : ℕ) → (n == m) ≡ false → (m == n) ≡ false
    apart m test = grind (arith, nat_tests)

    still_each : (ms : List ℕ) → AllByRecursion (λ m. (n == m) ≡ false) ms → AllByRecursion (λ m. is_listed names m ≡ true) ms → AllByRecursion (λ m. is_listed (others n names) m ≡ true) ms
    still_each [] h k = tt
    still_each (m ∷ ms) h k = (still_listed n m names (apart m h.0) k.0, still_each ms h.1 k.1)

-- ---- cells with numbers

-- each cell's number is on the list and has its words, and no two cells have one
pub record HaveIds (f number : ℕ → ℕ) (names : List ℕ) (at : ℕ) (cs : List Cell) : Type 0 where
  pub own : (a : ℕ) (c : Cell) → cell_from at cs a ≡ Some c → (f (number a) ≡ size c) × (is_listed names (number a) ≡ true)
  pub one : (a b : ℕ) (c d : Cell) → cell_from at cs a ≡ Some c → cell_from at cs b ≡ Some d → number a ≡ number b → a ≡ b

module _ (f number : ℕ → ℕ) where
  -- the first cell
  first_lies : (at : ℕ) (c : Cell) (cs : List Cell) → cell_from at (c ∷ cs) at ≡ Some c
  first_lies at c cs = let test : (at == at) ≡ true = grind (arith, nat_tests) in ap (λ b. if b then Some c else cell_from (at + size c) cs at) test

  -- any other
  later_lies : (at : ℕ) (c : Cell) (cs : List Cell) (a : ℕ) (d : Cell) → cell_from (at + size c) cs a ≡ Some d → ((a == at) ≡ false) × (cell_from at (c ∷ cs) a ≡ Some d)
  later_lies at c cs a d is =
      let following : at + size c ≤ a = (range_in (record { start = at + size c; cells = cs; words = 0 }) (record { number = a }) d is).0 in
      let test : (a == at) ≡ false = grind (arith, nat_tests, following) in
      (test, ap (λ b. if b then Some c else cell_from (at + size c) cs a) test ∙ is)

  pub words_by_id : (names : List ℕ) (at : ℕ) (cs : List Cell) → HaveIds f number names at cs → used_words cs ≤ sum_by f names
  words_by_id names at [] h = omega arith
  words_by_id names at (c ∷ cs) h =
      let own = h.own at c (first_lies at c cs) in
      let rest : used_words cs ≤ sum_by f (others (number at) names) = words_by_id (others (number at) names) (at + size c) cs (record { own = own_later; one = one_later }) in
      omega (arith, rest, own.0, own_share f (number at) names own.1, sum_by-cons size c cs)
    where
      own_later : (a : ℕ) (d : Cell) → cell_from (at + size c) cs a ≡ Some d → (f (number a) ≡ size d) × (is_listed (others (number at) names) (number a) ≡ true)
      own_later a d is =
          let there = later_lies at c cs a d is in
          let own = h.own a d there.1 in
          (own.0, still_listed (number at) (number a) names (by_test (number a == number at) refl there) own.1)
        where
          by_test : (t : Bool) → (number a == number at) ≡ t → ((a == at) ≡ false) × (cell_from at (c ∷ cs) a ≡ Some d) → (number a == number at) ≡ false
          by_test false test there = test
          by_test true test there =
              let same : number a ≡ number at = grind (arith, nat_tests) in
              let one : a ≡ at = h.one a at d c there.1 (first_lies at c cs) same in
              absurd (grind (arith, nat_tests, one, there.0))

      one_later : (a b : ℕ) (d e : Cell) → cell_from (at + size c) cs a ≡ Some d → cell_from (at + size c) cs b ≡ Some e → number a ≡ number b → a ≡ b
      one_later a b d e is is' same = h.one a b d e (later_lies at c cs a d is).1 (later_lies at c cs b e is').1 same
