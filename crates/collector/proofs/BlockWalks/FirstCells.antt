-- The first cell with a property from an offset on: where one is found, and where none is.
use Rattle.std.proofs.Common.{◌≡◌, ◌⊎◌, inl, inr, ℕ, ◌+◌, ◌<◌, ◌≤◌, Bool, true, false, List, [], ◌∷◌, refl, sym, ap, subst, ◌∙◌, arith}
use Rattle.std.specs.Prelude.{◌==◌, nat_lt, if◌then◌else◌, Some, None}
use Rattle.std.proofs.lemmas.Bool.Decides.{nat_tests}
use Rattle.std.proofs.lemmas.Option.{none-some, same_Some}
use Rattle.object_memory.specs.declared.addresses.Addr.{Addr}
use Rattle.object_memory.specs.Cells.{Cell, Cells, cell_from, cell_in, size}
use Rattle.object_memory.specs.Spaces.{found_from, found_in}
use Rattle.object_memory.proofs.Blocks.{range_in}

module _ (q : Cell → Bool) where
  -- the cell that is found has the property, and none between the offset and it has
  record FoundFrom (at : ℕ) (cs : List Cell) (p r : ℕ) : Type 0 where
    cell : Cell
    lies : cell_from at cs r ≡ Some cell
    holds : q cell ≡ true
    following : p ≤ r
    before : (a : ℕ) (d : Cell) → cell_from at cs a ≡ Some d → p ≤ a → a < r → q d ≡ false

  -- no cell lies before the first one
  low : (at : ℕ) (cs : List Cell) (a : ℕ) (d : Cell) → cell_from at cs a ≡ Some d → at ≤ a
  low at cs a d e = (range_in (record { start = at; cells = cs; words = 0 }) (record { number = a }) d e).0

  -- a cell is the first one, or one of the others, which lie after it
  first_or_later : (at : ℕ) (c : Cell) (cs : List Cell) (a : ℕ) (d : Cell) → cell_from at (c ∷ cs) a ≡ Some d → ((a ≡ at) × (c ≡ d)) ⊎ ((at < a) × (cell_from (at + size c) cs a ≡ Some d))
  first_or_later at c cs a d e = by_test (a == at) refl e
    where
      by_test : (t : Bool) → (a == at) ≡ t → (if t then Some c else cell_from (at + size c) cs a) ≡ Some d → ((a ≡ at) × (c ≡ d)) ⊎ ((at < a) × (cell_from (at + size c) cs a ≡ Some d))
      by_test true test g = inl ((let here : a ≡ at = grind (arith, nat_tests) in here), same_Some c d g)
      by_test false test g = inr (omega (arith, low (at + size c) cs a d g), g)

  -- the others lie where they lie without it
  later_lies : (at : ℕ) (c : Cell) (cs : List Cell) (a : ℕ) (d : Cell) → cell_from (at + size c) cs a ≡ Some d → cell_from at (c ∷ cs) a ≡ Some d
  later_lies at c cs a d e =
      let far = low (at + size c) cs a d e in
      let test : (a == at) ≡ false = grind (arith, nat_tests) in
      rw test e

  -- the first cell is passed over
  found_later : (at : ℕ) (c : Cell) (cs : List Cell) (p r : ℕ) → (at < p) ⊎ (q c ≡ false) → FoundFrom (at + size c) cs p r → FoundFrom at (c ∷ cs) p r
  found_later at c cs p r skip f = record {
    cell = f.cell;
    lies = later_lies at c cs r f.cell f.lies;
    holds = f.holds;
    following = f.following;
    before = λ a d e from upto. elim (first_or_later at c cs a d e) [
      | inl here ↦ elim skip [ inl early ↦ absurd (omega (arith, early, here.0, from)) | inr fails ↦ ap q (sym here.1) ∙ fails ]
      | inr later ↦ f.before a d later.1 from upto
    ];
  }

  -- the first cell is found
  found_first : (at : ℕ) (c : Cell) (cs : List Cell) (p : ℕ) → p ≤ at → q c ≡ true → FoundFrom at (c ∷ cs) p at
  found_first at c cs p from holds = record {
    cell = c;
    lies = (let test : (at == at) ≡ true = grind (arith, nat_tests) in rw test refl);
    holds = holds;
    following = from;
    before = λ a d e from' upto. absurd (omega (arith, low at (c ∷ cs) a d e, upto));
  }

  -- what is found in each list
  found_by : (at : ℕ) (cs : List Cell) (p r : ℕ) → found_from q at cs p ≡ Some r → FoundFrom at cs p r
  found_by at [] p r e = elim (none-some r e) [ ]
  found_by at (c ∷ cs) p r e = by_tests (nat_lt at p) (q c) refl refl e (found_by (at + size c) cs p r)
    where
      by_tests : (s t : Bool) → nat_lt at p ≡ s → q c ≡ t → (if s then found_from q (at + size c) cs p else if t then Some at else found_from q (at + size c) cs p) ≡ Some r
          → (found_from q (at + size c) cs p ≡ Some r → FoundFrom (at + size c) cs p r) → FoundFrom at (c ∷ cs) p r
      by_tests true t test holds g rest = found_later at c cs p r (inl (let early : at < p = grind (arith, nat_tests) in early)) (rest g)
      by_tests false true test holds g rest = subst (FoundFrom at (c ∷ cs) p) (same_Some at r g) (found_first at c cs p (let from : p ≤ at = grind (arith, nat_tests) in from) holds)
      by_tests false false test holds g rest = found_later at c cs p r (inr holds) (rest g)

  -- what is not found
  none_by : (at : ℕ) (cs : List Cell) (p : ℕ) → found_from q at cs p ≡ None → (a : ℕ) (d : Cell) → cell_from at cs a ≡ Some d → p ≤ a → q d ≡ false
  none_by at [] p e a d lies from = elim (none-some d lies) [ ]
  none_by at (c ∷ cs) p e a d lies from = by_tests (nat_lt at p) (q c) refl refl e (none_by (at + size c) cs p) (first_or_later at c cs a d lies)
    where
      by_tests : (s t : Bool) → nat_lt at p ≡ s → q c ≡ t → (if s then found_from q (at + size c) cs p else if t then Some at else found_from q (at + size c) cs p) ≡ None
          → (found_from q (at + size c) cs p ≡ None → (b : ℕ) (x : Cell) → cell_from (at + size c) cs b ≡ Some x → p ≤ b → q x ≡ false)
          → ((a ≡ at) × (c ≡ d)) ⊎ ((at < a) × (cell_from (at + size c) cs a ≡ Some d)) → q d ≡ false
      by_tests true t test holds g rest (inl here) = let early : at < p = grind (arith, nat_tests) in absurd (omega (arith, early, here.0, from))
      by_tests true t test holds g rest (inr later) = rest g a d later.1 from
      by_tests false true test holds g rest there = elim (none-some at (sym g)) [ ]
      by_tests false false test holds g rest (inl here) = ap q (sym here.1) ∙ holds
      by_tests false false test holds g rest (inr later) = rest g a d later.1 from

-- ---- blocks

-- where a walk stops there is a cell with the property, from the offset on, and none between
pub record IsFound (q : Cell → Bool) (s : Cells) (p r : ℕ) : Type 0 where
  pub cell : Cell
  pub lies : cell_in s (record { number = r }) ≡ Some cell
  pub holds : q cell ≡ true
  pub following : p ≤ r
  pub before : (a : Addr) (d : Cell) → cell_in s a ≡ Some d → p ≤ a.number → a.number < r → q d ≡ false

pub found_is : (q : Cell → Bool) (s : Cells) (p r : ℕ) → found_in q s p ≡ Some r → IsFound q s p r
found_is q s p r e =
    let f = found_by q s.start s.cells p r e in
    record { cell = f.cell; lies = f.lies; holds = f.holds; following = f.following; before = λ a d lies from upto. f.before a.number d lies from upto }

-- where it finds none, none from the offset on has it
pub none_found : (q : Cell → Bool) (s : Cells) (p : ℕ) → found_in q s p ≡ None → (a : Addr) (d : Cell) → cell_in s a ≡ Some d → p ≤ a.number → q d ≡ false
none_found q s p e a d lies from = none_by q s.start s.cells p e a.number d lies from
