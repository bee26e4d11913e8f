-- Offsets of a block: where a cell lies there is one, and it stays one where a cell changes.
use Rattle.std.proofs.Common.{◌≡◌, ℕ, ◌+◌, Bool, true, false, List, [], ◌∷◌, ◌++◌, refl, ap, ◌∙◌, arith}
use Rattle.std.specs.Prelude.{◌==◌, if◌then◌else◌, Some}
use Rattle.std.proofs.lemmas.List.Sums.{sum_by-cons}
use Rattle.std.proofs.lemmas.Bool.Decides.{nat_tests}
use Rattle.object_memory.specs.declared.addresses.Addr.{Addr}
use Rattle.object_memory.specs.Cells.{Cell, Cells, size, used_words, cell_from, change_from, cell_in, change_in}
use Rattle.object_memory.specs.Spaces.{IsOffset}

-- a list in two parts, of which the first one takes this number of words
abbrev Parts : List Cell → ℕ → Type 0
Parts cs words = (xs : List Cell) × (ys : List Cell) × (cs ≡ xs ++ ys) × (used_words xs ≡ words)

module _ (f : Cell → Cell) (keeps : (c : Cell) → size (f c) ≡ size c) where
  parts_changed : (at : ℕ) (before after : List Cell) (a : ℕ) → Parts (change_from f at (before ++ after) a) (used_words before)
  parts_changed at [] after a = ([], change_from f at after a, refl, refl)
  parts_changed at (d ∷ ds) after a = by_test (a == at) (parts_changed (at + size d) ds after a)
    where
      by_test : (t : Bool) → Parts (change_from f (at + size d) (ds ++ after) a) (used_words ds)
          → Parts (if t then f d ∷ (ds ++ after) else d ∷ change_from f (at + size d) (ds ++ after) a) (used_words (d ∷ ds))
      by_test true rest = (f d ∷ ds, after, refl, omega (arith, keeps d, sum_by-cons size (f d) ds, sum_by-cons size d ds))
      by_test false rest = (d ∷ rest.0, rest.1, ap (λ cs. d ∷ cs) rest.2, omega (arith, rest.3, sum_by-cons size d rest.0, sum_by-cons size d ds))

  -- an offset stays one where a cell changes
  pub IsOffset-change : (s : Cells) (a : Addr) (p : ℕ) → IsOffset s p → IsOffset (change_in f s a) p
  IsOffset-change s a p h =
      let r = parts_changed s.start h.before h.after a.number in
      record { before = r.0; after = r.1; split = ap (λ cs. change_from f s.start cs a.number) h.split ∙ r.2; at = omega (arith, h.at, r.3) }

offset_from : (at : ℕ) (cs : List Cell) (a : ℕ) (c : Cell) → cell_from at cs a ≡ Some c → (xs : List Cell) × (ys : List Cell) × (cs ≡ xs ++ ys) × (a ≡ at + used_words xs)
offset_from at [] a c e = absurd cc
offset_from at (x ∷ xs) a c e = by_test (a == at) refl e (offset_from (at + size x) xs a c)
  where
    by_test : (t : Bool) → (a == at) ≡ t → (if t then Some x else cell_from (at + size x) xs a) ≡ Some c
        → (cell_from (at + size x) xs a ≡ Some c → (us : List Cell) × (vs : List Cell) × (xs ≡ us ++ vs) × (a ≡ at + size x + used_words us))
        → (us : List Cell) × (vs : List Cell) × (x ∷ xs ≡ us ++ vs) × (a ≡ at + used_words us)
    by_test true test g rest = ([], x ∷ xs, refl, (let here : a ≡ at = grind (arith, nat_tests) in omega (arith, here)))
    by_test false test g rest = let r = rest g in (x ∷ r.0, r.1, ap (λ cs. x ∷ cs) r.2, omega (arith, r.3, sum_by-cons size x r.0))

-- where a cell lies is an offset
pub IsOffset-cell : (s : Cells) (a : Addr) (c : Cell) → cell_in s a ≡ Some c → IsOffset s a.number
IsOffset-cell s a c e = let r = offset_from s.start s.cells a.number c e in record { before = r.0; after = r.1; split = r.2; at = r.3 }
