-- A walk over the objects of a space that looks for an address.
use Rattle.std.proofs.Common.{◌≡◌, ◌≢◌, ℕ, ◌+◌, ◌<◌, ◌≤◌, true, false, refl, sym, ap, subst, ◌∙◌, arith}
use Rattle.std.specs.Prelude.{◌==◌, Option, Some, None, is_some, option_map}
use Rattle.std.proofs.lemmas.Bool.{eqb-false, eqb-true}
use Rattle.object_memory.specs.declared.addresses.Addr.{Addr}
use Rattle.object_memory.specs.Cells.{Cell, Cells, size, used_words, cell_from, cell_in, address_after_cell, begins_after}
use Rattle.object_memory.specs.Spaces.{IsOffset}
use Rattle.object_memory.proofs.Blocks.{apart_in, range_in}
use Rattle.object_memory.proofs.Offsets.{IsOffset-start, offset-following, offset-last}

-- a walk has reached an offset, and the object of an address, where there is one, lies there or after it
pub record IsAhead (s : Cells) (a : Addr) (at : ℕ) : Type 0 where
  pub offset : IsOffset s (s.start + at)
  pub ahead : (c : Cell) → cell_in s a ≡ Some c → s.start + at ≤ a.number

pub ahead_first : (s : Cells) (a : Addr) → IsAhead s a 0
ahead_first s a =
    let same : s.start ≡ s.start + 0 = omega arith in
    record { offset = subst (IsOffset s) same (IsOffset-start s); ahead = λ c lies. omega (arith, (range_in s a c lies).0) }

-- it stops at the object of the address
pub found_here : (s : Cells) (x a : Addr) (c : Cell) → cell_in s x ≡ Some c → (x.number == a.number) ≡ true → true ≡ is_some (cell_in s a)
found_here s x a c there same =
    let number : x.number ≡ a.number = eqb-true x.number a.number same in
    sym (ap is_some there) ∙ ap (λ n. is_some (cell_from s.start s.cells n)) number

none_begins : (s : Cells) (n : ℕ) → begins_after s n ≡ None → cell_in s (address_after_cell s n) ≡ None
none_begins s n e = by_cell (cell_in s (address_after_cell s n)) e
  where
    by_cell : (o : Option Cell) → option_map (λ (c : Cell). address_after_cell s n) o ≡ None → o ≡ None
    by_cell None e = refl
    by_cell (Some c) e = absurd cc

module _ (s : Cells) (a : Addr) (at : ℕ) (h : IsAhead s a at) where
  -- it passes an object of another address
  pub ahead_on : (x : Addr) (c : Cell) → x ≡ address_after_cell s at → cell_in s x ≡ Some c → (x.number == a.number) ≡ false → IsAhead s a (at + size c)
  ahead_on x c is there other =
      let apart : x.number ≢ a.number = eqb-false x.number a.number other in
      let here : cell_in s (record { number = s.start + at }) ≡ Some c = subst (λ y. cell_in s y ≡ Some c) is there in
      let number : x.number ≡ s.start + at = ap (λ (y : Addr). y.number) is in
      let following : s.start + at + size c ≡ s.start + (at + size c) = omega arith in
      record {
        offset = subst (IsOffset s) following (offset-following s (s.start + at) c h.offset here);
        ahead = λ d lies.
            let low : s.start + at ≤ a.number = h.ahead d lies in
            let less : x.number < a.number = omega (arith, low, number, apart) in
            omega (arith, number, apart_in s x a c d there lies less);
      }

  -- after all objects none is left
  pub ahead_last : begins_after s at ≡ None → is_some (cell_in s a) ≡ false
  ahead_last e = by_cell (cell_in s a) refl
    where
      end : s.start + at ≡ s.start + used_words s.cells
      end = offset-last s (s.start + at) h.offset (none_begins s at e)

      by_cell : (o : Option Cell) → cell_in s a ≡ o → is_some o ≡ false
      by_cell None is = refl
      by_cell (Some c) is = absurd (omega (arith, end, h.ahead c is, (range_in s a c is).1))
