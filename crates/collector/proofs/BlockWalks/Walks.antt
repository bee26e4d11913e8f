-- Walks over a block to the next cell with a property.
use Rattle.std.proofs.Common.{◌≡◌, ℕ, ◌+◌, ◌-◌, Bool, true, false, refl, sym, ap, subst, ◌∙◌, arith}
use Rattle.std.specs.Prelude.{is_some, Option, Some, None, option_map}
use Rattle.object_memory.specs.declared.addresses.Addr.{Addr}
use Rattle.object_memory.specs.Cells.{Cell, Cells, size, cell_in, address_after_cell, begins_after}
use Rattle.object_memory.specs.Spaces.{IsOffset, clear, found_in, is_noted}
use Rattle.object_memory.specs.Objects.{Objects}
use Rattle.object_memory.proofs.Offsets.{found_end, found_here, found_step, offset-following, offset-last}
use Rattle.collector.specs.Conditions.{found_at}
use Rattle.collector.specs.Flips.{clear_step_at, next_clear_step}
use Rattle.collector.specs.declared.progress.Progress.{Progress}
use Rattle.collector.specs.declared.walks.FoundObject.{FoundObject}

-- a walk has come from an offset to another, and passed no cell with the property
pub record HasPassed (q : Cell → Bool) (s : Cells) (from at : ℕ) : Type 0 where
  pub offset : IsOffset s (s.start + at)
  pub found : found_in q s (s.start + at) ≡ found_in q s (s.start + from)

none_begins : (s : Cells) (n : ℕ) → begins_after s n ≡ None → cell_in s (address_after_cell s n) ≡ None
none_begins s n e = by_cell (cell_in s (address_after_cell s n)) e
  where
    by_cell : (o : Option Cell) → option_map (λ (c : Cell). address_after_cell s n) o ≡ None → o ≡ None
    by_cell None e = refl
    by_cell (Some c) e = absurd cc

module _ (q : Cell → Bool) (s : Cells) (from at : ℕ) (h : HasPassed q s from at) where
  module _ (a : Addr) (c : Cell) (is : a ≡ address_after_cell s at) (there : cell_in s a ≡ Some c) where
    here : cell_in s (record { number = s.start + at }) ≡ Some c
    here = subst (λ x. cell_in s x ≡ Some c) is there

    -- a cell without the property is passed
    pub passed : q c ≡ false → HasPassed q s from (at + size c)
    passed fails =
        let following : s.start + at + size c ≡ s.start + (at + size c) = omega arith in
        record {
          offset = subst (IsOffset s) following (offset-following s (s.start + at) c h.offset here);
          found = ap (found_in q s) (sym following) ∙ sym (found_step q s (s.start + at) c here fails) ∙ h.found;
        }

    -- one with the property is found
    pub found_now : q c ≡ true → ◌≡◌ {A = Option FoundObject} (Some (record { offset = at; object = a })) (option_map (found_at s) (found_in q s (s.start + from)))
    found_now holds =
        let where' : at ≡ s.start + at - s.start = omega arith in
        let one : ◌≡◌ {A = FoundObject} (record { offset = at; object = a }) (record { offset = s.start + at - s.start; object = address_after_cell s at }) =
        ap (λ (n : ℕ). record { offset = n; object = a }) where' ∙ ap (λ (x : Addr). record { offset = s.start + at - s.start; object = x }) is in
        ap Some one ∙ sym (ap (option_map (found_at s)) (sym h.found ∙ found_here q s (s.start + at) c here holds))

  -- at the end there is none
  pub found_none : begins_after s at ≡ None → ◌≡◌ {A = Option FoundObject} None (option_map (found_at s) (found_in q s (s.start + from)))
  found_none e =
      let end = offset-last s (s.start + at) h.offset (none_begins s at e) in
      sym (ap (option_map (found_at s)) (sym h.found ∙ ap (found_in q s) end ∙ found_end q s))

-- what was found determines where
pub found_is : (s : Cells) (f : FoundObject) (o : Option ℕ) → ◌≡◌ {A = Option FoundObject} (Some f) (option_map (found_at s) o) → f ≡ found_at s f.object.number
found_is s f None e = absurd cc
found_is s f (Some at) e =
    let same : f ≡ found_at s at = cc in
    let number : f.object.number ≡ at = ap (λ (x : FoundObject). x.object.number) same in
    same ∙ ap (found_at s) (sym number)

-- ---- what is noted

pub noted_marked : (c : Cell) → c.marked ≡ true → is_noted c ≡ true
noted_marked c e = rw e refl

pub noted_unmarked : (c : Cell) → c.marked ≡ false → is_noted c ≡ is_some c.other
noted_unmarked c e = rw e refl

-- ---- a step of Reclaim

abbrev Outcome : Type 0
Outcome = Progress × Objects × Bool

pub cleared_done : (p : Progress) (o : Objects) (f : FoundObject) (c : Cell) → ◌≡◌ {A = Option FoundObject} (Some f) (option_map (found_at o.spaces.new) (found_in is_noted o.spaces.new (o.spaces.new.start + p.cursor)))
    → cell_in o.spaces.new f.object ≡ Some c → ◌≡◌ {A = Outcome} (record p { cursor = f.offset + size c }, record o { spaces = clear o.spaces f.object }, true) (next_clear_step p o)
cleared_done p o f c found at = by_found (found_in is_noted o.spaces.new (o.spaces.new.start + p.cursor)) found
  where
    by_found : (x : Option ℕ) → ◌≡◌ {A = Option FoundObject} (Some f) (option_map (found_at o.spaces.new) x)
        → ◌≡◌ {A = Outcome} (record p { cursor = f.offset + size c }, record o { spaces = clear o.spaces f.object }, true) (clear_step_at p o x)
    by_found None e = absurd cc
    by_found (Some n) e =
        let same : f ≡ found_at o.spaces.new n = cc in
        let object : f.object ≡ record { number = n } = ap (λ (x : FoundObject). x.object) same in
        let there : cell_in o.spaces.new (record { number = n }) ≡ Some c = subst (λ a. cell_in o.spaces.new a ≡ Some c) object at in
        rw there (ap (λ (x : FoundObject). (record p { cursor = x.offset + size c }, record o { spaces = clear o.spaces x.object }, true)) same)
