-- Stores to an object of two copies: the old one changes in one way and the new one in another, through the address of either.
use Rattle.std.proofs.Common.{◌≡◌, ◌≢◌, Bool, sym, ap, ◌∙◌}
use Rattle.std.specs.Prelude.{if◌then◌else◌, is_some, Option, Some, None}
use Rattle.object_memory.specs.declared.addresses.Addr.{Addr}
use Rattle.object_memory.specs.Cells.{Cell, Cells, size, cell_in, change_in}
use Rattle.object_memory.specs.Spaces.{Spaces, AreSpaces, change_at, change_copies, change_if, other_of}
use Rattle.object_memory.specs.Objects.{Objects}
use Rattle.object_memory.proofs.Blocks.{other_in, unchanged_in}
use Rattle.object_memory.proofs.TwoSpaces.TwoBlocks.{apart, new_is_cell, not_new, not_old, old_is_cell}
use Rattle.barriers.specs.Barriers.{with_both}

-- the two copies of an object, each of which holds the other's address
pub record AreTwins (m : Spaces) (a b : Addr) (c d : Cell) : Type 0 where
  pub old : cell_in m.old a ≡ Some c
  pub new : cell_in m.new b ≡ Some d
  pub out : c.other ≡ Some b
  pub back : d.other ≡ Some a

-- the old copy changed in one way, and the new one in another
abbrev pub with_twins : (Cell → Cell) → (Cell → Cell) → Objects → Addr → Addr → Objects
with_twins f g o a b = record o { spaces = record o.spaces { old = change_in f o.spaces.old a; new = change_in g o.spaces.new b } }

module _ (f g : Cell → Cell) (keeps : (c : Cell) → size (f c) ≡ size c) (keeps' : (c : Cell) → size (g c) ≡ size c)
    (o : Objects) (h : AreSpaces o.spaces) (a b : Addr) (c d : Cell) (twins : AreTwins o.spaces a b c d) where
  abbrev m : Spaces
  m = o.spaces

  ne : a.number ≢ b.number
  ne = apart m h a b c d twins.old twins.new

  -- no old copy lies at the new one's address, and no new one at the old one's
  no_old : cell_in m.old b ≡ None
  no_old = not_old m h b d twins.new

  no_new : cell_in m.new a ≡ None
  no_new = not_new m h a c twins.old

  -- both blocks, by what became of each
  both : (x y : Cells) → x ≡ change_in f m.old a → y ≡ change_in g m.new b → record o { spaces = record m { old = x; new = y } } ≡ with_twins f g o a b
  both x y e e' = ap (λ (s : Cells). record o { spaces = record m { old = s; new = y } }) e ∙ ap (λ (s : Cells). record o { spaces = record m { old = change_in f m.old a; new = s } }) e'

  -- through the old address
  old_then_new : record o { spaces = change_at g (change_at f m a) b } ≡ with_twins f g o a b
  old_then_new =
      both (change_in g (change_in f m.old a) b) (change_in g (change_in f m.new a) b)
      (unchanged_in g (change_in f m.old a) b (other_in f keeps m.old a b ne ∙ no_old))
      (ap (λ (s : Cells). change_in g s b) (unchanged_in f m.new a no_new))

  pub through_old : with_both f g o a ≡ with_twins f g o a b
  through_old =
      ap (λ (t : Bool). record o { spaces = if t then change_copies f g m a else change_copies g f m a }) (ap is_some twins.old)
      ∙ ap (λ (r : Option Addr). record o { spaces = change_if g (change_at f m a) r }) (ap other_of (old_is_cell m a c twins.old) ∙ twins.out)
      ∙ old_then_new

  -- through the new one
  new_then_old : record o { spaces = change_at f (change_at g m b) a } ≡ with_twins f g o a b
  new_then_old =
      both (change_in f (change_in g m.old b) a) (change_in f (change_in g m.new b) a)
      (ap (λ (s : Cells). change_in f s a) (unchanged_in g m.old b no_old))
      (unchanged_in f (change_in g m.new b) a (other_in g keeps' m.new b a (λ e. ne (sym e)) ∙ no_new))

  pub through_new : with_both f g o b ≡ with_twins f g o a b
  through_new =
      ap (λ (t : Bool). record o { spaces = if t then change_copies f g m b else change_copies g f m b }) (ap is_some no_old)
      ∙ ap (λ (r : Option Addr). record o { spaces = change_if f (change_at g m b) r }) (ap other_of (new_is_cell m h b d twins.new) ∙ twins.back)
      ∙ new_then_old
