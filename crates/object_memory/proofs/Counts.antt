-- No change that keeps how many slots a cell has changes how many there are at an address.
use Rattle.std.proofs.Common.{◌≡◌, ℕ, ◌+◌, List, [], length, refl, sym, ap}
use Rattle.std.specs.Prelude.{Option, Some, None, IsSome, option_map, unwrap_or}
use Rattle.object_memory.specs.declared.addresses.Addr.{Addr}
use Rattle.object_memory.specs.Cells.{Cell, Cells, size, cell_in, slots_in}
use Rattle.object_memory.specs.Spaces.{Spaces, cell_at, slots_at, change_at}
use Rattle.object_memory.proofs.ChangedCells.{kept_at}

-- how many slots the cell has; none where there is none
abbrev count_of : Option Cell → Option ℕ
count_of o = option_map (λ (c : Cell). length c.slots) o

abbrev slots_of : Option Cell → List ℕ
slots_of o = unwrap_or (option_map (λ (c : Cell). c.slots) o) []

same_slots : (o o' : Option Cell) → count_of o' ≡ count_of o → length (slots_of o') ≡ length (slots_of o)
same_slots None None e = refl
same_slots (Some c) (Some d) e = cc
same_slots _ _ e = absurd cc

some_count : (o o' : Option Cell) → count_of o' ≡ count_of o → IsSome o → IsSome o'
some_count (Some c) (Some d) e some = refl
some_count _ _ e some = absurd cc

module _ (f : Cell → Cell) (keeps : (c : Cell) → length (f c).slots ≡ length c.slots) (m : Spaces) (a b : Addr) where
  counted : count_of (cell_at (change_at f m a) b) ≡ count_of (cell_at m b)
  counted = kept_at (λ c. length c.slots) f (λ c. ap (λ n. 3 + n) (keeps c)) keeps m a b

  pub change-count : length (slots_at (change_at f m a) b) ≡ length (slots_at m b)
  change-count = same_slots (cell_at m b) (cell_at (change_at f m a) b) counted

  -- what lies somewhere lies there still
  pub change-there : IsSome (cell_at m b) → IsSome (cell_at (change_at f m a) b)
  change-there some = some_count (cell_at m b) (cell_at (change_at f m a) b) counted some

-- the words of a cell, by the number of its slots
pub size_decoded : (s : Cells) (a : Addr) (n : ℕ) → IsSome (cell_in s a) → n ≡ length (slots_in s a) → option_map size (cell_in s a) ≡ Some (3 + n)
size_decoded s a n some is = by_cell (cell_in s a) some is
  where
    by_cell : (o : Option Cell) → IsSome o → n ≡ length (unwrap_or (option_map (λ (c : Cell). c.slots) o) []) → option_map size o ≡ Some (3 + n)
    by_cell None there e = absurd cc
    by_cell (Some c) there e = ap (λ k. Some (3 + k)) (sym e)
