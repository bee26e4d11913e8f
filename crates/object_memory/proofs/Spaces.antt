-- The number of slots of an object, in whichever of the two blocks it lies.
use Rattle.std.proofs.Common.{◌≡◌, ◌≤◌, inl, inr, length, Some, arith}
use Rattle.cil_model.specs.declared.limits.TheConstants.{MOST_WORDS}
use Rattle.object_memory.specs.declared.addresses.Addr.{Addr}
use Rattle.object_memory.specs.Cells.{Cell, Cells, cell_in}
use Rattle.object_memory.specs.Spaces.{IsSpace, AreSpaces}
use Rattle.object_memory.specs.Objects.{Objects, object_cell}
use Rattle.object_memory.proofs.Blocks.{range_in}
use Rattle.object_memory.proofs.TwoSpaces.TwoBlocks.{either}

few_in : (s : Cells) → IsSpace s → (a : Addr) (cell : Cell) → cell_in s a ≡ Some cell → length cell.slots ≤ MOST_WORDS
few_in s h a cell lies = let range = range_in s a cell lies in omega (arith, range.0, range.1, h.fits, h.few)

-- no object has more slots than there may be words
pub slots_few : (o : Objects) → AreSpaces o.spaces → (a : Addr) (cell : Cell) → object_cell o a ≡ Some cell → length cell.slots ≤ MOST_WORDS
slots_few o h a cell lies = elim (either o.spaces a cell lies) [
  | inl old ↦ few_in o.spaces.old h.old a cell old
  | inr new ↦ few_in o.spaces.new h.new a cell new
]
