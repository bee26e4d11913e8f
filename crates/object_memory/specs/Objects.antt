-- What a heap holds: the cells of its blocks, and the monitors of the literals, which lie in no block and take no words of one (this profile).
use Rattle.std.specs.Prelude.{ℕ, List, [], replicate, Bool, false, Option, Some, None, option_map, slice_get, slice_set, is_some}
use Rattle.std.specs.Option.{option_map_or}
use Rattle.cil_model.specs.declared.phases.Phase.{Phase}
use Rattle.object_memory.specs.declared.addresses.Addr.{Addr}
use Rattle.object_memory.specs.declared.kinds.Kind.{Kind}
use Rattle.object_memory.specs.declared.monitors.Monitor.{Monitor}
use Rattle.object_memory.specs.declared.monitors.Monitor.TheVariants.{Free}
use Rattle.object_memory.specs.declared.heap.Cycle.{Cycle}
use Rattle.object_memory.specs.Cells.{Cell, Cells, used_words, no_cells, literal_number, store_slot, store_monitor}
use Rattle.object_memory.specs.Spaces.{Spaces, AreSpaces, HasGreyRoom, other_start, cell_at, slots_at, change_at, BirthSpace, birth_at, birth, mark}

-- the cells, and the monitor of each literal in place of the literal's number
pub record Objects : Type 0 where
  pub spaces : Spaces
  pub literals : List Monitor

-- ---- how a heap holds its blocks

-- the second block and the grey list are there while a cycle is open; otherwise the new block has no words
abbrev pub new_of : Cells → Option Cycle → Cells
new_of old None = record { start = other_start old.start; cells = []; words = 0 }
new_of old (Some c) = c.to

abbrev pub list_of : Option Cycle → List Addr
list_of None = []
list_of (Some c) = c.grey.waiting

abbrev pub marked_of : Option Cycle → Bool
marked_of None = false
marked_of (Some c) = c.has_marked

abbrev pub spaces_of : Cells → Option Cycle → Spaces
spaces_of old cycle = record { old = old; new = new_of old cycle; grey = list_of cycle; has_marked = marked_of cycle; is_open = is_some cycle }

-- while a cycle is open, the grey list has room
abbrev pub HasRoomToMark : Cells → Option Cycle → Type 0
HasRoomToMark old None = Unit {0}
HasRoomToMark old (Some c) = HasGreyRoom old c.grey.spare

pub record IsHeld (old : Cells) (cycle : Option Cycle) : Type 0 where
  pub spaces : AreSpaces (spaces_of old cycle)
  pub room : HasRoomToMark old cycle

-- ---- what is there

-- a block without cells, and this number of literals, which no thread has entered
abbrev pub no_objects : (words literals : ℕ) → Objects
no_objects words literals = record { spaces = spaces_of (no_cells words) None; literals = replicate literals Free }

-- the cell of the object at an address
abbrev pub object_cell : Objects → Addr → Option Cell
object_cell o a = cell_at o.spaces a

-- the words of its fields or elements
abbrev pub object_slots : Objects → Addr → List ℕ
object_slots o a = slots_at o.spaces a

-- the words of the old space, which is the only one between cycles; those that objects take there, and those that none takes
abbrev pub whole_space : Objects → ℕ
whole_space o = o.spaces.old.words

abbrev pub used_space : Objects → ℕ
used_space o = used_words o.spaces.old.cells

-- ---- births, marks and stores

-- a birth in a space
abbrev pub with_birth_at : BirthSpace → Objects → Kind → ℕ → Objects × Option Addr
with_birth_at p o k n = (record o { spaces = (birth_at p o.spaces k n).0 }, (birth_at p o.spaces k n).1)

-- a birth by the own phase of the thread
abbrev pub with_birth : Phase → Objects → Kind → ℕ → Objects × Option Addr
with_birth f o k n = (record o { spaces = (birth f o.spaces k n).0 }, (birth f o.spaces k n).1)

abbrev pub with_mark : Objects → Addr → Objects × Bool
with_mark o a = (record o { spaces = (mark o.spaces a).0 }, (mark o.spaces a).1)

-- another cell in place of the one at an address
abbrev pub with_cell : (Cell → Cell) → Objects → Addr → Objects
with_cell f o a = record o { spaces = change_at f o.spaces a }

abbrev pub with_slot : Objects → Addr → (i w : ℕ) → Objects
with_slot o a i w = with_cell (store_slot i w) o a

-- ---- monitors

abbrev pub with_literal_monitor : Objects → Monitor → ℕ → Objects
with_literal_monitor o m n = record o { literals = slice_set o.literals n m }

-- the monitor of the literal or the cell at an address
abbrev pub monitor_at : Objects → Addr → Option Monitor
monitor_at o a = option_map_or (slice_get o.literals) (literal_number a) (option_map (λ (c : Cell). c.monitor) (object_cell o a))

-- another monitor of the literal or the cell at an address
abbrev pub with_monitor : Objects → Addr → Monitor → Objects
with_monitor o a m = option_map_or (with_literal_monitor o m) (literal_number a) (with_cell (store_monitor m) o a)
