-- The cells of two blocks: of the only one or the old one, and of the new one that they are copied into (this profile).
use Rattle.std.specs.Prelude.{◌≡◌, ◌⊎◌, ◌≤◌, ◌==◌, ◌||◌, ℕ, ◌+◌, ◌-◌, nat_le, min, if◌then◌else◌, Bool, true, false, List, [], ◌∷◌, ◌++◌, length, sum_by, is_some, ◌%◌, nat_lt, Option, Some, None, option_map, unwrap_or}
use Rattle.cil_model.specs.declared.limits.TheConstants.{MOST_WORDS}
use Rattle.cil_model.specs.declared.phases.Phase.{Phase}
use Rattle.cil_model.specs.declared.phases.Phase.TheVariants.{Idle, Mark, Allocate, Copy, PreFlip, HeapFlip, ThreadFlip, Reclaim}
use Rattle.cil_model.specs.PhaseOrder.{is_between}
use Rattle.object_memory.specs.declared.addresses.Addr.{Addr}
use Rattle.object_memory.specs.declared.addresses.TheConstants.{ADDRESSES}
use Rattle.object_memory.specs.declared.kinds.Kind.{Kind}
pub use Rattle.object_memory.specs.declared.birth_spaces.BirthSpace.{BirthSpace}
pub use Rattle.object_memory.specs.declared.birth_spaces.BirthSpace.TheVariants.{InOld, Listed, InBoth, InNew}
use Rattle.object_memory.specs.Cells.{Cell, Cells, size, used_words, free_words, literal_number, first, next_address, store_copies, cell_in, change_in, empty_cell, with_last}

-- Two blocks; the cells that are marked and still to be scanned, oldest first; whether a cell was marked since the newest round
-- began; and whether the second block is held. Where it isn't, the new block has no words.
pub record Spaces : Type 0 where
  pub old : Cells
  pub new : Cells
  pub grey : List Addr
  pub has_marked : Bool
  pub is_open : Bool

-- ---- addresses

-- the address of the first cell of the second of two blocks: the addresses of both lie apart, and below those of literals
abbrev pub second : ℕ
second = first + MOST_WORDS

-- the start of the other block
abbrev pub other_start : ℕ → ℕ
other_start s = first + second - s

-- the cell at an address, in the block where one lies there
abbrev pub first_of : {A : Type 0} → Option A → Option A → Option A
first_of None y = y
first_of (Some x) y = Some x

abbrev pub cell_at : Spaces → Addr → Option Cell
cell_at m a = first_of (cell_in m.old a) (cell_in m.new a)

abbrev pub slots_at : Spaces → Addr → List ℕ
slots_at m a = unwrap_or (option_map (λ (c : Cell). c.slots) (cell_at m a)) []

-- another cell in place of the one at an address
abbrev pub change_at : (Cell → Cell) → Spaces → Addr → Spaces
change_at f m a = record m { old = change_in f m.old a; new = change_in f m.new a }

-- what an address of a reference is: null, a literal's, or a cell's
abbrev pub is_there : Spaces → Addr → Bool
is_there m a = (a.number == 0) || (is_some (literal_number a) || is_some (cell_at m a))

abbrev pub IsThere : Spaces → Addr → Type 0
IsThere m a = is_there m a ≡ true

-- ---- what a heap is

-- cells that fit their block, whose addresses are those of the first or of the second block
pub record IsSpace (s : Cells) : Type 0 where
  pub start : (s.start ≡ first) ⊎ (s.start ≡ second)
  pub fits : used_words s.cells ≤ s.words
  pub few : s.words ≤ MOST_WORDS

-- two blocks with addresses of their own
pub record AreSpaces (m : Spaces) : Type 0 where
  pub old : IsSpace m.old
  pub new : IsSpace m.new
  pub apart : m.old.start + m.new.start ≡ first + second

-- ---- cells at the end

abbrev pub with_old : Spaces → Cell → Spaces
with_old m c = record m { old = with_last m.old c }

abbrev pub with_new : Spaces → Cell → Spaces
with_new m c = record m { new = with_last m.new c }

-- the grey list with one more
abbrev pub with_grey : Spaces → Addr → Spaces
with_grey m a = record m { grey = m.grey ++ a ∷ [] }

-- ---- births

-- In which block, by the own phase of the thread: in the old one, there and on the grey list, in both, or in the new one. A thread may be in the last
-- phase when the cycle is over: the new block is the only one then.
abbrev pub birth_space_of : Phase → Bool → BirthSpace
birth_space_of Idle is_open = InOld
birth_space_of Mark is_open = Listed
birth_space_of Allocate is_open = InBoth
birth_space_of Copy is_open = InBoth
birth_space_of PreFlip is_open = InBoth
birth_space_of HeapFlip is_open = InBoth
birth_space_of ThreadFlip is_open = InNew
birth_space_of Reclaim true = InNew
birth_space_of Reclaim false = InOld

-- whether a thread is in the phase only while a cycle is open
abbrev pub is_within_cycle : Phase → Bool
is_within_cycle p = is_between Mark ThreadFlip p

abbrev pub room_at : BirthSpace → Spaces → ℕ
room_at InOld m = free_words m.old
room_at Listed m = free_words m.old
room_at InBoth m = min (free_words m.old) (free_words m.new)
room_at InNew m = free_words m.new

-- the address of what is born: of its old copy where there are two
abbrev pub address_at : BirthSpace → Spaces → Addr
address_at InOld m = next_address m.old
address_at Listed m = next_address m.old
address_at InBoth m = next_address m.old
address_at InNew m = next_address m.new

abbrev pub give_birth : BirthSpace → Spaces → Kind → ℕ → Spaces
give_birth InOld m k n = with_old m (empty_cell k n false None)
give_birth Listed m k n = with_grey (with_old m (empty_cell k n true None)) (next_address m.old)
give_birth InBoth m k n =
    with_new (with_old m (empty_cell k n true (Some (next_address m.new)))) (empty_cell k n true (Some (next_address m.old)))
give_birth InNew m k n = with_new m (empty_cell k n false None)

-- a birth is refused exactly where the cell exceeds the room
abbrev pub birth_at : BirthSpace → Spaces → Kind → ℕ → Spaces × Option Addr
birth_at p m k n = if nat_le (3 + n) (room_at p m) then (give_birth p m k n, Some (address_at p m)) else (m, None)

-- by the own phase of the thread
abbrev pub birth : Phase → Spaces → Kind → ℕ → Spaces × Option Addr
birth f m k n = birth_at (birth_space_of f m.is_open) m k n

-- the words that a birth may take
abbrev pub room_for : Phase → Spaces → ℕ
room_for f m = room_at (birth_space_of f m.is_open) m

-- ---- marks and copies

abbrev pub other_of : Option Cell → Option Addr
other_of None = None
other_of (Some c) = c.other

-- the other copy of an old cell that has one, and otherwise the address itself
abbrev pub forward : Spaces → Addr → Addr
forward m a = unwrap_or (other_of (cell_in m.old a)) a

-- whether there is an old cell that isn't marked
abbrev pub is_white : Option Cell → Bool
is_white None = false
is_white (Some c) = if c.marked then false else true

abbrev pub set_mark : Cell → Cell
set_mark c = record c { marked = true }

-- an old cell that isn't marked is marked and put on the grey list
abbrev pub marked_if : Bool → Spaces → Addr → Spaces
marked_if false m a = m
marked_if true m a = record (with_grey (change_at set_mark m a) a) { has_marked = true }

abbrev pub mark : Spaces → Addr → Spaces × Bool
mark m a = (marked_if (is_white (cell_in m.old a)) m a, is_white (cell_in m.old a))

abbrev pub set_other : Addr → Cell → Cell
set_other b c = record c { other = Some b }

-- the copy of an old cell in the new block, before its words are copied
abbrev pub shell_of : Addr → Cell → Cell
shell_of a c = empty_cell c.kind (length c.slots) false (Some a)

abbrev pub with_shell : Spaces → Addr → Cell → Spaces
with_shell m a c = change_at (set_other (next_address m.new)) (with_new m (shell_of a c)) a

abbrev pub clear : Spaces → Addr → Spaces
clear m a = change_at (store_copies false None) m a

-- ---- cycles

-- a cycle begins with a second block of the given number of words
abbrev pub open_cycle : Spaces → ℕ → Spaces
open_cycle m words = record { old = m.old; new = record { start = other_start m.old.start; cells = []; words = words }; grey = []; has_marked = false; is_open = true }

-- it ends with the new block alone
abbrev pub close_cycle : Spaces → Spaces
close_cycle m = record { old = m.new; new = record { start = m.old.start; cells = []; words = 0 }; grey = []; has_marked = false; is_open = false }

-- ---- room

-- the words of a cell that has no other copy yet
abbrev pub size_if_no_copy : Option Addr → ℕ → ℕ
size_if_no_copy None n = n
size_if_no_copy (Some a) n = 0

abbrev pub size_without_copy : Cell → ℕ
size_without_copy c = size_if_no_copy c.other (size c)

abbrev pub words_without_copies : List Cell → ℕ
words_without_copies cs = sum_by size_without_copy cs

-- until the cells are copied the new block holds no more words than the old cells with other copies take
pub record HasShellRoom (m : Spaces) : Type 0 where
  pub words : used_words m.new.cells + words_without_copies m.old.cells ≤ used_words m.old.cells
  pub long : m.old.words ≤ m.new.words

-- a cell that isn't marked yet
abbrev pub count_if_white : Bool → ℕ
count_if_white true = 0
count_if_white false = 1

abbrev pub white : Cell → ℕ
white c = count_if_white c.marked

abbrev pub whites : List Cell → ℕ
whites cs = sum_by white cs

-- The grey list has room for `spare` further addresses: one for each cell that isn't marked, and for each that may be born. A cell has three words at
-- least.
abbrev pub HasGreyRoom : Cells → ℕ → Type 0
HasGreyRoom s spare = whites s.cells + whites s.cells + whites s.cells + free_words s ≤ spare + spare + spare + 2

-- ---- walks

-- where a cell begins, or the end of all: cells and their offsets in the order of addresses
pub record IsOffset (s : Cells) (p : ℕ) : Type 0 where
  pub before : List Cell
  pub after : List Cell
  pub split : s.cells ≡ before ++ after
  pub at : p ≡ s.start + used_words before

-- the address of the first cell with a property, at an offset or after it
abbrev pub found_from : (Cell → Bool) → ℕ → List Cell → ℕ → Option ℕ
found_from q at [] p = None
found_from q at (c ∷ cs) p = if nat_lt at p then found_from q (at + size c) cs p else if q c then Some at else found_from q (at + size c) cs p

abbrev pub found_in : (Cell → Bool) → Cells → ℕ → Option ℕ
found_in q s p = found_from q s.start s.cells p

-- a cell with two copies, whose words are to be copied
abbrev pub has_other : Cell → Bool
has_other c = is_some c.other

-- a cell with a mark or another copy, which is to be cleared
abbrev pub is_noted : Cell → Bool
is_noted c = if c.marked then true else is_some c.other

-- ---- stores

-- whether an old cell lies there
abbrev pub is_old : Spaces → Addr → Bool
is_old m a = is_some (cell_in m.old a)

-- a change of the cell at an address, where there is one
abbrev pub change_if : (Cell → Cell) → Spaces → Option Addr → Spaces
change_if f m None = m
change_if f m (Some b) = change_at f m b

-- a change of one copy of a cell, and of its other copy where there is one
abbrev pub change_copies : (Cell → Cell) → (Cell → Cell) → Spaces → Addr → Spaces
change_copies f g m a = change_if g (change_at f m a) (other_of (cell_at m a))

-- the word that holds the forward of the reference that a word holds
abbrev pub forward_word : Spaces → ℕ → ℕ
forward_word m w = (forward m (record { number = w % ADDRESSES })).number
