-- What each posted phase of a cycle says of the heap: which addresses are live, which objects have their copies, and how far the collector is (Hudson
-- and Moss, "Sapphire"; this profile).
use Rattle.std.specs.Prelude.{◌≡◌, ◌<◌, ◌⊎◌, ◌+◌, ℕ, ◌||◌, Bool, true, false, is_some, Option, Some, None}
use Rattle.cil_model.specs.declared.phases.Phase.{Phase}
use Rattle.cil_model.specs.declared.phases.Phase.TheVariants.{Idle, Mark, Allocate, Copy, PreFlip, HeapFlip, ThreadFlip, Reclaim}
use Rattle.cil_model.specs.PhaseOrder.{is_between}
use Rattle.object_memory.specs.declared.addresses.Addr.{Addr}
use Rattle.object_memory.specs.Cells.{Cell, cell_in}
use Rattle.object_memory.specs.Spaces.{Spaces, is_old}
use Rattle.collector.specs.References.{Test, is_permanent}
use Rattle.collector.specs.Attempts.{no_attempt}
use Rattle.collector.specs.declared.progress.Progress.{Progress}

-- ---- how far

-- nothing is done
abbrev pub no_progress : Progress
no_progress = record { scanned_statics = false; scanned_slots = 0; cursor = 0; copied_words = 0; attempt = no_attempt; flipped_statics = 0 }

-- whether a cycle is open while a phase is posted
abbrev pub is_of_cycle : Phase → Bool
is_of_cycle p = is_between Mark Reclaim p

-- until Allocate is posted no object has a copy
abbrev pub is_before_copies : Phase → Bool
is_before_copies p = is_between Idle Mark p

-- ---- what is marked, and what is new

abbrev pub is_marked_cell : Option Cell → Bool
is_marked_cell None = false
is_marked_cell (Some c) = c.marked

abbrev pub is_marked_old : Spaces → Test
is_marked_old m a = is_marked_cell (cell_in m.old a)

-- null, a literal, or a marked object of the old block
abbrev pub is_marked_address : Spaces → Test
is_marked_address m a = is_permanent a || is_marked_old m a

abbrev pub is_new : Spaces → Test
is_new m a = is_some (cell_in m.new a)

-- null, a literal, or an object of the new block
abbrev pub is_new_address : Spaces → Test
is_new_address m a = is_permanent a || is_new m a

-- ---- what is live

-- An object of a block that threads, static fields and other live objects may refer to while a phase is posted: any until Allocate is; then a
-- marked one, and from PreFlip on a new one too; while Reclaim is posted a new one alone.
abbrev pub is_live_object : Phase → Spaces → Test
is_live_object Idle m a = is_old m a
is_live_object Mark m a = is_old m a
is_live_object Allocate m a = is_marked_old m a
is_live_object Copy m a = is_marked_old m a
is_live_object PreFlip m a = is_marked_old m a || is_new m a
is_live_object HeapFlip m a = is_marked_old m a || is_new m a
is_live_object ThreadFlip m a = is_marked_old m a || is_new m a
is_live_object Reclaim m a = is_new m a

-- null and literals are live always
abbrev pub is_live : Phase → Spaces → Test
is_live posted_phase m a = is_permanent a || is_live_object posted_phase m a

-- whether an object of the old block is still read: any until Allocate is posted, a marked one until Reclaim is
abbrev pub is_read : Phase → Cell → Bool
is_read Idle c = true
is_read Mark c = true
is_read Allocate c = c.marked
is_read Copy c = c.marked
is_read PreFlip c = c.marked
is_read HeapFlip c = c.marked
is_read ThreadFlip c = c.marked
is_read Reclaim c = false

-- ---- what the collector has done

-- whether it has looked for the copy of the old object at an address
abbrev pub HasLooked : Phase → Progress → Spaces → Addr → Type 0
HasLooked Idle p m a = ⊥
HasLooked Mark p m a = ⊥
HasLooked Allocate p m a = a.number < m.old.start + p.cursor
HasLooked Copy p m a = Unit {0}
HasLooked PreFlip p m a = Unit {0}
HasLooked HeapFlip p m a = Unit {0}
HasLooked ThreadFlip p m a = Unit {0}
HasLooked Reclaim p m a = Unit {0}

-- whether it has copied a word of the old object at an address, its monitor or 1 more than a slot's number; in Copy those of the objects before its cursor, and
-- of the object that is there those that it has counted as copied
abbrev pub HasCopied : Phase → Progress → Spaces → Addr → ℕ → Type 0
HasCopied Idle p m a word = ⊥
HasCopied Mark p m a word = ⊥
HasCopied Allocate p m a word = ⊥
HasCopied Copy p m a word = (a.number < m.old.start + p.cursor) ⊎ ((a.number ≡ m.old.start + p.cursor) × (word < p.copied_words))
HasCopied PreFlip p m a word = Unit {0}
HasCopied HeapFlip p m a word = Unit {0}
HasCopied ThreadFlip p m a word = Unit {0}
HasCopied Reclaim p m a word = ⊥
