-- What is true of a heap in each phase of a cycle: of its blocks, of the two copies of an object, and of marks (Hudson and Moss, "Sapphire"; this
-- profile). It speaks of no object of the reference machine.
use Rattle.std.specs.Prelude.{◌≡◌, ◌≢◌, ◌⊎◌, ◌<◌, ◌≤◌, ◌+◌, ℕ, zero, suc, if◌then◌else◌, Bool, true, false, List, [], ◌∷◌, length, Some, None, slice_get, All}
use Rattle.cil_model.specs.declared.limits.TheConstants.{MOST_WORDS}
use Rattle.cil_model.specs.declared.phases.Phase.{Phase}
use Rattle.cil_model.specs.declared.phases.Phase.TheVariants.{Mark, Allocate, Copy, Reclaim}
use Rattle.cil_model.specs.declared.trees.Tree.{Tree}
use Rattle.object_memory.specs.declared.addresses.Addr.{Addr}
use Rattle.object_memory.specs.Cells.{Cell, cell_in}
use Rattle.object_memory.specs.Spaces.{Spaces, AreSpaces, HasShellRoom, IsOffset, forward_word, is_noted}
use Rattle.collector.specs.References.{SlotsPass, holds_reference, reference_in}
use Rattle.collector.specs.Attempts.{has_loaded, most_spent, attempt_cost}
use Rattle.collector.specs.Phases.{HasCopied, HasLooked, is_before_copies, is_live, is_marked_address, is_marked_old, is_new_address, is_of_cycle, is_read}
use Rattle.collector.specs.declared.progress.Progress.{Progress}
use Rattle.collector.specs.declared.progress.Stage.TheVariants.{Loaded, Stored}

-- ---- blocks

-- No block has more words than these; the second one is there while a cycle is open, no smaller than the first, and holds objects from Allocate on.
pub record AreBlocks (posted_phase : Phase) (words : ℕ) (m : Spaces) : Type 0 where
  pub few : words ≤ MOST_WORDS
  pub spaces : AreSpaces m
  pub held : m.is_open ≡ is_of_cycle posted_phase
  pub old_words : m.old.words ≤ words
  pub new_words : m.new.words ≤ (if is_of_cycle posted_phase then words else 0)
  pub grows : is_of_cycle posted_phase ≡ true → m.old.words ≤ m.new.words
  pub none_new : is_before_copies posted_phase ≡ true → m.new.cells ≡ []
  pub none_grey : is_of_cycle posted_phase ≡ false → m.grey ≡ []

-- ---- the two copies of an object

-- the word of a slot in the new copy: the forward of a reference, any other word as it is
abbrev pub copied_word : Tree → Spaces → Cell → (slot word : ℕ) → ℕ
copied_word tree m from slot word = if holds_reference tree from.kind slot then forward_word m word else word

abbrev pub IsCopiedSlot : Tree → Spaces → (from to : Cell) → ℕ → Type 0
IsCopiedSlot tree m from to slot = (word : ℕ) → slice_get from.slots slot ≡ Some word → slice_get to.slots slot ≡ Some (copied_word tree m from slot word)

-- a word of the new copy, the monitor or a slot's
abbrev pub IsCopiedWord : Tree → Spaces → (from to : Cell) → ℕ → Type 0
IsCopiedWord tree m from to zero = to.monitor ≡ from.monitor
IsCopiedWord tree m from to (suc slot) = IsCopiedSlot tree m from to slot

-- the collector has stored the word that comes next, and the old copy has what was loaded still
pub record HasStored (posted_phase : Phase) (p : Progress) (m : Spaces) (a : Addr) (from : Cell) (word : ℕ) : Type 0 where
  pub copying : posted_phase ≡ Copy
  pub here : a.number ≡ m.old.start + p.cursor
  pub next : word ≡ p.copied_words
  pub stored : p.attempt.stage ≡ Stored
  pub same : has_loaded p.attempt from word ≡ true

-- a word is in the new copy once it is copied, and before its check where that finds what was loaded
abbrev pub IsInCopy : Phase → Progress → Spaces → Addr → Cell → ℕ → Type 0
IsInCopy posted_phase p m a from word = HasCopied posted_phase p m a word ⊎ HasStored posted_phase p m a from word

-- an old object and its new copy, which has the words that are copied
pub record AreCopies (tree : Tree) (posted_phase : Phase) (p : Progress) (m : Spaces) (a : Addr) (from to : Cell) : Type 0 where
  pub kind : to.kind ≡ from.kind
  pub count : length to.slots ≡ length from.slots
  pub back : (posted_phase ≢ Reclaim) ⊎ (to.other ≢ None) → to.other ≡ Some a
  pub words : (word : ℕ) → IsInCopy posted_phase p m a from word → IsCopiedWord tree m from to word

pub record AreCopied (tree : Tree) (posted_phase : Phase) (p : Progress) (m : Spaces) : Type 0 where
  pub no_copy : (a : Addr) (c : Cell) → cell_in m.old a ≡ Some c → is_before_copies posted_phase ≡ true → c.other ≡ None
  pub unmarked : (a : Addr) (c : Cell) → cell_in m.old a ≡ Some c → is_of_cycle posted_phase ≡ false → c.marked ≡ false
  pub out : (a b : Addr) (c : Cell) → cell_in m.old a ≡ Some c → c.other ≡ Some b → (d : Cell) × (cell_in m.new b ≡ Some d) × AreCopies tree posted_phase p m a c d
  pub back : (a b : Addr) (d : Cell) → cell_in m.new b ≡ Some d → d.other ≡ Some a → (c : Cell) × (cell_in m.old a ≡ Some c) × (c.other ≡ Some b)
  pub shells : (a : Addr) (c : Cell) → cell_in m.old a ≡ Some c → c.marked ≡ true → HasLooked posted_phase p m a → c.other ≢ None
  pub marked_only : (a : Addr) (c : Cell) → cell_in m.old a ≡ Some c → c.other ≢ None → c.marked ≡ true
  pub old_references : (a : Addr) (c : Cell) → cell_in m.old a ≡ Some c → is_read posted_phase c ≡ true → SlotsPass tree (is_live posted_phase m) c
  pub new_references : (b : Addr) (d : Cell) → cell_in m.new b ≡ Some d → SlotsPass tree (is_new_address m) d
  pub room : (posted_phase ≡ Mark) ⊎ (posted_phase ≡ Allocate) → HasShellRoom m

-- ---- the cursor

-- While objects get their copies and their words, the collector is where an old object begins or after all of them; and only of an object with
-- another copy it may have copied a part of the words, or have begun with the next one, which takes few attempts.
pub record HasCursor (posted_phase : Phase) (p : Progress) (m : Spaces) : Type 0 where
  pub offset : (posted_phase ≡ Allocate) ⊎ (posted_phase ≡ Copy) → IsOffset m.old (m.old.start + p.cursor)
  pub attempts : posted_phase ≡ Copy → attempt_cost p.attempt ≤ most_spent
  pub words : posted_phase ≡ Copy → p.copied_words + attempt_cost p.attempt ≢ 0 →
      (c : Cell) × (cell_in m.old (record { number = m.old.start + p.cursor }) ≡ Some c) × (c.other ≢ None) × (p.copied_words ≤ length c.slots)

-- ---- what is loaded

-- While Copy is posted: what the collector has loaded of a slot that holds a reference refers to what is live, whatever the slot holds by now.
abbrev pub IsLoaded : Tree → Progress → Spaces → Type 0
IsLoaded tree p m =
    p.attempt.stage ≡ Loaded → (c : Cell) → cell_in m.old (record { number = m.old.start + p.cursor }) ≡ Some c →
    (slot : ℕ) → p.copied_words ≡ suc slot → holds_reference tree c.kind slot ≡ true → is_live Copy m (reference_in p.attempt.word) ≡ true

-- ---- marks

-- an address is on a list
abbrev pub IsListed : List Addr → Addr → Type 0
IsListed [] a = ⊥
IsListed (b ∷ bs) a = (b ≡ a) ⊎ IsListed bs a

-- While Mark is posted: each grey object is marked; a marked one that isn't grey refers to marked ones alone, and so does the oldest grey one as far
-- as it is scanned. Where a round was posted and nothing was marked since, each marked object refers to marked ones alone.
pub record AreMarked (tree : Tree) (has_round : Bool) (p : Progress) (m : Spaces) : Type 0 where
  pub listed : All (λ a. is_marked_old m a ≡ true) m.grey
  pub black : (a : Addr) (c : Cell) → cell_in m.old a ≡ Some c → c.marked ≡ true → IsListed m.grey a ⊎ SlotsPass tree (is_marked_address m) c
  pub fresh : m.grey ≡ [] → p.scanned_slots ≡ 0
  pub oldest : (g : Addr) (rest : List Addr) (c : Cell) → m.grey ≡ g ∷ rest → cell_in m.old g ≡ Some c →
      (slot word : ℕ) → slot < p.scanned_slots → slice_get c.slots slot ≡ Some word → holds_reference tree c.kind slot ≡ true → is_marked_address m (reference_in word) ≡ true
  pub closed : has_round ≡ true → m.has_marked ≡ false → (a : Addr) (c : Cell) → cell_in m.old a ≡ Some c → c.marked ≡ true → SlotsPass tree (is_marked_address m) c

-- ---- the end

-- While the new block is cleared, the collector is where a new object begins or after all of them, and the objects before have neither a mark nor
-- another copy.
pub record IsCleared (p : Progress) (m : Spaces) : Type 0 where
  pub offset : IsOffset m.new (m.new.start + p.cursor)
  pub objects : (b : Addr) (d : Cell) → cell_in m.new b ≡ Some d → b.number < m.new.start + p.cursor → is_noted d ≡ false

-- ---- the heap

pub record IsSoundHeap (tree : Tree) (posted_phase : Phase) (has_round : Bool) (words : ℕ) (p : Progress) (m : Spaces) : Type 0 where
  pub blocks : AreBlocks posted_phase words m
  pub copies : AreCopied tree posted_phase p m
  pub cursor : HasCursor posted_phase p m
  pub loaded : posted_phase ≡ Copy → IsLoaded tree p m
  pub marks : posted_phase ≡ Mark → AreMarked tree has_round p m
  pub cleared : posted_phase ≡ Reclaim → IsCleared p m
