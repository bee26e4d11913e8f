-- What the tests of addresses say of cells, and that what a thread may hold is closed under its loads.
use Rattle.std.proofs.Common.{◌≡◌, inl, inr, ℕ, Bool, true, false, [], refl, sym, ap, subst, ◌∙◌, arith}
use Rattle.std.specs.Prelude.{◌==◌, ◌||◌, ◌&&◌, not, if◌then◌else◌, nat_lt, is_some, Option, Some, None}
use Rattle.std.proofs.lemmas.Bool.{and_parts, not-true, or_cases, or_left, or_right}
use Rattle.std.proofs.lemmas.Bool.Decides.{nat_tests}
use Rattle.cil_model.specs.declared.phases.Phase.{Phase}
use Rattle.cil_model.specs.declared.phases.Phase.TheVariants.{Idle, Mark, Allocate, Copy, PreFlip, HeapFlip, ThreadFlip, Reclaim}
use Rattle.cil_model.specs.PhaseOrder.{is_between}
use Rattle.cil_model.specs.declared.trees.Tree.{Tree}
use Rattle.object_memory.specs.declared.addresses.Addr.{Addr}
use Rattle.object_memory.specs.declared.addresses.TheConstants.{FIRST_LITERAL}
use Rattle.object_memory.specs.declared.values.Value.{Value}
use Rattle.object_memory.specs.declared.values.Value.TheVariants.{Ref}
use Rattle.object_memory.specs.Cells.{Cell, Cells, cell_from, cell_in}
use Rattle.object_memory.specs.Spaces.{Spaces, AreSpaces, cell_at, is_old}
use Rattle.object_memory.proofs.TwoSpaces.TwoBlocks.{either, new_is_cell, not_new, not_old, old_is_cell, are_distinct}
use Rattle.phase_handshake.specs.Handshakes.{Handshakes}
use Rattle.phase_handshake.specs.declared.posts.Seat.{Seat}
use Rattle.collector.specs.References.{SlotsPass, Test, ValuePasses, is_permanent, reference_in}
use Rattle.collector.specs.Phases.{is_live, is_live_object, is_marked_address, is_marked_cell, is_marked_old, is_new, is_new_address, is_read}
use Rattle.collector.specs.Soundness.{AreCopied, IsSoundHeap}
use Rattle.collector.specs.Holds.{AnyLive, Hold, MarkedOnly, NewOnly, hold_of, is_flipping, is_marking, may_hold, passes, static_may_hold}
use Rattle.collector.specs.declared.progress.Progress.{Progress}
pub use Rattle.cil_model.proofs.SameLaws.{never}
use Rattle.std.proofs.lemmas.Option.{same_Some}

-- ---- what passes a test passes a weaker one

pub slots_weaken : (tree : Tree) (P Q : Test) → ((a : Addr) → P a ≡ true → Q a ≡ true) → (c : Cell) → SlotsPass tree P c → SlotsPass tree Q c
slots_weaken tree P Q f c h slot word there held = f (reference_in word) (h slot word there held)

pub value_weakens : (P Q : Test) → ((a : Addr) → P a ≡ true → Q a ≡ true) → (v : Value) → ValuePasses P v → ValuePasses Q v
value_weakens P Q f (Ref a) h = f a h
value_weakens P Q f _ h = tt

-- ---- the cells of tests

-- what is there, and where a marked cell is
pub some_there : {A : Type 0} (o : Option A) → is_some o ≡ true → (x : A) × (o ≡ Some x)
some_there None h = never h
some_there (Some x) h = (x, refl)

pub marked_there : (o : Option Cell) → is_marked_cell o ≡ true → (c : Cell) × (o ≡ Some c) × (c.marked ≡ true)
marked_there None h = never h
marked_there (Some c) h = (c, refl, h)

-- addresses of one number are one
pub same_address : (a b : Addr) → a.number ≡ b.number → a ≡ b
same_address a b e = ap (λ (n : ℕ). record { number = n }) e

-- and one cell lies there
pub same_cell : (s : Cells) (a b : Addr) (c d : Cell) → a.number ≡ b.number → cell_in s a ≡ Some c → cell_in s b ≡ Some d → c ≡ d
same_cell s a b c d e lies there = same_Some c d (sym lies ∙ ap (cell_in s) (same_address a b e) ∙ there)

module _ (m : Spaces) (a : Addr) where
  -- the cell of a marked address, an old one and a new one
  pub marked_cell : is_marked_old m a ≡ true → (c : Cell) × (cell_in m.old a ≡ Some c) × (c.marked ≡ true)
  marked_cell h = marked_there (cell_in m.old a) h

  pub old_cell : is_old m a ≡ true → (c : Cell) × (cell_in m.old a ≡ Some c)
  old_cell h = some_there (cell_in m.old a) h

  pub new_cell : is_new m a ≡ true → (c : Cell) × (cell_in m.new a ≡ Some c)
  new_cell h = some_there (cell_in m.new a) h

  module _ (c : Cell) where
    -- the tests at the address of a cell
    pub old_is : cell_in m.old a ≡ Some c → is_old m a ≡ true
    old_is e = rw e refl

    pub new_is : cell_in m.new a ≡ Some c → is_new m a ≡ true
    new_is e = rw e refl

    pub mark_is : cell_in m.old a ≡ Some c → is_marked_old m a ≡ c.marked
    mark_is e = rw e refl

  -- a marked one is old
  pub marked_is_old : is_marked_old m a ≡ true → is_old m a ≡ true
  marked_is_old h = let c = marked_cell h in old_is c.0 c.1

  -- where no new cells are, none is at an address
  pub none_is_new : m.new.cells ≡ [] → cell_in m.new a ≡ None
  none_is_new e = ap (λ cs. cell_from m.new.start cs a.number) e

module _ (m : Spaces) (spaces : AreSpaces m) (a : Addr) where
  -- no cell is null's or a literal's
  pub cell_not_permanent : (c : Cell) → cell_at m a ≡ Some c → is_permanent a ≡ false
  cell_not_permanent c e =
      let range = are_distinct m spaces a c e in
      let low = range.0 in
      let high = range.1 in
      let no_null : (a.number == 0) ≡ false = grind (arith, nat_tests) in
      let no_literal : nat_lt a.number FIRST_LITERAL ≡ true = grind (arith, nat_tests) in
      rw (no_null, no_literal) refl

  old_not_permanent : (c : Cell) → cell_in m.old a ≡ Some c → is_permanent a ≡ false
  old_not_permanent c e = cell_not_permanent c (old_is_cell m a c e)

  no_old_by : (o : Option Cell) → cell_in m.old a ≡ o → is_permanent a ≡ true → cell_in m.old a ≡ None
  no_old_by None e h = e
  no_old_by (Some c) e h = never (sym (old_not_permanent c e) ∙ h)

  pub permanent_not_old : is_permanent a ≡ true → cell_in m.old a ≡ None
  permanent_not_old h = no_old_by (cell_in m.old a) refl h

  -- no cell is old and new
  pub old_not_new : (c : Cell) → cell_in m.old a ≡ Some c → is_new m a ≡ false
  old_not_new c e = rw (not_new m spaces a c e) refl

  pub new_not_old : (c : Cell) → cell_in m.new a ≡ Some c → is_old m a ≡ false
  new_not_old c e = rw (not_old m spaces a c e) refl

  pub new_not_marked : (c : Cell) → cell_in m.new a ≡ Some c → is_marked_old m a ≡ false
  new_not_marked c e = rw (not_old m spaces a c e) refl

-- ---- what is live

-- from PreFlip on a new object is live
abbrev pub is_new_live : Phase → Bool
is_new_live p = is_between PreFlip Reclaim p

new_object_is_live : (posted_phase : Phase) (m : Spaces) (a : Addr) → is_new_live posted_phase ≡ true → is_new m a ≡ true → is_live_object posted_phase m a ≡ true
new_object_is_live PreFlip m a late h = or_right (is_marked_old m a) (is_new m a) h
new_object_is_live HeapFlip m a late h = or_right (is_marked_old m a) (is_new m a) h
new_object_is_live ThreadFlip m a late h = or_right (is_marked_old m a) (is_new m a) h
new_object_is_live Reclaim m a late h = h
new_object_is_live _ m a late h = never late

-- what is new is live from PreFlip on
pub new_is_live : (posted_phase : Phase) (m : Spaces) (a : Addr) → is_new_live posted_phase ≡ true → is_new_address m a ≡ true → is_live posted_phase m a ≡ true
new_is_live posted_phase m a late h = elim (or_cases (is_permanent a) (is_new m a) h) [
  | inl permanent ↦ or_left (is_permanent a) (is_live_object posted_phase m a) permanent
  | inr new ↦ or_right (is_permanent a) (is_live_object posted_phase m a) (new_object_is_live posted_phase m a late new)
]

-- what is marked is live in Mark
pub marked_is_live : (m : Spaces) (a : Addr) → is_marked_address m a ≡ true → is_live Mark m a ≡ true
marked_is_live m a h = elim (or_cases (is_permanent a) (is_marked_old m a) h) [
  | inl permanent ↦ or_left (is_permanent a) (is_old m a) permanent
  | inr marked ↦ or_right (is_permanent a) (is_old m a) (marked_is_old m a marked)
]

module _ (m : Spaces) (spaces : AreSpaces m) (a : Addr) (c : Cell) where
  marked_of : cell_in m.old a ≡ Some c → is_marked_old m a ≡ true → c.marked ≡ true
  marked_of e h = sym (mark_is m a c e) ∙ h

  marked_of_either : cell_in m.old a ≡ Some c → (is_marked_old m a || is_new m a) ≡ true → c.marked ≡ true
  marked_of_either e h = elim (or_cases (is_marked_old m a) (is_new m a) h) [
    | inl marked ↦ marked_of e marked
    | inr new ↦ never (sym (old_not_new m spaces a c e) ∙ new)
  ]

  old_object_is_read : (posted_phase : Phase) → cell_in m.old a ≡ Some c → is_live_object posted_phase m a ≡ true → is_read posted_phase c ≡ true
  old_object_is_read Idle e h = refl
  old_object_is_read Mark e h = refl
  old_object_is_read Allocate e h = marked_of e h
  old_object_is_read Copy e h = marked_of e h
  old_object_is_read Reclaim e h = never (sym (old_not_new m spaces a c e) ∙ h)
  old_object_is_read _ e h = marked_of_either e h

  new_object_is_late : (posted_phase : Phase) → cell_in m.new a ≡ Some c → is_live_object posted_phase m a ≡ true → is_new_live posted_phase ≡ true
  new_object_is_late Idle e h = never (sym (new_not_old m spaces a c e) ∙ h)
  new_object_is_late Mark e h = never (sym (new_not_old m spaces a c e) ∙ h)
  new_object_is_late Allocate e h = never (sym (new_not_marked m spaces a c e) ∙ h)
  new_object_is_late Copy e h = never (sym (new_not_marked m spaces a c e) ∙ h)
  new_object_is_late _ e h = refl

  -- a cell is live as an object alone
  pub live_object : (posted_phase : Phase) → cell_at m a ≡ Some c → is_live posted_phase m a ≡ true → is_live_object posted_phase m a ≡ true
  live_object posted_phase e h = elim (or_cases (is_permanent a) (is_live_object posted_phase m a) h) [
    | inl permanent ↦ never (sym (cell_not_permanent m spaces a c e) ∙ permanent)
    | inr live ↦ live
  ]

  -- a live old object is read, and a live new one is one of PreFlip or later
  pub live_is_read : (posted_phase : Phase) → cell_in m.old a ≡ Some c → is_live posted_phase m a ≡ true → is_read posted_phase c ≡ true
  live_is_read posted_phase e h = old_object_is_read posted_phase e (live_object posted_phase (old_is_cell m a c e) h)

  pub live_is_late : (posted_phase : Phase) → cell_in m.new a ≡ Some c → is_live posted_phase m a ≡ true → is_new_live posted_phase ≡ true
  live_is_late posted_phase e h = new_object_is_late posted_phase e (live_object posted_phase (new_is_cell m spaces a c e) h)

  -- a marked address of a cell is that of a marked old one, and a new address that of a new one
  pub marked_has_cell : cell_at m a ≡ Some c → is_marked_address m a ≡ true → (cell_in m.old a ≡ Some c) × (c.marked ≡ true)
  marked_has_cell e h = elim (either m a c e) [
    | inl old ↦ (old, marked_of old (marked_object e h))
    | inr new ↦ never (sym (new_not_marked m spaces a c new) ∙ marked_object e h)
  ]
    where
      marked_object : cell_at m a ≡ Some c → is_marked_address m a ≡ true → is_marked_old m a ≡ true
      marked_object e h = live_object Allocate e h

  pub new_has_cell : cell_at m a ≡ Some c → is_new_address m a ≡ true → cell_in m.new a ≡ Some c
  new_has_cell e h = elim (either m a c e) [
    | inl old ↦ never (sym (old_not_new m spaces a c old) ∙ live_object Reclaim e h)
    | inr new ↦ new
  ]

-- ---- loads

module _ (tree : Tree) (posted_phase : Phase) (p : Progress) (m : Spaces) (spaces : AreSpaces m) (copies : AreCopied tree posted_phase p m) (a : Addr) (c : Cell) where
  -- what a live object refers to is live
  pub live_loads : cell_at m a ≡ Some c → is_live posted_phase m a ≡ true → SlotsPass tree (is_live posted_phase m) c
  live_loads e h = elim (either m a c e) [
    | inl old ↦ copies.old_references a c old (live_is_read m spaces a c posted_phase old h)
    | inr new ↦
        let late = live_is_late m spaces a c posted_phase new h in
        slots_weaken tree (is_new_address m) (is_live posted_phase m) (λ b. new_is_live posted_phase m b late) c (copies.new_references a c new)
  ]

  -- what a new object refers to is new
  pub new_loads : cell_at m a ≡ Some c → is_new_address m a ≡ true → SlotsPass tree (is_new_address m) c
  new_loads e h = copies.new_references a c (new_has_cell m spaces a c e h)

-- what a marked object refers to is marked, where that is so of each old one
pub marked_loads : (tree : Tree) (m : Spaces) → AreSpaces m
    → ((a : Addr) (c : Cell) → cell_in m.old a ≡ Some c → c.marked ≡ true → SlotsPass tree (is_marked_address m) c)
    → (a : Addr) (c : Cell) → cell_at m a ≡ Some c → is_marked_address m a ≡ true → SlotsPass tree (is_marked_address m) c
marked_loads tree m spaces closed a c e h = let is = marked_has_cell m spaces a c e h in closed a c is.0 is.1

-- ---- what may be held

-- what it takes that only marked or only new objects are held
abbrev pub HoldMeans : (posted_phase : Phase) (has_round : Bool) → Spaces → Hold → Type 0
HoldMeans posted_phase has_round m AnyLive = Unit {0}
HoldMeans posted_phase has_round m MarkedOnly = (posted_phase ≡ Mark) × (has_round ≡ true) × (m.has_marked ≡ false)
HoldMeans posted_phase has_round m NewOnly = is_new_live posted_phase ≡ true

pub marking_is_mark : (posted_phase : Phase) → is_marking posted_phase ≡ true → posted_phase ≡ Mark
marking_is_mark Mark h = refl
marking_is_mark _ h = never h

pub flipping_is_late : (posted_phase : Phase) → is_flipping posted_phase ≡ true → is_new_live posted_phase ≡ true
flipping_is_late ThreadFlip h = refl
flipping_is_late Reclaim h = refl
flipping_is_late _ h = never h

module _ (h : Handshakes) (m : Spaces) (seat : Seat) where
  -- whether the thread holds marked objects alone, where it isn't flipped
  abbrev pub is_marked_only : Bool
  is_marked_only = is_marking h.posted_phase && (h.has_round && (seat.answered && not m.has_marked))

  pub means_marked : (b : Bool) → is_marked_only ≡ b → HoldMeans h.posted_phase h.has_round m (if b then MarkedOnly else AnyLive)
  means_marked false e = tt
  means_marked true e =
      let x = and_parts (is_marking h.posted_phase) (h.has_round && (seat.answered && not m.has_marked)) e in
      let y = and_parts h.has_round (seat.answered && not m.has_marked) x.1 in
      let z = and_parts seat.answered (not m.has_marked) y.1 in
      (marking_is_mark h.posted_phase x.0, y.0, not-true m.has_marked z.1)

  means_new : (b : Bool) → (is_flipping seat.phase && is_flipping h.posted_phase) ≡ b
      → HoldMeans h.posted_phase h.has_round m (if b then NewOnly else if is_marked_only then MarkedOnly else AnyLive)
  means_new false e = means_marked is_marked_only refl
  means_new true e = flipping_is_late h.posted_phase (and_parts (is_flipping seat.phase) (is_flipping h.posted_phase) e).1

  -- that is so of what a thread may hold
  pub hold_means : HoldMeans h.posted_phase h.has_round m (hold_of h m.has_marked seat)
  hold_means = means_new (is_flipping seat.phase && is_flipping h.posted_phase) refl

-- what is held is live
pub held_is_live : (posted_phase : Phase) (has_round : Bool) (m : Spaces) (hold : Hold) → HoldMeans posted_phase has_round m hold → (a : Addr)
    → passes hold posted_phase m a ≡ true → is_live posted_phase m a ≡ true
held_is_live posted_phase has_round m AnyLive means a h = h
held_is_live posted_phase has_round m MarkedOnly means a h = subst (λ x. is_live x m a ≡ true) (sym means.0) (marked_is_live m a h)
held_is_live posted_phase has_round m NewOnly means a h = new_is_live posted_phase m a means h

pub may_hold_live : (h : Handshakes) (m : Spaces) (seat : Seat) (a : Addr) → may_hold h m seat a ≡ true → is_live h.posted_phase m a ≡ true
may_hold_live h m seat a held = held_is_live h.posted_phase h.has_round m (hold_of h m.has_marked seat) (hold_means h m seat) a held

-- and so is what a static field holds
pub static_may_hold_live : (posted_phase : Phase) (m : Spaces) (p : Progress) (number : ℕ) (a : Addr) → static_may_hold posted_phase m p number a ≡ true
    → is_live posted_phase m a ≡ true
static_may_hold_live Mark m p number a h = by_scan p.scanned_statics h
  where
    by_scan : (b : Bool) → passes (if b then MarkedOnly else AnyLive) Mark m a ≡ true → is_live Mark m a ≡ true
    by_scan true h = marked_is_live m a h
    by_scan false h = h
static_may_hold_live HeapFlip m p number a h = by_flip (nat_lt number p.flipped_statics) h
  where
    by_flip : (b : Bool) → passes (if b then NewOnly else AnyLive) HeapFlip m a ≡ true → is_live HeapFlip m a ≡ true
    by_flip true h = new_is_live HeapFlip m a refl h
    by_flip false h = h
static_may_hold_live ThreadFlip m p number a h = new_is_live ThreadFlip m a refl h
static_may_hold_live Reclaim m p number a h = new_is_live Reclaim m a refl h
static_may_hold_live _ m p number a h = h

module _ (tree : Tree) (posted_phase : Phase) (has_round : Bool) (words : ℕ) (p : Progress) (m : Spaces) (sound : IsSoundHeap tree posted_phase has_round words p m) where
  -- what may be held is closed under loads
  pub loads_may_be_held : (hold : Hold) → HoldMeans posted_phase has_round m hold → (a : Addr) (cell : Cell) → passes hold posted_phase m a ≡ true
      → cell_at m a ≡ Some cell → SlotsPass tree (passes hold posted_phase m) cell
  loads_may_be_held AnyLive means a cell held is = live_loads tree posted_phase p m sound.blocks.spaces sound.copies a cell is held
  loads_may_be_held MarkedOnly means a cell held is = marked_loads tree m sound.blocks.spaces ((sound.marks means.0).closed means.1 means.2) a cell is held
  loads_may_be_held NewOnly means a cell held is = new_loads tree posted_phase p m sound.blocks.spaces sound.copies a cell is held
