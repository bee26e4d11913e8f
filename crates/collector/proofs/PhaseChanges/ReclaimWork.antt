-- The work of Reclaim keeps a heap sound, and at its end the new block alone is a sound heap between cycles.
use Rattle.std.proofs.Common.{◌≡◌, ◌⊎◌, inl, inr, ℕ, ◌+◌, ◌-◌, ◌<◌, ◌≤◌, Bool, true, false, refl, sym, ap, subst, ◌∙◌, arith}
use Rattle.std.specs.Prelude.{nat_lt, is_some, if◌then◌else◌, Option, Some, None}
use Rattle.std.specs.Option.{option_map_or}
use Rattle.std.proofs.lemmas.Bool.Decides.{nat_tests}
use Rattle.std.proofs.lemmas.Option.{none-some, same_Some}
use Rattle.cil_model.specs.declared.phases.Phase.TheVariants.{Idle, Reclaim}
use Rattle.cil_model.specs.declared.trees.Tree.{Tree}
use Rattle.object_memory.specs.declared.addresses.Addr.{Addr}
use Rattle.object_memory.specs.Cells.{Cell, cell_in, change_in, size, store_copies}
use Rattle.object_memory.specs.Spaces.{AreSpaces, Spaces, IsOffset, cell_at, clear, close_cycle, found_in, is_noted}
use Rattle.object_memory.specs.Objects.{Objects, object_cell}
use Rattle.object_memory.proofs.Blocks.{range_in}
use Rattle.object_memory.proofs.Offsets.{at_offset, below_next, cell, end}
use Rattle.object_memory.proofs.TwoSpaces.TwoBlocks.{AreSpaces-change, AreSpaces-closed, IsAfter, after_in, before_in, change-new_alone, closed-new, either, new_is_cell, old_is_cell, own, still}
use Rattle.collector.specs.References.{SlotsPass}
use Rattle.collector.proofs.BlockWalks.ChangedBlocks.{IsOffset-cell, IsOffset-change}
use Rattle.collector.proofs.BlockWalks.CollectorOffsets.{HasCursor-begun, HasCursor-else}
use Rattle.collector.specs.Phases.{is_new_address, no_progress}
use Rattle.collector.specs.Soundness.{AreBlocks, IsCleared, AreCopied, AreCopies, IsSoundHeap}
use Rattle.collector.specs.Flips.{clear_step_at, next_clear_step, retire_old}
use Rattle.collector.specs.Holds.{Hold, passes}
use Rattle.collector.specs.declared.progress.Progress.{Progress}
use Rattle.collector.proofs.Addresses.GrowingBlocks.{TestsStay, new_stays, passes_stays}
use Rattle.collector.proofs.BlockWalks.FirstCells.{IsFound, found_is, none_found}
use Rattle.collector.proofs.Addresses.Tests.{slots_weaken, some_there}
use Rattle.collector.proofs.PhaseChanges.LaterPhases.{AreBlocks-kept}

-- a cell without mark and other copy
abbrev cleared_cell : Cell → Cell
cleared_cell c = store_copies false None c

-- it keeps its size
cleared_size : (c : Cell) → size (cleared_cell c) ≡ size c
cleared_size c = refl

-- two cells show the same, whatever the collector notes at them
pub record ShowsSame (c d : Cell) : Type 0 where
  pub kind : d.kind ≡ c.kind
  pub slots : d.slots ≡ c.slots
  pub monitor : d.monitor ≡ c.monitor

-- ---- one object is cleared

module _ (tree : Tree) (has_round : Bool) (words : ℕ) (p : Progress) (m : Spaces) (sound : IsSoundHeap tree Reclaim has_round words p m)
    (at : ℕ) (found : IsFound is_noted m.new (m.new.start + p.cursor) at) where
  abbrev there : Addr
  there = record { number = at }

  -- the new block alone changes
  abbrev m' : Spaces
  m' = record m { new = change_in cleared_cell m.new there }

  abbrev p' : Progress
  p' = record p { cursor = at - m.new.start + size found.cell }

  -- a clearing is that change
  clear_is : clear m there ≡ m'
  clear_is = change-new_alone cleared_cell m sound.blocks.spaces there found.cell found.lies

  -- each new cell is the one that it was, or that one cleared
  after : (b : Addr) (d : Cell) → cell_in m'.new b ≡ Some d → (c : Cell) × (cell_in m.new b ≡ Some c) × IsAfter cleared_cell there b c d
  after b d e = after_in cleared_cell cleared_size m.new there b d e

  before : (b : Addr) (c : Cell) → cell_in m.new b ≡ Some c → (d : Cell) × (cell_in m'.new b ≡ Some d) × IsAfter cleared_cell there b c d
  before b c e = before_in cleared_cell cleared_size m.new there b c e

  -- what is old, marked or new stays so
  stays : TestsStay m m'
  stays = record {
    old = λ a e. e;
    marked = λ a e. e;
    new = λ a e. (let c = some_there (cell_in m.new a) e in ap is_some (before a c.0 c.1).1);
  }

  -- the blocks are as they should be
  clear_blocks : AreBlocks Reclaim words m'
  clear_blocks =
      AreBlocks-kept Reclaim Reclaim words m m' sound.blocks refl (subst AreSpaces clear_is (AreSpaces-change cleared_cell cleared_size m there sound.blocks.spaces)) refl refl refl
      (λ e. absurd cc) sound.blocks.none_grey

  -- copies have nothing to show any more
  cleared_copies : (a : Addr) (c d : Cell) → AreCopies tree Reclaim p m a c d → AreCopies tree Reclaim p' m' a c (cleared_cell d)
  cleared_copies a c d are = record {
    kind = are.kind;
    count = are.count;
    back = λ e. elim e [ inl ne ↦ elim (ne refl) [ ] | inr some ↦ elim (some refl) [ ] ];
    words = λ word e. elim e [ inl done ↦ elim done [ ] | inr stored ↦ (let wrong = stored.copying in absurd cc) ];
  }

  -- copies elsewhere are copies still
  same_copies : (a : Addr) (c d : Cell) → AreCopies tree Reclaim p m a c d → AreCopies tree Reclaim p' m' a c d
  same_copies a c d are = record {
    kind = are.kind;
    count = are.count;
    back = are.back;
    words = λ word e. elim e [ inl done ↦ elim done [ ] | inr stored ↦ (let wrong = stored.copying in absurd cc) ];
  }

  -- in each case
  copies_then : (a b : Addr) (c d d' : Cell) → IsAfter cleared_cell there b d d' → AreCopies tree Reclaim p m a c d → AreCopies tree Reclaim p' m' a c d'
  copies_then a b c d d' (own same equal) are = subst (AreCopies tree Reclaim p' m' a c) (sym equal) (cleared_copies a c d are)
  copies_then a b c d d' (still ne equal) are = subst (AreCopies tree Reclaim p' m' a c) (sym equal) (same_copies a c d are)

  -- each old object that refers to a copy has it
  clear_out : (a b : Addr) (c : Cell) → cell_in m'.old a ≡ Some c → c.other ≡ Some b → (d : Cell) × (cell_in m'.new b ≡ Some d) × AreCopies tree Reclaim p' m' a c d
  clear_out a b c lies other =
      let was = sound.copies.out a b c lies other in
      let now = before b was.0 was.1 in
      (now.0, now.1, copies_then a b c was.0 now.0 now.2 was.2)

  -- each new object that refers to an old one is its copy
  clear_back : (a b : Addr) (d : Cell) → cell_in m'.new b ≡ Some d → d.other ≡ Some a → (c : Cell) × (cell_in m'.old a ≡ Some c) × (c.other ≡ Some b)
  clear_back a b d lies other = let was = after b d lies in by_after was.0 was.1 was.2
    where
      by_after : (c : Cell) → cell_in m.new b ≡ Some c → IsAfter cleared_cell there b c d → (x : Cell) × (cell_in m.old a ≡ Some x) × (x.other ≡ Some b)
      by_after c was (own same equal) = elim (none-some a (sym (ap (λ (y : Cell). y.other) equal) ∙ other)) [ ]
      by_after c was (still ne equal) = sound.copies.back a b c was (sym (ap (λ (y : Cell). y.other) equal) ∙ other)

  -- the new block refers to nothing old
  clear_references : (b : Addr) (d : Cell) → cell_in m'.new b ≡ Some d → SlotsPass tree (is_new_address m') d
  clear_references b d lies = let was = after b d lies in by_after was.0 was.1 was.2
    where
      further : (c : Cell) → cell_in m.new b ≡ Some c → SlotsPass tree (is_new_address m') c
      further c was = slots_weaken tree (is_new_address m) (is_new_address m') (new_stays m m' stays) c (sound.copies.new_references b c was)

      by_after : (c : Cell) → cell_in m.new b ≡ Some c → IsAfter cleared_cell there b c d → SlotsPass tree (is_new_address m') d
      by_after c was (own same equal) = subst (SlotsPass tree (is_new_address m')) (sym equal) (further c was)
      by_after c was (still ne equal) = subst (SlotsPass tree (is_new_address m')) (sym equal) (further c was)

  -- all before the next cursor are cleared
  objects_cleared : (b : Addr) (d : Cell) → cell_in m'.new b ≡ Some d → b.number < m'.new.start + p'.cursor → is_noted d ≡ false
  objects_cleared b d lies less = let was = after b d lies in by_after was.0 was.1 was.2
    where
      early : (c : Cell) → cell_in m.new b ≡ Some c → b.number < at → is_noted c ≡ false
      early c was under = by_index (nat_lt b.number (m.new.start + p.cursor)) refl
        where
          by_index : (t : Bool) → nat_lt b.number (m.new.start + p.cursor) ≡ t → is_noted c ≡ false
          by_index true test = (sound.cleared refl).objects b c was (let near : b.number < m.new.start + p.cursor = grind (arith, nat_tests) in near)
          by_index false test = found.before b c was (let far : m.new.start + p.cursor ≤ b.number = grind (arith, nat_tests) in far) under

      near : b.number < at + size found.cell
      near = omega (arith, less, (range_in m.new there found.cell found.lies).0)

      by_after : (c : Cell) → cell_in m.new b ≡ Some c → IsAfter cleared_cell there b c d → is_noted d ≡ false
      by_after c was (own same equal) = ap is_noted equal
      by_after c was (still ne equal) = ap is_noted equal ∙ elim (below_next m.new at found.cell found.lies b c was near) [
        | inl under ↦ early c was under
        | inr here ↦ elim (ne (sym here)) [ ]
      ]

  -- all of it together
  -- which is where an object begins, or after all of them
  next_offset : IsOffset m.new (m.new.start + p'.cursor)
  next_offset = elim (at_offset m.new at (IsOffset-cell m.new there found.cell found.lies)) [
    | cell d lies following ↦ (
        let is : size d ≡ size found.cell = ap size (same_Some d found.cell (sym lies ∙ found.lies)) in
        let far : at + size d ≡ m.new.start + p'.cursor = (let range = range_in m.new there found.cell found.lies in omega (arith, is, range.0)) in
        subst (IsOffset m.new) far following)
    | end is ↦ absurd (omega (arith, is, (range_in m.new there found.cell found.lies).1))
  ]

  clear_cleared : IsCleared p' m'
  clear_cleared = record { offset = IsOffset-change cleared_cell cleared_size m.new there (m.new.start + p'.cursor) next_offset; objects = objects_cleared }

  clear_copied : AreCopied tree Reclaim p' m'
  clear_copied = record {
    no_copy = λ a c lies e. absurd cc;
    unmarked = λ a c lies e. absurd cc;
    out = clear_out;
    back = clear_back;
    shells = λ a c lies marked e. sound.copies.shells a c lies marked e;
    marked_only = sound.copies.marked_only;
    old_references = λ a c lies e. absurd cc;
    new_references = clear_references;
    room = λ e. elim e [ inl is ↦ absurd cc | inr is ↦ absurd cc ];
  }

  -- the heap is sound
  one_sound : IsSoundHeap tree Reclaim has_round words p' (clear m there)
  one_sound = subst (IsSoundHeap tree Reclaim has_round words p') (sym clear_is) (record { blocks = clear_blocks; copies = clear_copied; cursor = HasCursor-else Reclaim p' m' (λ is. absurd cc) (λ is. absurd cc); loaded = λ is. absurd cc; marks = λ is. absurd cc; cleared = λ is. clear_cleared })

  -- what is old, marked or new stays so
  one_stays : TestsStay m (clear m there)
  one_stays = subst (TestsStay m) (sym clear_is) stays

  -- ---- what an object shows

  -- its kind, its slots and its monitor
  one_shows : (b : Addr) (c : Cell) → cell_at m b ≡ Some c → (d : Cell) × (cell_at (clear m there) b ≡ Some d) × ShowsSame c d
  one_shows b c lies = subst (λ x. (d : Cell) × (cell_at x b ≡ Some d) × ShowsSame c d) (sym clear_is) (by_block (either m b c lies))
    where
      shows : (d : Cell) → IsAfter cleared_cell there b c d → ShowsSame c d
      shows d (own same equal) = subst (ShowsSame c) (sym equal) (record { kind = refl; slots = refl; monitor = refl })
      shows d (still ne equal) = subst (ShowsSame c) (sym equal) (record { kind = refl; slots = refl; monitor = refl })

      by_block : (cell_in m.old b ≡ Some c) ⊎ (cell_in m.new b ≡ Some c) → (d : Cell) × (cell_at m' b ≡ Some d) × ShowsSame c d
      by_block (inl old) = (c, old_is_cell m' b c old, record { kind = refl; slots = refl; monitor = refl })
      by_block (inr new) = let now = before b c new in (now.0, new_is_cell m' clear_blocks.spaces b now.0 now.1, shows now.0 now.2)

-- ---- a step

module _ (tree : Tree) (has_round : Bool) (words : ℕ) (p : Progress) (o : Objects) (sound : IsSoundHeap tree Reclaim has_round words p o.spaces) where
  abbrev m : Spaces
  m = o.spaces

  -- what is found is cleared
  abbrev step_to : ℕ → Option Cell → Progress × Objects × Bool
  step_to at x =
      option_map_or
      (λ (c : Cell). (record p { cursor = at - m.new.start + size c }, record o { spaces = clear m (record { number = at }) }, true))
      x
      (p, o, false)

  -- a step with a cell that is found
  step_is : (at : ℕ) (c : Cell) → cell_in m.new (record { number = at }) ≡ Some c → clear_step_at p o (Some at) ≡ step_to at (Some c)
  step_is at c lies = ap (step_to at) lies

  -- what is true of a step that finds nothing, and of each that clears, is true of the next step
  step_is_as : (P : Progress × Objects × Bool → Type 0) → P (p, o, false) → ((at : ℕ) (found : IsFound is_noted m.new (m.new.start + p.cursor) at) → P (step_to at (Some found.cell))) → P (next_clear_step p o)
  step_is_as P none some = by_found (found_in is_noted m.new (m.new.start + p.cursor)) refl
    where
      by_found : (x : Option ℕ) → found_in is_noted m.new (m.new.start + p.cursor) ≡ x → P (clear_step_at p o x)
      by_found None is = none
      by_found (Some at) is = let found = found_is is_noted m.new (m.new.start + p.cursor) at is in subst P (sym (step_is at found.cell found.lies)) (some at found)

  -- it keeps the heap sound
  pub cleared_sound : IsSoundHeap tree Reclaim has_round words (next_clear_step p o).0 (next_clear_step p o).1.spaces
  cleared_sound = step_is_as (λ x. IsSoundHeap tree Reclaim has_round words x.0 x.1.spaces) sound (one_sound tree has_round words p m sound)

  -- what is old, marked or new stays so
  pub cleared_tests : TestsStay m (next_clear_step p o).1.spaces
  cleared_tests = step_is_as (λ x. TestsStay m x.1.spaces) (record { old = λ a e. e; marked = λ a e. e; new = λ a e. e }) (one_stays tree has_round words p m sound)

  -- and what may be held, for each hold
  pub cleared_stays : (hold : Hold) (a : Addr) → passes hold Reclaim m a ≡ true → passes hold Reclaim (next_clear_step p o).1.spaces a ≡ true
  cleared_stays hold a pass = passes_stays m (next_clear_step p o).1.spaces cleared_tests a hold Reclaim pass

  -- each object shows what it showed
  pub cleared_shows : (b : Addr) (c : Cell) → object_cell o b ≡ Some c → (d : Cell) × (object_cell (next_clear_step p o).1 b ≡ Some d) × ShowsSame c d
  cleared_shows b c lies =
      step_is_as (λ x. (d : Cell) × (object_cell x.1 b ≡ Some d) × ShowsSame c d) (c, lies, record { kind = refl; slots = refl; monitor = refl })
      (λ at found. one_shows tree has_round words p m sound at found b c lies)

  -- ---- the end of the cycle

  -- a step that does nothing has found nothing
  none_left_by : (x : Option ℕ) → found_in is_noted m.new (m.new.start + p.cursor) ≡ x → (clear_step_at p o x).2 ≡ false → found_in is_noted m.new (m.new.start + p.cursor) ≡ None
  none_left_by None is e = is
  none_left_by (Some at) is e =
      let found = found_is is_noted m.new (m.new.start + p.cursor) at is in
      let works : (clear_step_at p o (Some at)).2 ≡ true = ap (λ (x : Progress × Objects × Bool). x.2) (step_is at found.cell found.lies) in
      absurd (let both : true ≡ false = sym works ∙ e in cc)

  -- where none is left to clear, no new object has a mark or another copy
  module _ (done : (next_clear_step p o).2 ≡ false) where
    -- each one is before the cursor of the collector, or was not found
    all_cleared : (b : Addr) (d : Cell) → cell_in m.new b ≡ Some d → is_noted d ≡ false
    all_cleared b d lies = by_index (nat_lt b.number (m.new.start + p.cursor)) refl
      where
        none : found_in is_noted m.new (m.new.start + p.cursor) ≡ None
        none = none_left_by (found_in is_noted m.new (m.new.start + p.cursor)) refl done

        by_index : (t : Bool) → nat_lt b.number (m.new.start + p.cursor) ≡ t → is_noted d ≡ false
        by_index true test = (sound.cleared refl).objects b d lies (let near : b.number < m.new.start + p.cursor = grind (arith, nat_tests) in near)
        by_index false test = none_found is_noted m.new (m.new.start + p.cursor) none b d lies (let far : m.new.start + p.cursor ≤ b.number = grind (arith, nat_tests) in far)

    -- what a cell has that is not noted
    noted_parts : (marked : Bool) (other : Option Addr) → (if marked then true else is_some other) ≡ false → (marked ≡ false) × (other ≡ None)
    noted_parts false None e = (refl, refl)
    noted_parts _ _ e = absurd cc

    parts : (b : Addr) (d : Cell) → cell_in m.new b ≡ Some d → (d.marked ≡ false) × (d.other ≡ None)
    parts b d lies = noted_parts d.marked d.other (all_cleared b d lies)

    -- the blocks are as they should be between cycles
    closed_blocks : AreBlocks Idle words (close_cycle m)
    closed_blocks = record {
      few = sound.blocks.few;
      spaces = AreSpaces-closed m sound.blocks.spaces;
      held = refl;
      old_words = sound.blocks.new_words;
      new_words = omega arith;
      grows = λ e. absurd cc;
      none_new = λ e. refl;
      none_grey = λ e. refl;
    }

    -- no object has a copy, and all that is referred to is there
    closed_copied : AreCopied tree Idle no_progress (close_cycle m)
    closed_copied = record {
      no_copy = λ a c lies e. (parts a c lies).1;
      unmarked = λ a c lies e. (parts a c lies).0;
      out = λ a b c lies other. elim (none-some b (sym (parts a c lies).1 ∙ other)) [ ];
      back = λ a b d lies other. elim (none-some d lies) [ ];
      shells = λ a c lies marked e. elim e [ ];
      marked_only = λ a c lies some. elim (some (parts a c lies).1) [ ];
      old_references = λ a c lies e. sound.copies.new_references a c lies;
      new_references = λ b d lies. elim (none-some d lies) [ ];
      room = λ e. elim e [ inl is ↦ absurd cc | inr is ↦ absurd cc ];
    }

    -- the heap of the new block alone is sound between cycles
    pub retired_sound : IsSoundHeap tree Idle has_round words no_progress (retire_old o).spaces
    retired_sound = record { blocks = closed_blocks; copies = closed_copied; cursor = HasCursor-begun Idle (close_cycle m); loaded = λ is. absurd cc; marks = λ is. absurd cc; cleared = λ is. absurd cc }

-- ---- what may be held between cycles

-- with the same cell
pub retired_cell : (o : Objects) → AreSpaces o.spaces → (a : Addr) (c : Cell) → cell_in o.spaces.new a ≡ Some c → object_cell (retire_old o) a ≡ Some c
retired_cell o h a c lies = closed-new o.spaces h a c lies
