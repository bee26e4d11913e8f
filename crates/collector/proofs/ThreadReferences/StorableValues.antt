-- What a thread may hold can be stored, and where: a mark finds an open cycle, and a store to both copies finds both.
use Rattle.std.proofs.Common.{◌≡◌, ◌≢◌, inl, inr, ℕ, ◌<◌, Bool, true, false, length, refl, sym, ap, ◌∙◌, subst, arith}
use Rattle.std.specs.Prelude.{◌&&◌, not, if◌then◌else◌, nat_lt, is_some, Option, Some, None}
use Rattle.std.specs.Option.{option_map_or}
use Rattle.std.proofs.lemmas.Bool.Decides.{nat_tests}
use Rattle.std.proofs.lemmas.Option.{same_Some}
use Rattle.cil_model.specs.declared.phases.Phase.{Phase}
use Rattle.cil_model.specs.declared.phases.Phase.TheVariants.{Mark, PreFlip, HeapFlip}
use Rattle.cil_model.specs.declared.trees.Tree.{Tree}
use Rattle.object_memory.specs.declared.addresses.Addr.{Addr}
use Rattle.object_memory.specs.declared.values.Value.{Value}
use Rattle.object_memory.specs.Cells.{Cell, cell_in}
use Rattle.object_memory.specs.Spaces.{AreSpaces, Spaces, is_old, other_of}
use Rattle.object_memory.specs.Objects.{Objects, object_cell, object_slots}
use Rattle.object_memory.proofs.TwoSpaces.TwoBlocks.{apart, either, new_is_cell, not_old, old_is_cell}
use Rattle.barriers.specs.Barriers.{is_monitor_storable, other_has_slot, is_other_in_heap, is_static_storable, is_value_in_heap, is_word_storable, reaches_both}
use Rattle.collector.specs.References.{ValuePasses}
use Rattle.collector.specs.Phases.{is_live, is_of_cycle}
use Rattle.collector.specs.Soundness.{IsSoundHeap}
use Rattle.collector.specs.Holds.{passes}
use Rattle.collector.specs.declared.progress.Progress.{Progress}
use Rattle.collector.proofs.HeapStores.ReachedCopies.{IsBeside}
use Rattle.collector.proofs.ThreadReferences.LiveValues.{held_by, held_is_live, live_value_is_there}
use Rattle.collector.proofs.HeapStores.StoreSoundness.{IsBesideHeap, IsHeldObject}
use Rattle.collector.proofs.Addresses.Tests.{value_weakens}

-- ---- the other copy

-- The other copy of an object: it lies elsewhere in the other block, and has the same number of slots.
pub record IsOther (o : Objects) (a : Addr) (c : Cell) (b : Addr) (d : Cell) : Type 0 where
  pub lies : object_cell o b ≡ Some d
  pub count : length d.slots ≡ length c.slots
  pub apart : a.number ≢ b.number
  pub age : is_old o.spaces b ≡ not (is_old o.spaces a)

module _ (tree : Tree) (posted_phase : Phase) (has_round : Bool) (words : ℕ) (p : Progress) (o : Objects) (sound : IsSoundHeap tree posted_phase has_round words p o.spaces) where
  abbrev m : Spaces
  m = o.spaces

  abbrev spaces : AreSpaces m
  spaces = sound.blocks.spaces

  -- the other copy lies there
  pub other_lies : (a : Addr) (c : Cell) → object_cell o a ≡ Some c → (b : Addr) → c.other ≡ Some b → (d : Cell) × IsOther o a c b d
  other_lies a c lies b other = elim (either m a c lies) [ inl old ↦ of_old old | inr new ↦ of_new new ]
    where
      of_old : cell_in m.old a ≡ Some c → (d : Cell) × IsOther o a c b d
      of_old old =
          let u = sound.copies.out a b c old other in (
            u.0,
            record {
              lies = new_is_cell m spaces b u.0 u.1;
              count = u.2.count;
              apart = apart m spaces a b c u.0 old u.1;
              age = ap is_some (not_old m spaces b u.0 u.1) ∙ ap not (sym (ap is_some old));
            },
          )

      of_new : cell_in m.new a ≡ Some c → (d : Cell) × IsOther o a c b d
      of_new new =
          let u = sound.copies.back b a c new other in
          let v = sound.copies.out b a u.0 u.1 u.2 in
          let same : v.0 ≡ c = same_Some v.0 c (sym v.1 ∙ new) in (
            u.0,
            record {
              lies = old_is_cell m b u.0 u.1;
              count = sym v.2.count ∙ ap (λ (x : Cell). length x.slots) same;
              apart = λ e. apart m spaces b a u.0 c u.1 new (sym e);
              age = ap is_some u.1 ∙ ap not (sym (ap is_some (not_old m spaces a c new)));
            },
          )

  -- it has each slot of the object
  pub other_is_alike : (a : Addr) (c : Cell) (slot : ℕ) → object_cell o a ≡ Some c → slot < length c.slots → other_has_slot o a slot ≡ true
  other_is_alike a c slot lies inside = by_other c.other refl
    where
      by_other : (r : Option Addr) → c.other ≡ r → other_has_slot o a slot ≡ true
      by_other None no_copy = rw (lies, no_copy) refl
      by_other (Some b) other =
          let u = other_lies a c lies b other in
          let count = u.1.count in
          let test : nat_lt slot (length u.0.slots) ≡ true = grind (arith, nat_tests) in
          ap (λ r. option_map_or (λ (x : Addr). nat_lt slot (length (object_slots o x))) r true) (ap other_of lies ∙ other) ∙ rw u.1.lies test

  -- where an object has another copy, that one lies there
  pub other_is_there : (a : Addr) → is_other_in_heap o a ≡ true
  other_is_there a = by_cell (object_cell o a) refl
    where
      by_other : (c : Cell) → object_cell o a ≡ Some c → (r : Option Addr) → c.other ≡ r → is_other_in_heap o a ≡ true
      by_other c lies None no_copy = rw (lies, no_copy) refl
      by_other c lies (Some b) other =
          let u = other_lies a c lies b other in
          ap (λ r. option_map_or (λ (x : Addr). is_some (object_cell o x)) r true) (ap other_of lies ∙ other) ∙ ap is_some u.1.lies

      by_cell : (r : Option Cell) → object_cell o a ≡ r → is_other_in_heap o a ≡ true
      by_cell None none = rw none refl
      by_cell (Some c) lies = by_other c lies c.other refl

-- ---- what is stored

-- a cycle is open beside a thread in Mark
open_beside : (posted_phase : Phase) → IsBeside Mark posted_phase → is_of_cycle posted_phase ≡ true
open_beside posted_phase (inl now) = subst (λ q. is_of_cycle q ≡ true) now refl
open_beside posted_phase (inr late) = subst (λ q. is_of_cycle q ≡ true) late refl

both_true : (x y : Bool) → x ≡ true → y ≡ true → (x && y) ≡ true
both_true x y e e' = rw (e, e') refl

module _ (tree : Tree) (posted_phase : Phase) (has_round : Bool) (words : ℕ) (p : Progress) (o : Objects) where
  held_is_there : (own : Phase) (v : Value) → ValuePasses (passes (held_by own posted_phase) posted_phase o.spaces) v → is_value_in_heap o v ≡ true
  held_is_there own v held = live_value_is_there posted_phase o v (value_weakens (passes (held_by own posted_phase) posted_phase o.spaces) (is_live posted_phase o.spaces) (held_is_live own posted_phase o.spaces) v held)

  module _ (a : Addr) (c : Cell) (slot : ℕ) (inside : slot < length c.slots) where
    -- a word in a slot
    pub word_is_storable : (own : Phase) → IsBesideHeap tree own posted_phase has_round words p o → IsHeldObject own posted_phase o a c → is_word_storable own o a slot ≡ true
    word_is_storable own thread object = by_both (reaches_both own)
      where
        by_both : (t : Bool) → (if t then other_has_slot o a slot else true) ≡ true
        by_both true = other_is_alike tree posted_phase has_round words p o thread.sound a c slot object.lies inside
        by_both false = refl

  -- a monitor, of an object or a literal
  pub monitor_is_storable : (own : Phase) (a : Addr) → IsSoundHeap tree posted_phase has_round words p o.spaces → is_monitor_storable own o a ≡ true
  monitor_is_storable own a sound = by_both (reaches_both own)
    where
      by_both : (t : Bool) → (if t then is_other_in_heap o a else true) ≡ true
      by_both true = other_is_there tree posted_phase has_round words p o sound a
      by_both false = refl

  -- a value in a static field
  pub static_is_storable : (own : Phase) (v : Value) → IsBesideHeap tree own posted_phase has_round words p o → ValuePasses (passes (held_by own posted_phase) posted_phase o.spaces) v → is_static_storable own o v ≡ true
  static_is_storable Mark v thread held = both_true o.spaces.is_open (is_value_in_heap o v) (thread.sound.blocks.held ∙ open_beside posted_phase thread.beside) (held_is_there Mark v held)
  static_is_storable PreFlip v thread held = held_is_there PreFlip v held
  static_is_storable HeapFlip v thread held = held_is_there HeapFlip v held
  static_is_storable _ v thread held = refl
