-- Marking, step by step: what marks keep, and what a step does to the oldest grey object.
use Rattle.std.proofs.Common.{◌≡◌, ◌+◌, ◌<◌, ◌≤◌, ◌||◌, Bool, true, false, List, [], ◌∷◌, length, drop, refl, subst, arith}
use Rattle.std.specs.Prelude.{◌==◌, is_some, nat_lt, All, Some, None, slice_get}
use Rattle.std.proofs.lemmas.Bool.Decides.{nat_tests}
use Rattle.std.proofs.lemmas.List.Elements.{All-head, All-weaker}
use Rattle.cil_model.specs.declared.trees.Tree.{Tree}
use Rattle.object_memory.specs.declared.addresses.Addr.{Addr}
use Rattle.object_memory.specs.declared.values.Value.{Value}
use Rattle.object_memory.specs.declared.values.Value.TheVariants.{Ref}
use Rattle.object_memory.specs.Cells.{Cell, cell_in, literal_number}
use Rattle.object_memory.specs.Spaces.{Spaces, cell_at, is_white, marked_if, set_mark}
use Rattle.object_memory.specs.Objects.{Objects, object_cell}
use Rattle.object_memory.proofs.Counts.{change-there}
use Rattle.barriers.specs.Barriers.{is_value_in_heap, with_marked}
use Rattle.collector.specs.Phases.{is_marked_old}
use Rattle.collector.specs.MarkSteps.{mark_step, next_mark_step, oldest_cell, slot_scanned}
use Rattle.collector.specs.Conditions.{AreValuesInHeap}
use Rattle.collector.specs.declared.progress.Progress.{Progress}
use Rattle.collector.proofs.Addresses.Tests.{marked_there}

-- ---- what a mark keeps

open_by : (m : Spaces) (a : Addr) (t : Bool) → m.is_open ≡ true → (marked_if t m a).is_open ≡ true
open_by m a false e = e
open_by m a true e = e

-- the cycle
pub open_kept : (o : Objects) (v : Value) → o.spaces.is_open ≡ true → (with_marked o v).spaces.is_open ≡ true
open_kept o (Ref a) e = open_by o.spaces a (is_white (cell_in o.spaces.old a)) e
open_kept o _ e = e

cell_by : (m : Spaces) (a b : Addr) (t : Bool) → is_some (cell_at m b) ≡ true → is_some (cell_at (marked_if t m a) b) ≡ true
cell_by m a b false e = e
cell_by m a b true e = change-there set_mark (λ c. refl) m a b e

cell_kept : (o : Objects) (v : Value) (b : Addr) → is_some (object_cell o b) ≡ true → is_some (object_cell (with_marked o v) b) ≡ true
cell_kept o (Ref a) b e = cell_by o.spaces a b (is_white (cell_in o.spaces.old a)) e
cell_kept o _ b e = e

or_kept : (x y s t : Bool) → (s ≡ true → t ≡ true) → (x || (y || s)) ≡ true → (x || (y || t)) ≡ true
or_kept false false s t h e = h e
or_kept _ _ s t h e = refl

there_kept : (o : Objects) (v w : Value) → is_value_in_heap o w ≡ true → is_value_in_heap (with_marked o v) w ≡ true
there_kept o v (Ref b) e = or_kept (b.number == 0) (is_some (literal_number b)) (is_some (object_cell o b)) (is_some (object_cell (with_marked o v) b)) (cell_kept o v b) e
there_kept o v _ e = e

-- what is there
pub all_kept : (o : Objects) (v : Value) (vs : List Value) → AreValuesInHeap o vs → AreValuesInHeap (with_marked o v) vs
all_kept o v vs all = All-weaker (λ w. is_value_in_heap o w ≡ true) (λ w. is_value_in_heap (with_marked o v) w ≡ true) (there_kept o v) vs all

-- ---- the oldest grey object

pub oldest_there : (m : Spaces) (g : Addr) → All (λ a. is_marked_old m a ≡ true) m.grey → Some g ≡ slice_get m.grey 0 → (c : Cell) × (cell_in m.old g ≡ Some c) × (c.marked ≡ true)
oldest_there m g all e = marked_there (cell_in m.old g) (by_list m.grey all e)
  where
    by_list : (gs : List Addr) → All (λ a. is_marked_old m a ≡ true) gs → Some g ≡ slice_get gs 0 → is_marked_old m g ≡ true
    by_list [] all e = absurd cc
    by_list (h ∷ rest) all e =
        let same : h ≡ g = cc in
        subst (λ a. is_marked_old m a ≡ true) same (All-head (λ a. is_marked_old m a ≡ true) h rest all)

-- ---- a step

abbrev Outcome : Type 0
Outcome = Progress × Objects × Bool

module _ (tree : Tree) (p : Progress) (o : Objects) where
  pub none_scanned : None ≡ slice_get o.spaces.grey 0 → ◌≡◌ {A = Outcome} (p, o, false) (next_mark_step tree p o)
  none_scanned e = by_list o.spaces.grey e
    where
      by_list : (gs : List Addr) → None ≡ slice_get gs 0 → ◌≡◌ {A = Outcome} (p, o, false) (mark_step tree p o gs (oldest_cell o gs))
      by_list [] e = refl
      by_list (g ∷ rest) e = absurd cc

  module _ (g : Addr) (c : Cell) (at : cell_in o.spaces.old g ≡ Some c) where
    pub slot_done : Some g ≡ slice_get o.spaces.grey 0 → p.scanned_slots < length c.slots
        → ◌≡◌ {A = Outcome} (record p { scanned_slots = p.scanned_slots + 1 }, slot_scanned tree o c p.scanned_slots, true) (next_mark_step tree p o)
    slot_done e less = by_list o.spaces.grey e
      where
        by_list : (gs : List Addr) → Some g ≡ slice_get gs 0
            → ◌≡◌ {A = Outcome} (record p { scanned_slots = p.scanned_slots + 1 }, slot_scanned tree o c p.scanned_slots, true) (mark_step tree p o gs (oldest_cell o gs))
        by_list [] e = absurd cc
        by_list (h ∷ rest) e =
            let same : g ≡ h = cc in
            let there : cell_in o.spaces.old h ≡ Some c = subst (λ a. cell_in o.spaces.old a ≡ Some c) same at in
            let test : nat_lt p.scanned_slots (length c.slots) ≡ true = grind (arith, nat_tests) in
            rw (there, test) refl

    pub object_done : Some g ≡ slice_get o.spaces.grey 0 → length c.slots ≤ p.scanned_slots
        → ◌≡◌ {A = Outcome} (record p { scanned_slots = 0 }, record o { spaces = record o.spaces { grey = drop 1 o.spaces.grey } }, true) (next_mark_step tree p o)
    object_done e all = by_list o.spaces.grey e
      where
        by_list : (gs : List Addr) → Some g ≡ slice_get gs 0
            → ◌≡◌ {A = Outcome} (record p { scanned_slots = 0 }, record o { spaces = record o.spaces { grey = drop 1 gs } }, true) (mark_step tree p o gs (oldest_cell o gs))
        by_list [] e = absurd cc
        by_list (h ∷ rest) e =
            let same : g ≡ h = cc in
            let there : cell_in o.spaces.old h ≡ Some c = subst (λ a. cell_in o.spaces.old a ≡ Some c) same at in
            let test : nat_lt p.scanned_slots (length c.slots) ≡ false = grind (arith, nat_tests) in
            rw (there, test) refl
