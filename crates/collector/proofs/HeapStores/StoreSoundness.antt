-- Stores of values, words and monitors keep the heap sound, in each phase that a thread has acknowledged beside each that may be posted.
use Rattle.std.proofs.Common.{◌≡◌, ◌≢◌, ◌⊎◌, inl, inr, ℕ, Bool, true, false, refl, sym, ap, ◌∙◌, subst}
use Rattle.std.specs.Prelude.{if◌then◌else◌, Option, Some, None}
use Rattle.std.specs.Option.{option_map_or}
use Rattle.cil_model.specs.declared.phases.Phase.{Phase}
use Rattle.cil_model.specs.declared.phases.Phase.TheVariants.{Mark, Allocate, Copy, PreFlip, HeapFlip, ThreadFlip}
use Rattle.cil_model.specs.PhaseOrder.{is_between}
use Rattle.cil_model.specs.declared.trees.Tree.{Tree}
use Rattle.object_memory.specs.declared.addresses.Addr.{Addr}
use Rattle.object_memory.specs.declared.kinds.Kind.{Kind}
use Rattle.object_memory.specs.declared.monitors.Monitor.{Monitor}
use Rattle.object_memory.specs.declared.values.Value.{Value}
use Rattle.object_memory.specs.declared.values.Value.TheVariants.{Int32, Int64, Native, Ref}
use Rattle.object_memory.specs.Cells.{Cell, literal_number, store_monitor, store_slot}
use Rattle.object_memory.specs.Spaces.{Spaces, AreSpaces, forward}
use Rattle.object_memory.specs.Objects.{Objects, object_cell, with_literal_monitor, with_slot}
use Rattle.object_memory.specs.Values.{value_word}
use Rattle.object_memory.proofs.TwoSpaces.TwoBlocks.{no_literal}
use Rattle.barriers.specs.Barriers.{forward_value, reaches_both, stored_int, stored_monitor, stored_value, with_marked}
use Rattle.collector.specs.References.{ValuePasses, holds_reference, reference_in}
use Rattle.collector.specs.Phases.{is_live, is_marked_address, is_new_address}
use Rattle.collector.specs.Soundness.{IsSoundHeap, copied_word}
use Rattle.collector.specs.Holds.{HasNotBegun, IsOnTime, is_flipping, is_marking, passes}
use Rattle.collector.specs.declared.progress.Progress.{Progress}
use Rattle.collector.proofs.Addresses.TagChanges.{monitor_keeps_tags, slot_keeps_tags}
use Rattle.collector.proofs.HeapStores.CellChanges.{AreStored}
use Rattle.collector.proofs.Copies.AgreeingCopies.{monitor_stored, monitors_alike, slots_alike, word_stored}
use Rattle.collector.proofs.Addresses.LiveForwards.{has_copies, new_forward}
use Rattle.collector.proofs.HeapStores.ReachedCopies.{IsBeside, IsRight, Way, in_both, in_new, in_old, change_stays, changed_by, way_of}
use Rattle.collector.proofs.Marks.MarksOfStores.{live_grows, marked_kind, value_mark_grows, value_mark_leaves, value_mark_same, value_mark_sound}
use Rattle.collector.proofs.ThreadReferences.LiveValues.{IsShort, held_by, held_is_live, held_is_new, is_reference, passes_in_slot, reference_again}
use Rattle.cil_model.proofs.SameLaws.{never}
use Rattle.collector.proofs.Copies.VisibleCopies.{forward_short, forwarded_is_new}
use Rattle.collector.proofs.Marks.MarkedHeaps.{with_marked-passes}
use Rattle.collector.proofs.Addresses.Tests.{value_weakens}

-- ---- threads and what they store

-- A thread has acknowledged the posted phase or the one before it, and the heap is sound.
pub record IsBesideHeap (tree : Tree) (own posted_phase : Phase) (has_round : Bool) (words : ℕ) (p : Progress) (o : Objects) : Type 0 where
  pub beside : IsBeside own posted_phase
  pub on_time : IsOnTime own posted_phase has_round p o.spaces
  pub sound : IsSoundHeap tree posted_phase has_round words p o.spaces

-- a thread may hold the address of an object
pub record IsHeldObject (own posted_phase : Phase) (o : Objects) (a : Addr) (c : Cell) : Type 0 where
  pub lies : object_cell o a ≡ Some c
  pub held : passes (held_by own posted_phase) posted_phase o.spaces a ≡ true

-- It may hold a value too, which is a reference exactly where the slot of such an object is one.
pub record IsHeldValue (tree : Tree) (own posted_phase : Phase) (o : Objects) (kind : Kind) (slot : ℕ) (v : Value) : Type 0 where
  pub short : IsShort v
  pub reference : is_reference v ≡ holds_reference tree kind slot
  pub held : ValuePasses (passes (held_by own posted_phase) posted_phase o.spaces) v

-- ---- values in both copies

-- whether the new copy gets the forward of a value
abbrev is_forwarding : Phase → Bool
is_forwarding p = is_between Copy HeapFlip p

-- what the new copy gets
abbrev pub value_for_new : Phase → Objects → Value → Value
value_for_new own o v = if is_forwarding own then forward_value o v else v

-- threads are flipped while one is in ThreadFlip
pub flipping_beside : (posted_phase : Phase) → IsBeside ThreadFlip posted_phase → is_flipping posted_phase ≡ true
flipping_beside posted_phase (inl now) = subst (λ q. is_flipping q ≡ true) now refl
flipping_beside posted_phase (inr late) = subst (λ q. is_flipping q ≡ true) late refl

-- a store to both copies finds copies
pub way_copies : (own posted_phase : Phase) (p : Progress) → Way own posted_phase p → reaches_both own ≡ true → has_copies posted_phase ≡ true
way_copies own posted_phase p (in_old one alone nothing) both = never (sym one ∙ both)
way_copies own posted_phase p (in_new one last) both = never (sym one ∙ both)
way_copies own posted_phase p (in_both two copied) both = copied

module _ (tree : Tree) (own posted_phase : Phase) (has_round : Bool) (words : ℕ) (p : Progress) (o : Objects) (sound : IsSoundHeap tree posted_phase has_round words p o.spaces) where
  abbrev m : Spaces
  m = o.spaces

  abbrev spaces : AreSpaces m
  spaces = sound.blocks.spaces

  -- what is new is its own forward
  pub forwarded_new : (v : Value) → ValuePasses (is_new_address m) v → forward_value o v ≡ v
  forwarded_new (Ref a) new = ap (λ (x : Addr). Ref x) (new_forward m spaces a new)
  forwarded_new _ new = refl

  -- a forward is as short as any address
  pub forwarded_short : (v : Value) → IsShort v → IsShort (forward_value o v)
  forwarded_short (Ref a) short = forward_short tree posted_phase p m spaces sound.copies a short
  forwarded_short _ short = tt

  forwarded_reference : (v : Value) → is_reference (forward_value o v) ≡ is_reference v
  forwarded_reference (Ref a) = refl
  forwarded_reference _ = refl

  -- the forward is what the collector copies
  forwarded_word : (c : Cell) (slot : ℕ) (v : Value) → IsShort v → is_reference v ≡ holds_reference tree c.kind slot → value_word (forward_value o v) ≡ copied_word tree m c slot (value_word v)
  forwarded_word c slot (Ref a) short same =
      ap (λ (x : Addr). (forward m x).number) (sym (reference_again a short))
      ∙ ap (λ t. if t then (forward m (reference_in a.number)).number else a.number) same
  forwarded_word c slot (Int32 n) short same = ap (λ t. if t then (forward m (reference_in (value_word (Int32 n)))).number else value_word (Int32 n)) same
  forwarded_word c slot (Int64 n) short same = ap (λ t. if t then (forward m (reference_in (value_word (Int64 n)))).number else value_word (Int64 n)) same
  forwarded_word c slot (Native n) short same = ap (λ t. if t then (forward m (reference_in (value_word (Native n)))).number else value_word (Native n)) same

  module _ (kind : Kind) (slot : ℕ) (v : Value) (value : IsHeldValue tree own posted_phase o kind slot v) where
    live : ValuePasses (is_live posted_phase m) v
    live = value_weakens (passes (held_by own posted_phase) posted_phase m) (is_live posted_phase m) (held_is_live own posted_phase m) v value.held

    -- what the new copy gets is the forward of the value in each phase
    is_forward : (q : Phase) → q ≡ own → IsBeside own posted_phase → reaches_both q ≡ true → value_for_new q o v ≡ forward_value o v
    is_forward Copy is beside both = refl
    is_forward PreFlip is beside both = refl
    is_forward HeapFlip is beside both = refl
    is_forward ThreadFlip is beside both =
        let flipping : is_flipping own ≡ true = ap is_flipping (sym is) in
        let flipping' : is_flipping posted_phase ≡ true = flipping_beside posted_phase (subst (λ r. IsBeside r posted_phase) (sym is) beside) in
        sym (forwarded_new v (value_weakens (passes (held_by own posted_phase) posted_phase m) (is_new_address m) (λ a. held_is_new own posted_phase m a flipping flipping') v value.held))
    is_forward _ is beside both = never both

    module _ (beside : IsBeside own posted_phase) (way : Way own posted_phase p) (marks : posted_phase ≡ Mark → HasNotBegun posted_phase has_round p m ⊎ ValuePasses (is_marked_address m) v) where
      other_is : reaches_both own ≡ true → value_for_new own o v ≡ forward_value o v
      other_is both = is_forward own refl beside both

      decoded_reference : (c : Cell) → c.kind ≡ kind → is_reference v ≡ holds_reference tree c.kind slot
      decoded_reference c decoded = value.reference ∙ ap (λ k. holds_reference tree k slot) (sym decoded)

      new_stored : reaches_both own ≡ true → (d : Cell) → d.kind ≡ kind → AreStored tree (is_new_address m) d (store_slot slot (value_word (forward_value o v)) d)
      new_stored both d decoded =
          let copied = way_copies own posted_phase p way both in
          word_stored tree (is_new_address m) d slot (value_word (forward_value o v))
          (passes_in_slot tree (is_new_address m) d.kind slot (forward_value o v) (forwarded_short v value.short) (forwarded_reference v ∙ decoded_reference d decoded) (forwarded_is_new tree posted_phase p o spaces sound.copies copied v live))

      -- a value that is held is right for the slot, and its forward for that of the new copy
      pub value_right : IsRight tree posted_phase has_round p m kind (reaches_both own) (store_slot slot (value_word v)) (store_slot slot (value_word (value_for_new own o v)))
      value_right = record {
        keeps_old = slot_keeps_tags slot (value_word v);
        keeps_new = slot_keeps_tags slot (value_word (value_for_new own o v));
        old = λ c decoded. word_stored tree (is_live posted_phase m) c slot (value_word v) (passes_in_slot tree (is_live posted_phase m) c.kind slot v value.short (decoded_reference c decoded) live);
        marks = λ mark. elim (marks mark) [
          | inl late ↦ inl late
          | inr marked ↦ inr (λ c decoded. word_stored tree (is_marked_address m) c slot (value_word v) (passes_in_slot tree (is_marked_address m) c.kind slot v value.short (decoded_reference c decoded) marked))
        ];
        new = λ both d decoded. subst (λ (u : Value). AreStored tree (is_new_address m) d (store_slot slot (value_word u) d)) (sym (other_is both)) (new_stored both d decoded);
        copies = λ both x c d decoded were. slots_alike tree posted_phase p m slot (value_word v) (value_word (value_for_new own o v)) x c d were (ap value_word (other_is both) ∙ forwarded_word c slot v value.short (decoded_reference c decoded));
      }

-- ---- values

module _ (tree : Tree) (has_round : Bool) (words : ℕ) (p : Progress) (o : Objects) (a : Addr) (c : Cell) (slot : ℕ) (v : Value) where
  -- a thread that hasn't acknowledged Mark, or is past it, marks nothing
  unmarked_stays : (own posted_phase : Phase) → own ≢ Mark → IsBesideHeap tree own posted_phase has_round words p o → IsHeldObject own posted_phase o a c → IsHeldValue tree own posted_phase o c.kind slot v
      → IsSoundHeap tree posted_phase has_round words p (changed_by (reaches_both own) (store_slot slot (value_word v)) (store_slot slot (value_word (value_for_new own o v))) o a).spaces
  unmarked_stays own posted_phase unmarking thread object value =
      let way = way_of own posted_phase has_round p o.spaces thread.beside thread.on_time in
      change_stays tree posted_phase has_round words p o thread.sound (store_slot slot (value_word v)) (store_slot slot (value_word (value_for_new own o v))) own a c object.lies
      (held_is_live own posted_phase o.spaces a object.held)
      (value_right tree own posted_phase has_round words p o thread.sound c.kind slot v value thread.beside way (λ mark. inl (thread.on_time (λ same. unmarking (same ∙ mark)))))
      way

  -- while Mark is posted it marks the value first
  marking_stays : IsBesideHeap tree Mark Mark has_round words p o → IsHeldObject Mark Mark o a c → IsHeldValue tree Mark Mark o c.kind slot v
      → IsSoundHeap tree Mark has_round words p (with_slot (with_marked o v) a slot (value_word v)).spaces
  marking_stays thread object value =
      let q = with_marked o v in
      let grows = value_mark_grows o v in
      let sound = value_mark_sound tree has_round words p o v thread.sound in
      let lies = value_mark_leaves o v a c object.lies in
      let kinds = marked_kind c lies.0 lies.2 in
      let way = way_of Mark Mark has_round p o.spaces thread.beside thread.on_time in
      let held : IsHeldValue tree Mark Mark q lies.0.kind slot v =
      record {
        short = value.short;
        reference = value.reference ∙ ap (λ k. holds_reference tree k slot) (sym kinds);
        held = value_weakens (is_live Mark o.spaces) (is_live Mark q.spaces) (live_grows o.spaces q.spaces grows Mark) v value.held;
      }
      in
      change_stays tree Mark has_round words p q sound (store_slot slot (value_word v)) (store_slot slot (value_word v)) Mark a lies.0 lies.1
      (live_grows o.spaces q.spaces grows Mark a object.held)
      (value_right tree Mark Mark has_round words p q sound lies.0.kind slot v held thread.beside way (λ mark. inr (with_marked-passes o thread.sound.blocks.spaces v value.held)))
      way

  -- once Allocate is posted what it holds is marked
  marked_stays : IsBesideHeap tree Mark Allocate has_round words p o → IsHeldObject Mark Allocate o a c → IsHeldValue tree Mark Allocate o c.kind slot v
      → IsSoundHeap tree Allocate has_round words p (with_slot (with_marked o v) a slot (value_word v)).spaces
  marked_stays thread object value =
      let way = way_of Mark Allocate has_round p o.spaces thread.beside thread.on_time in
      subst (λ (q : Objects). IsSoundHeap tree Allocate has_round words p (with_slot q a slot (value_word v)).spaces) (sym (value_mark_same o v thread.sound.blocks.spaces value.held))
      (change_stays tree Allocate has_round words p o thread.sound (store_slot slot (value_word v)) (store_slot slot (value_word v)) Mark a c object.lies object.held
      (value_right tree Mark Allocate has_round words p o thread.sound c.kind slot v value thread.beside way (λ mark. never (ap is_marking mark)))
      way)

  abbrev IsKept : (own posted_phase : Phase) → Type 0
  IsKept own posted_phase = IsBesideHeap tree own posted_phase has_round words p o → IsHeldObject own posted_phase o a c → IsHeldValue tree own posted_phase o c.kind slot v → IsSoundHeap tree posted_phase has_round words p (stored_value own o a slot v).spaces

  marks_stay : (posted_phase : Phase) → IsBeside Mark posted_phase → IsKept Mark posted_phase
  marks_stay posted_phase (inl now) = subst (λ q. IsKept Mark q) now marking_stays
  marks_stay posted_phase (inr late) = subst (λ q. IsKept Mark q) late marked_stays

  -- a value in a slot
  pub value_keeps : (own posted_phase : Phase) → IsBesideHeap tree own posted_phase has_round words p o → IsHeldObject own posted_phase o a c → IsHeldValue tree own posted_phase o c.kind slot v
      → IsSoundHeap tree posted_phase has_round words p (stored_value own o a slot v).spaces
  value_keeps Mark posted_phase thread object value = marks_stay posted_phase thread.beside thread object value
  value_keeps _ posted_phase thread object value = unmarked_stays _ posted_phase (λ e. never (ap is_marking e)) thread object value

-- ---- whose monitor it is

module _ (own : Phase) (o : Objects) (a : Addr) (monitor : Monitor) where
  -- the objects with another monitor of the object, in both copies or in one
  abbrev changed : Bool → Objects
  changed both = changed_by both (store_monitor monitor) (store_monitor monitor) o a

  abbrev by_number : Option ℕ → Objects → Objects
  by_number r q = option_map_or (with_literal_monitor o monitor) r q

  -- the monitor of an object is changed as any word is
  pub object_monitor_is : literal_number a ≡ None → stored_monitor own o a monitor ≡ changed_by (reaches_both own) (store_monitor monitor) (store_monitor monitor) o a
  object_monitor_is none = by_both (reaches_both own)
    where
      by_both : (t : Bool) → (if t then by_number (literal_number a) (changed true) else by_number (literal_number a) (changed false)) ≡ changed t
      by_both true = ap (λ r. by_number r (changed true)) none
      by_both false = ap (λ r. by_number r (changed false)) none

  -- a literal lies in no block
  pub literal_monitor_is : (n : ℕ) → literal_number a ≡ Some n → stored_monitor own o a monitor ≡ with_literal_monitor o monitor n
  literal_monitor_is n is = by_both (reaches_both own)
    where
      by_both : (t : Bool) → (if t then by_number (literal_number a) (changed true) else by_number (literal_number a) (changed false)) ≡ with_literal_monitor o monitor n
      by_both true = ap (λ r. by_number r (changed true)) is
      by_both false = ap (λ r. by_number r (changed false)) is

-- ---- words without references, and monitors

module _ (tree : Tree) (own posted_phase : Phase) (has_round : Bool) (words : ℕ) (p : Progress) (o : Objects) (a : Addr) (c : Cell) (thread : IsBesideHeap tree own posted_phase has_round words p o) (object : IsHeldObject own posted_phase o a c) where
  way : Way own posted_phase p
  way = way_of own posted_phase has_round p o.spaces thread.beside thread.on_time

  -- a word in a slot that holds no reference
  module _ (slot word : ℕ) (hidden : holds_reference tree c.kind slot ≡ false) where
    hidden_in : (d : Cell) → d.kind ≡ c.kind → holds_reference tree d.kind slot ≡ false
    hidden_in d decoded = ap (λ k. holds_reference tree k slot) decoded ∙ hidden

    word_right : IsRight tree posted_phase has_round p o.spaces c.kind (reaches_both own) (store_slot slot word) (store_slot slot word)
    word_right = record {
      keeps_old = slot_keeps_tags slot word;
      keeps_new = slot_keeps_tags slot word;
      old = λ d decoded. word_stored tree (is_live posted_phase o.spaces) d slot word (λ link. never (sym (hidden_in d decoded) ∙ link));
      marks = λ mark. inr (λ d decoded. word_stored tree (is_marked_address o.spaces) d slot word (λ link. never (sym (hidden_in d decoded) ∙ link)));
      new = λ both d decoded. word_stored tree (is_new_address o.spaces) d slot word (λ link. never (sym (hidden_in d decoded) ∙ link));
      copies = λ both x d e decoded were. slots_alike tree posted_phase p o.spaces slot word word x d e were (sym (ap (λ t. if t then (forward o.spaces (reference_in word)).number else word) (hidden_in d decoded)));
    }

    -- the heap is sound after a store of the word
    pub word_keeps : IsSoundHeap tree posted_phase has_round words p (stored_int own o a slot word).spaces
    word_keeps = change_stays tree posted_phase has_round words p o thread.sound (store_slot slot word) (store_slot slot word) own a c object.lies (held_is_live own posted_phase o.spaces a object.held) word_right way

  -- the monitor of an object
  module _ (monitor : Monitor) where
    monitor_right : IsRight tree posted_phase has_round p o.spaces c.kind (reaches_both own) (store_monitor monitor) (store_monitor monitor)
    monitor_right = record {
      keeps_old = monitor_keeps_tags monitor;
      keeps_new = monitor_keeps_tags monitor;
      old = λ d decoded. monitor_stored tree (is_live posted_phase o.spaces) d monitor;
      marks = λ mark. inr (λ d decoded. monitor_stored tree (is_marked_address o.spaces) d monitor);
      new = λ both d decoded. monitor_stored tree (is_new_address o.spaces) d monitor;
      copies = λ both x d e decoded were. monitors_alike tree posted_phase p o.spaces monitor x d e were;
    }

    -- the heap is sound after a store of the monitor
    pub monitor_keeps : IsSoundHeap tree posted_phase has_round words p (stored_monitor own o a monitor).spaces
    monitor_keeps =
        subst (λ (q : Objects). IsSoundHeap tree posted_phase has_round words p q.spaces) (sym (object_monitor_is own o a monitor (no_literal o.spaces thread.sound.blocks.spaces a c object.lies)))
        (change_stays tree posted_phase has_round words p o thread.sound (store_monitor monitor) (store_monitor monitor) own a c object.lies (held_is_live own posted_phase o.spaces a object.held) monitor_right way)
