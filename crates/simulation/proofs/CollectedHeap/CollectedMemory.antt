-- The heap of a machine with a collector is a memory model for instructions, for a thread in each phase beside each that may be posted.
use Rattle.std.proofs.Common.{◌≡◌, ℕ, List, true, refl, sym, subst, ◌≢◌, ◌⊎◌, inl, inr, ◌<◌, Bool, false, if◌then◌else◌, length, Some, slice_get, slice_set, ap, ◌∙◌, arith}
use Rattle.interpreter.specs.cil_model.declared.limits.Limits.{Limits}
use Rattle.interpreter.specs.cil_model.declared.phases.Phase.TheVariants.{Mark, Idle, Copy, PreFlip, HeapFlip, ThreadFlip, Reclaim}
use Rattle.interpreter.specs.cil_model.declared.trees.Tree.{Tree}
use Rattle.interpreter.specs.cil_model.Legality.{IsLegal}
use Rattle.interpreter.specs.object_memory.declared.addresses.Addr.{Addr}
use Rattle.interpreter.specs.object_memory.declared.values.Value.{Value}
use Rattle.interpreter.specs.object_memory.Cells.{null, Cell, cell_in, store_monitor, store_slot}
use Rattle.interpreter.specs.object_memory.Objects.{Objects, object_cell}
use Rattle.interpreter.specs.reference_machine.States.{Frame as StateFrame, State, HeapObject, with_object}
use Rattle.interpreter.specs.threads_monitors.Frames.{Frames}
use Rattle.interpreter.specs.threads_monitors.Roots.{roots}
use Rattle.collector.specs.phase_handshake.Handshakes.{Handshakes, IsClose}
use Rattle.collector.specs.phase_handshake.declared.posts.Seat.{Seat}
use Rattle.collector.specs.Holds.{IsOnTime, may_hold, passes}
use Rattle.collector.specs.Soundness.{IsListed, IsSoundHeap}
use Rattle.collector.specs.declared.progress.Progress.{Progress}
use Rattle.collector.proofs.ThreadReferences.LiveValues.{may_hold_then, IsShort, held_by, held_is_live, is_reference, live_value_is_there, reference_again}
use Rattle.collector.proofs.ThreadReferences.StorableValues.{monitor_is_storable, other_is_alike, word_is_storable}
use Rattle.simulation.specs.Refines.{AreFrames, Names, IsCell, IsValue, IsWord, null_reference, reference}
use Rattle.simulation.proofs.Memory.MemoryModels.{MemoryModel}
use Rattle.simulation.proofs.Representation.RootReferences.{roots_pass, frames_kept}
use Rattle.simulation.proofs.CollectedHeap.VisibleNames.{FitsCollected, collected_reads, first_hold, named_passes, permanent_passes, named_held, named_small, named_whole, own_extends, collected_comparable, collected_name_null, collected_null_name, collected_same, collected_same_null, early_beside}
use Rattle.simulation.proofs.CollectedHeap.HeapChanges.{collected_beside, collected_statics, first_fits, marked_refines, collected_static_storable, collected_static_stores, beside_heap, value_held}
use Rattle.simulation.proofs.CollectedHeap.LiteralMonitors.{collected_literals}
use Rattle.simulation.proofs.CollectedHeap.NewObjects.{collected_bears, collected_births, collected_refusals}
use Rattle.std.specs.Prelude.{get_or}
use Rattle.std.proofs.Math.ListN.{length-set}
use Rattle.std.proofs.lemmas.Option.{same_Some, slice_get-get_or}
use Rattle.interpreter.specs.cil_model.declared.phases.Phase.{Phase}
use Rattle.interpreter.proofs.cil_model.Lists.{set_is_there}
use Rattle.interpreter.proofs.cil_model.SameLaws.{never}
use Rattle.interpreter.specs.reference_machine.Cycles.{phase_after}
use Rattle.interpreter.specs.reference_machine.Values.{Born, ObjectName, Value as StateValue}
use Rattle.interpreter.specs.object_memory.declared.addresses.TheConstants.{ADDRESSES}
use Rattle.interpreter.specs.object_memory.declared.monitors.Monitor.{Monitor}
use Rattle.interpreter.specs.object_memory.declared.values.Value.TheVariants.{Ref}
use Rattle.interpreter.specs.object_memory.Spaces.{forward, is_old}
use Rattle.interpreter.specs.object_memory.Values.{value_word}
use Rattle.interpreter.specs.instructions.barriers.Barriers.{compares_forwards, forward_value, other_has_slot, is_storable, is_value_in_heap, is_word_storable, reaches_both, stored_int, stored_monitor, stored_value}
use Rattle.interpreter.proofs.object_memory.TwoSpaces.TwoBlocks.{either, no_literal}
use Rattle.collector.specs.References.{holds_reference, is_reference_value}
use Rattle.collector.specs.Phases.{is_live, is_of_cycle}
use Rattle.collector.proofs.ThreadReferences.AfterStores.{marked_first}
use Rattle.collector.proofs.Copies.VisibleCopies.{has_words}
use Rattle.collector.proofs.PhaseChanges.StaticFlips.{set_here_or_there}
use Rattle.collector.proofs.HeapStores.StoredCells.{change_for}
use Rattle.collector.proofs.Marks.MarksOfStores.{IsButMarked, value_mark_leaves, value_weakens, marked_kind}
use Rattle.collector.proofs.HeapStores.StoreSoundness.{IsHeldObject, IsHeldValue, monitor_keeps, object_monitor_is, value_for_new, value_keeps, word_keeps}
use Rattle.collector.proofs.HeapStores.ReachedCopies.{changed_by, close_is_beside}
use Rattle.collector.proofs.Addresses.TagChanges.{monitor_keeps_tags, slot_keeps_tags}
use Rattle.collector.proofs.Addresses.Tests.{is_new_live, live_is_late, old_is}
use Rattle.reference_machine.specs.TypedStates.{IsTyped}
use Rattle.simulation.proofs.ListLaws.ChangedItems.{set_or_stays}
use Rattle.simulation.proofs.Representation.MoreNames.{cell_extends, value_extends}
use Rattle.simulation.proofs.Memory.ReferenceSlots.{IsLinked, is_reference_state, typed_is_linked}
use Rattle.simulation.proofs.CollectedHeap.RewrittenCells.{AreRewritten, IsNamedWord, contents_named, contents_rewritten}
use Rattle.simulation.proofs.CollectedHeap.TwoCopies.{HasNamedWords, word_forwarded}
use Rattle.simulation.proofs.CollectedHeap.ObjectChanges.{object_changes}
use Rattle.std.proofs.lemmas.Bool.{and_from}

-- ---- Stores of a thread to objects of a heap with a collector: values, words that are no references, and monitors.

-- ---- values

same_sort : (v : Value) → is_reference v ≡ is_reference_value v
same_sort (Ref a) = refl
same_sort _ = refl

-- a value that stands under names of short addresses is short
refines_short : (name : Names) → ((a : ℕ) (n : ObjectName) → name a ≡ Some n → a < ADDRESSES) → (v : Value) (u : StateValue) → IsValue name v u → IsShort v
refines_short name small v u null_reference = omega arith
refines_short name small v u (reference a n is) = small a.number n is
refines_short name small v u _ = tt

-- an integer is its own forward
integer_forward : (o : Objects) (v : Value) → is_reference_value v ≡ false → forward_value o v ≡ v
integer_forward o (Ref a) e = never (sym e)
integer_forward o _ e = refl

-- ---- what a store does

-- it marks the value first, and changes the copies that it reaches
value_stored_is : (own : Phase) (o : Objects) (a : Addr) (slot : ℕ) (v : Value) →
    stored_value own o a slot v ≡ changed_by (reaches_both own) (store_slot slot (value_word v)) (store_slot slot (value_word (value_for_new own (marked_first own o v) v))) (marked_first own o v) a
value_stored_is Idle o a slot v = refl
value_stored_is _ o a slot v = refl

-- each object stays but for its mark
first_leaves : (own : Phase) (o : Objects) (v : Value) (a : Addr) (c : Cell) → object_cell o a ≡ Some c → (d : Cell) × (object_cell (marked_first own o v) a ≡ Some d) × IsButMarked c d
first_leaves Mark o v a c lies = value_mark_leaves o v a c lies
first_leaves _ o v a c lies = (c, lies, inl refl)

-- a new copy gets the value itself, or its forward where forwards are compared
new_gets : (own : Phase) (o : Objects) (v : Value) → (value_for_new own o v ≡ v) ⊎ ((compares_forwards own ≡ true) × (value_for_new own o v ≡ forward_value o v))
new_gets Copy o v = inr (refl, refl)
new_gets PreFlip o v = inr (refl, refl)
new_gets HeapFlip o v = inr (refl, refl)
new_gets _ o v = inl refl

-- where new objects are live before Reclaim, both copies have all words
late_early : (posted_phase : Phase) → is_new_live posted_phase ≡ true → posted_phase ≢ Reclaim → has_words posted_phase ≡ true
late_early PreFlip late early = refl
late_early HeapFlip late early = refl
late_early ThreadFlip late early = refl
late_early Reclaim late early = absurd (early refl)
late_early _ late early = never late

-- a slot of a marked cell changes as one of the cell does
slot_but_marked : (slot w : ℕ) (c d : Cell) → IsButMarked c d → IsButMarked (store_slot slot w c) (store_slot slot w d)
slot_but_marked slot w c d (inl e) = inl (ap (store_slot slot w) e)
slot_but_marked slot w c d (inr e) = inr (ap (store_slot slot w) e)

but_marked_slots : (c d : Cell) → IsButMarked c d → d.slots ≡ c.slots
but_marked_slots c d (inl e) = ap (λ (x : Cell). x.slots) e
but_marked_slots c d (inr e) = ap (λ (x : Cell). x.slots) e

-- the words of references stay named
slot_named : (tree : Tree) (name : Names) (slot w : ℕ) (d : Cell) → (holds_reference tree d.kind slot ≡ true → IsNamedWord name w) → HasNamedWords tree name d → HasNamedWords tree name (store_slot slot w d)
slot_named tree name slot w d new has i x is holds = elim (set_here_or_there d.slots slot i w x is) [
  | inl here ↦ subst (IsNamedWord name) (sym here.1) (new (subst (λ j. holds_reference tree d.kind j ≡ true) here.0 holds))
  | inr still ↦ has i x still.1 holds
]

-- a value's word is named where it is a reference
value_named : (name : Names) (v : Value) (u : StateValue) → IsValue name v u → (b : Bool) → is_reference_value v ≡ b → b ≡ true → IsNamedWord name (value_word v)
value_named name v u null_reference b sort holds = inl refl
value_named name v u (reference a n is) b sort holds = inr (n, is)
value_named name v u _ b sort holds = never (sort ∙ holds)

-- changes of both copies in one way
alike_for : (both : Bool) (f : Cell → Cell) (o : Objects) (x : Addr) (c : Cell) → change_for both f f o x c ≡ f c
alike_for both f o x c = by_tests both (is_old o.spaces x)
  where
    by_tests : (t u : Bool) → (if t then (if u then f c else f c) else f c) ≡ f c
    by_tests true true = refl
    by_tests _ _ = refl

-- ---- forwards in a slot

module _ (tree : Tree) (words : ℕ) (h : Handshakes) (p : Progress) (seat : Seat) (first : Objects) (all : Names) (name : Names) (o : Objects) (ss : List Value) (s : State) (fits : FitsCollected tree words h p seat first all name o ss s) where
  -- the words of references of an object are named
  named_words : IsLegal tree → IsTyped tree s → (n : ℕ) (x : Addr) (d : Cell) → fits.whole x.number ≡ Some (Born n) → object_cell o x ≡ Some d → HasNamedWords tree fits.whole d
  named_words legal typed n x d is lies =
      let b = fits.heap.born x.number n is in
      let same : b.cell ≡ d = same_Some b.cell d (sym b.lies ∙ lies) in
      let linked = typed_is_linked tree legal s fits.whole b.cell.kind b.cell.slots b.object.contents b.object.thread (typed.objects n b.object b.is) b.refines.contents in
      subst (HasNamedWords tree fits.whole) same (contents_named tree fits.whole b.cell.kind b.cell.slots b.object.contents b.object.thread linked b.refines.contents)

  module _ (late : has_words h.posted_phase ≡ true) (slot : ℕ) (v : Value) (short : IsShort v) (c : Cell) (inside : slot < length c.slots) (sort : is_reference_value v ≡ holds_reference tree c.kind slot) where
    abbrev before : List ℕ
    before = slice_set c.slots slot (value_word v)

    abbrev after : List ℕ
    after = slice_set c.slots slot (value_word (forward_value o v))

    -- the forward's word represents the same
    forward_refines : (x : Value) → IsShort x → is_reference_value x ≡ true → (u : StateValue) → is_reference_state u ≡ true → IsWord fits.whole (value_word x) u → IsWord fits.whole (value_word (forward_value o x)) u
    forward_refines (Ref a) low holds u is refines =
        subst (λ (y : Addr). IsWord fits.whole (forward o.spaces y).number u) (reference_again a low)
        (word_forwarded tree h.posted_phase h.has_round words p o.spaces fits.sound late fits.whole fits.heap.small fits.filled a.number u is refines)
    forward_refines _ low holds u is refines = never holds

    -- the slot's value
    after_there : slice_get after slot ≡ Some (value_word (forward_value o v))
    after_there = set_is_there c.slots slot (value_word (forward_value o v)) (get_or c.slots slot 0) (slice_get-get_or c.slots slot 0 inside)

    -- another slot's
    else_there : (i w : ℕ) → i ≢ slot → slice_get c.slots i ≡ Some w → slice_get after i ≡ Some w
    else_there i w apart is = elim (set_or_stays c.slots slot i (value_word (forward_value o v)) w is) [ inl same ↦ absurd (apart same) | inr stays ↦ stays ]

    forward_rewritten : AreRewritten tree fits.whole fits.whole c.kind before after
    forward_rewritten = record {
      count = length-set c.slots slot (value_word (forward_value o v)) ∙ sym (length-set c.slots slot (value_word v));
      integers = λ i w is none. elim (set_here_or_there c.slots slot i (value_word v) w is) [
        | inl here ↦
            let integer : is_reference_value v ≡ false = sort ∙ subst (λ j. holds_reference tree c.kind j ≡ false) here.0 none in
            subst (λ j. slice_get after j ≡ Some w) (sym here.0) (after_there ∙ ap (λ x. Some (value_word x)) (integer_forward o v integer) ∙ ap Some (sym here.1))
        | inr still ↦ else_there i w still.0 still.1
      ];
      references = λ i w is holds u link refines. elim (set_here_or_there c.slots slot i (value_word v) w is) [
        | inl here ↦ (
          value_word (forward_value o v),
          subst (λ j. slice_get after j ≡ Some (value_word (forward_value o v))) (sym here.0) after_there,
          forward_refines v short (sort ∙ subst (λ j. holds_reference tree c.kind j ≡ true) here.0 holds) u link (subst (λ y. IsWord fits.whole y u) here.1 refines),
        )
        | inr still ↦ (w, else_there i w still.0 still.1, refines)
      ];
    }

    -- a cell with the forward represents what one with the value represents
    forward_cell : (object : HeapObject) → IsLinked tree c.kind object.contents → IsCell tree fits.whole (store_slot slot (value_word v) c) object → IsCell tree fits.whole (store_slot slot (value_word (forward_value o v)) c) object
    forward_cell object linked refines = record {
      contents = contents_rewritten tree fits.whole fits.whole c.kind before after forward_rewritten object.contents object.thread linked refines.contents;
      monitor = refines.monitor;
    }

-- ---- stores

module _ (tree : Tree) (legal : IsLegal tree) (words : ℕ) (h : Handshakes) (p : Progress) (seat : Seat) (close : IsClose h seat) (first : Objects) (time : IsOnTime seat.phase h.posted_phase h.has_round p first.spaces) (all : Names) (name : Names) (o : Objects) (ss : List Value) (s : State)
    (fits : FitsCollected tree words h p seat first all name o ss s) (a : Addr) (n : ℕ) (named : name a.number ≡ Some (Born n)) (c : Cell) (lies : object_cell o a ≡ Some c) where
  abbrev FitsThen : Objects → State → Type 0
  FitsThen q t = FitsCollected tree words h p seat first all name q ss t

  held : IsHeldObject seat.phase h.posted_phase o a c
  held = record { lies = lies; held = named_held tree words h p seat first all name o ss s fits a.number (Born n) named }

  -- ---- what can be stored

  module _ (slot : ℕ) (inside : slot < length c.slots) where
    alike : other_has_slot o a slot ≡ true
    alike = other_is_alike tree h.posted_phase h.has_round words p o fits.sound a c slot lies inside

    pub collected_word_storable : is_word_storable seat.phase o a slot ≡ true
    collected_word_storable = word_is_storable tree h.posted_phase h.has_round words p o a c slot inside seat.phase (beside_heap tree words h p seat close first time all name o ss s fits) held

    module _ (v : Value) (u : StateValue) (is : IsValue name v u) where
      there : is_value_in_heap o v ≡ true
      there =
          live_value_is_there h.posted_phase o v
          (value_weakens (passes (held_by seat.phase h.posted_phase) h.posted_phase o.spaces) (is_live h.posted_phase o.spaces) (λ b. held_is_live seat.phase h.posted_phase o.spaces b) v (value_held tree words h p seat close first time all name o ss s fits v u is))

      -- a cycle is open beside a thread in Mark
      open_in_mark : seat.phase ≡ Mark → o.spaces.is_open ≡ true
      open_in_mark e = fits.sound.blocks.held ∙ elim (close_is_beside h seat close) [
        | inl now ↦ ap is_of_cycle (sym now ∙ e)
        | inr late ↦ ap is_of_cycle (sym late ∙ ap phase_after e)
      ]

      pub collected_storable : is_storable seat.phase o a slot v ≡ true
      collected_storable = by_phase seat.phase refl
        where
          by_phase : (q : Phase) → seat.phase ≡ q → is_storable q o a slot v ≡ true
          by_phase Mark e = and_from o.spaces.is_open (is_value_in_heap o v) (open_in_mark e) there
          by_phase Copy e = and_from (is_value_in_heap o v) (other_has_slot o a slot) there alike
          by_phase PreFlip e = and_from (is_value_in_heap o v) (other_has_slot o a slot) there alike
          by_phase HeapFlip e = and_from (is_value_in_heap o v) (other_has_slot o a slot) there alike
          by_phase ThreadFlip e = alike
          by_phase _ e = refl

  -- ---- values

  module _ (typed : IsTyped tree s) (object : HeapObject) (linked : IsLinked tree c.kind object.contents) where
    module _ (slot : ℕ) (v : Value) (u : StateValue) (inside : slot < length c.slots) (sort : is_reference_value v ≡ holds_reference tree c.kind slot) (is : IsValue name v u) (refines : IsCell tree name (store_slot slot (value_word v) c) object) where
      -- the objects once the value is marked
      abbrev q : Objects
      q = marked_first seat.phase o v

      marked : FitsThen q s
      marked = first_fits tree words h p seat close first all name o ss s fits v u is

      short : IsShort v
      short = refines_short name (named_small tree words h p seat first all name o ss s fits) v u is

      value : IsHeldValue tree seat.phase h.posted_phase o c.kind slot v
      value = record { short = short; reference = same_sort v ∙ sort; held = value_held tree words h p seat close first time all name o ss s fits v u is }

      abbrev new_value : Value
      new_value = value_for_new seat.phase q v

      abbrev f : Cell → Cell
      f = store_slot slot (value_word v)

      abbrev g : Cell → Cell
      g = store_slot slot (value_word (value_for_new seat.phase (marked_first seat.phase o v) v))

      sound : IsSoundHeap tree h.posted_phase h.has_round words p (changed_by (reaches_both seat.phase) f g q a).spaces
      sound =
          subst (λ (x : Objects). IsSoundHeap tree h.posted_phase h.has_round words p x.spaces) (value_stored_is seat.phase o a slot v)
          (value_keeps tree h.has_round words p o a c slot v seat.phase h.posted_phase (beside_heap tree words h p seat close first time all name o ss s fits) held value)

      -- the cell, marked or not
      here : (d : Cell) × (object_cell q a ≡ Some d) × IsButMarked c d
      here = first_leaves seat.phase o v a c lies

      whole_named : marked.whole a.number ≡ Some (Born n)
      whole_named = named_whole tree words h p seat first all name q ss s marked a.number (Born n) named

      whole_value : IsValue marked.whole v u
      whole_value = value_extends name marked.whole (own_extends tree words h p seat first all name q ss s marked) v u is

      old_refines : IsCell tree marked.whole (f here.0) object
      old_refines =
          marked_refines tree marked.whole (f c) (f here.0) object (slot_but_marked slot (value_word v) c here.0 here.2)
          (cell_extends name marked.whole (own_extends tree words h p seat first all name q ss s marked) tree (f c) object refines)

      kind_is : here.0.kind ≡ c.kind
      kind_is = marked_kind c here.0 here.2

      linked_here : IsLinked tree here.0.kind object.contents
      linked_here = subst (λ k. IsLinked tree k object.contents) (sym kind_is) linked

      -- a new copy shows the same with its own value
      new_refines : cell_in q.spaces.new a ≡ Some here.0 → IsCell tree marked.whole (g here.0) object
      new_refines new = elim (new_gets seat.phase q v) [
        | inl same ↦ subst (λ x. IsCell tree marked.whole (store_slot slot (value_word x) here.0) object) (sym same) old_refines
        | inr forward ↦
            let live = marked.live a.number (Born n) whole_named in
            let late = late_early h.posted_phase (live_is_late q.spaces marked.sound.blocks.spaces a here.0 h.posted_phase new live) (early_beside seat.phase h.posted_phase (close_is_beside h seat close) forward.0) in
            let inside' : slot < length here.0.slots = subst (λ ws. slot < length ws) (sym (but_marked_slots c here.0 here.2)) inside in
            let sort' : is_reference_value v ≡ holds_reference tree here.0.kind slot = sort ∙ ap (λ k. holds_reference tree k slot) (sym kind_is) in
            subst (λ x. IsCell tree marked.whole (store_slot slot (value_word x) here.0) object) (sym forward.1)
            (forward_cell tree words h p seat first all name q ss s marked late slot v short here.0 inside' sort' object linked_here old_refines)
      ]

      own_refines : IsCell tree marked.whole (change_for (reaches_both seat.phase) f g q a here.0) object
      own_refines = by_both (reaches_both seat.phase)
        where
          by_old : (t : Bool) → is_old q.spaces a ≡ t → IsCell tree marked.whole (if t then f here.0 else g here.0) object
          by_old true e = old_refines
          by_old false e = new_refines (elim (either q.spaces a here.0 here.1) [ inl old ↦ never (sym e ∙ old_is q.spaces a here.0 old) | inr new ↦ new ])

          by_both : (t : Bool) → IsCell tree marked.whole (if t then (if is_old q.spaces a then f here.0 else g here.0) else f here.0) object
          by_both true = by_old (is_old q.spaces a) refl
          by_both false = old_refines

      -- a value is stored
      pub collected_slots : FitsThen (stored_value seat.phase o a slot v) (with_object s (Born n) object)
      collected_slots =
          subst (λ (x : Objects). FitsThen x (with_object s (Born n) object)) (sym (value_stored_is seat.phase o a slot v))
          (object_changes tree words h p seat first all name q ss s marked (reaches_both seat.phase) a n whole_named here.0 here.1 f g (slot_keeps_tags slot (value_word v)) (slot_keeps_tags slot (value_word new_value)) sound object linked_here own_refines
          (named_words tree words h p seat first all name q ss s marked legal typed n)
          (λ d kind before. slot_named tree marked.whole slot (value_word v) d (λ holds. value_named marked.whole v u whole_value (holds_reference tree d.kind slot) (sort ∙ ap (λ k. holds_reference tree k slot) (sym (kind ∙ kind_is))) holds) before))

    -- ---- words and monitors

    own_whole : fits.whole a.number ≡ Some (Born n)
    own_whole = named_whole tree words h p seat first all name o ss s fits a.number (Born n) named

    -- what a change of both copies in one way leaves there
    all_refines : (f : Cell → Cell) → IsCell tree name (f c) object → IsCell tree fits.whole (change_for (reaches_both seat.phase) f f o a c) object
    all_refines f refines =
        subst (λ (d : Cell). IsCell tree fits.whole d object) (sym (alike_for (reaches_both seat.phase) f o a c))
        (cell_extends name fits.whole (own_extends tree words h p seat first all name o ss s fits) tree (f c) object refines)

    -- a word that is no reference is stored
    pub collected_hidden : (slot w : ℕ) → holds_reference tree c.kind slot ≡ false → IsCell tree name (store_slot slot w c) object → FitsThen (stored_int seat.phase o a slot w) (with_object s (Born n) object)
    collected_hidden slot w none refines =
        object_changes tree words h p seat first all name o ss s fits (reaches_both seat.phase) a n own_whole c lies (store_slot slot w) (store_slot slot w) (slot_keeps_tags slot w) (slot_keeps_tags slot w)
        (word_keeps tree seat.phase h.posted_phase h.has_round words p o a c (beside_heap tree words h p seat close first time all name o ss s fits) held slot w none)
        object linked (all_refines (store_slot slot w) refines)
        (named_words tree words h p seat first all name o ss s fits legal typed n)
        (λ d kind before. slot_named tree fits.whole slot w d (λ holds. never (sym (ap (λ k. holds_reference tree k slot) kind ∙ none) ∙ holds)) before)

    -- a monitor is stored
    pub collected_monitors : (monitor : Monitor) → IsCell tree name (store_monitor monitor c) object → FitsThen (stored_monitor seat.phase o a monitor) (with_object s (Born n) object)
    collected_monitors monitor refines =
        let is = object_monitor_is seat.phase o a monitor (no_literal o.spaces fits.sound.blocks.spaces a c lies) in
        subst (λ (x : Objects). FitsThen x (with_object s (Born n) object)) (sym is)
        (object_changes tree words h p seat first all name o ss s fits (reaches_both seat.phase) a n own_whole c lies (store_monitor monitor) (store_monitor monitor) (monitor_keeps_tags monitor) (monitor_keeps_tags monitor)
        (subst (λ (x : Objects). IsSoundHeap tree h.posted_phase h.has_round words p x.spaces) is
        (monitor_keeps tree seat.phase h.posted_phase h.has_round words p o a c (beside_heap tree words h p seat close first time all name o ss s fits) held monitor))
        object linked (all_refines (store_monitor monitor) refines)
        (named_words tree words h p seat first all name o ss s fits legal typed n)
        (λ d kind before. before))

-- ---- the model

-- for a thread that is close and on time, where the static fields were scanned before a round was posted
unfoldable pub collected : (tree : Tree) → IsLegal tree → (words : ℕ) (h : Handshakes) (p : Progress) (seat : Seat) → IsClose h seat → (h.posted_phase ≡ Mark → h.has_round ≡ true → p.scanned_statics ≡ true) → (first : Objects) →
    IsOnTime seat.phase h.posted_phase h.has_round p first.spaces → Names → MemoryModel tree
collected tree legal words h p seat close rounds first time all = record {
  phase = seat.phase;
  Fits = FitsCollected tree words h p seat first all;
  reads = λ name o ss s fits typed. collected_reads tree words h p seat first all name o ss s fits legal typed;
  statics = λ name o ss s fits. collected_statics tree words h p seat first all name o ss s fits rounds;
  with_objects = λ name o ss s s' fits same. collected_beside tree words h p seat first all name o ss s fits s' same;
  comparable = λ name o ss s fits a b is is'. collected_comparable tree words h p seat close first all name o ss s fits a b is is';
  same = λ name o ss s fits a b n k is is'. collected_same tree words h p seat close first all name o ss s fits a b n k is is';
  same_null = λ name o ss s fits. collected_same_null tree words h p seat close first all name o ss s fits;
  null_name = λ name o ss s fits b k is. collected_null_name tree words h p seat close first all name o ss s fits b k is;
  name_null = λ name o ss s fits a n is. collected_name_null tree words h p seat close first all name o ss s fits a n is;
  storable = λ name o ss s fits a n is cell lies slot v u inside refines. collected_storable tree legal words h p seat close first time all name o ss s fits a n is cell lies slot inside v u refines;
  slots = λ name o ss s fits typed a n is cell lies slot v u inside sort refines object linked after.
      collected_slots tree legal words h p seat close first time all name o ss s fits a n is cell lies typed object linked slot v u inside sort refines after;
  word_storable = λ name o ss s fits a n is cell lies slot inside. collected_word_storable tree legal words h p seat close first time all name o ss s fits a n is cell lies slot inside;
  hidden = λ name o ss s fits typed a n is cell lies slot w inside none object linked after.
      collected_hidden tree legal words h p seat close first time all name o ss s fits a n is cell lies typed object linked slot w none after;
  monitor_storable = λ name o ss s fits a n is. monitor_is_storable tree h.posted_phase h.has_round words p o seat.phase a fits.sound;
  monitors = λ name o ss s fits typed a n is cell lies monitor object linked after.
      collected_monitors tree legal words h p seat close first time all name o ss s fits a n is cell lies typed object linked monitor after;
  literals = λ name o ss s fits a characters is monitor u refines. collected_literals tree words h p seat first all name o ss s fits a characters is monitor u refines;
  static_storable = λ name o ss s fits v u refines. collected_static_storable tree words h p seat close first time all name o ss s fits v u refines;
  static_stores = λ name o ss s fits n v u inside refines entries fields. collected_static_stores tree words h p seat first all name n v ss s entries fields close time o fits u refines;
  bears = λ name o ss s fits. collected_bears tree words h p seat close first time all name o ss s fits;
  refusals = λ name o ss s fits k count born e. collected_refusals seat.phase o k count born e;
  births = λ name o ss s fits k count contents refines born a e. collected_births tree words h p seat close first time all name o ss s fits k count contents refines born a e;
}

-- ---- frames

module _ (tree : Tree) (words : ℕ) (h : Handshakes) (p : Progress) (seat : Seat) (first : Objects) (all : Names) (name : Names) (o : Objects) (ss : List Value) (s : State) (fits : FitsCollected tree words h p seat first all name o ss s)
    (limits : Limits) (m : Frames) (gs : List StateFrame) where
  -- frames that hold what the thread may hold stand under its own names,
  pub frames_cut : AreFrames tree limits fits.whole m gs → ((a : Addr) → IsListed (roots m) a → passes (first_hold h seat first) h.posted_phase o.spaces a ≡ true) → AreFrames tree limits name m gs
  frames_cut refines pass = frames_kept (passes (first_hold h seat first) h.posted_phase o.spaces) fits.whole name (λ a n held is. fits.is_cut a n is held) tree limits m gs refines pass

  -- and frames that stand under them hold what it may hold
  pub frames_are_held : AreFrames tree limits name m gs → (a : Addr) → IsListed (roots m) a → passes (first_hold h seat first) h.posted_phase o.spaces a ≡ true
  frames_are_held refines a listed =
      roots_pass name (passes (first_hold h seat first) h.posted_phase o.spaces) (permanent_passes (first_hold h seat first) h.posted_phase o.spaces null refl) (λ b n is. named_passes tree words h p seat first all name o ss s fits b n is) tree m gs refines.frames a listed

-- ---- the end of a step

module _ (tree : Tree) (words : ℕ) (h : Handshakes) (p : Progress) (seat : Seat) (first : Objects) (all : Names) (name : Names) (o : Objects) (ss : List Value) (s : State) (fits : FitsCollected tree words h p seat first all name o ss s) (a : Addr) where
  -- what the thread may hold in the step it may hold then,
  pub own_may_hold : passes (first_hold h seat first) h.posted_phase o.spaces a ≡ true → may_hold h o.spaces seat a ≡ true
  own_may_hold pass = subst (λ x. passes x h.posted_phase o.spaces a ≡ true) (sym fits.holds) pass

  -- and each other thread what it might hold before
  pub others_may_hold : (other : Seat) → may_hold h first.spaces other a ≡ true → may_hold h o.spaces other a ≡ true
  others_may_hold other held = may_hold_then h first.spaces o.spaces other a fits.grows held
