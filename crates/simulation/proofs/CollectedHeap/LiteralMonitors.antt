-- The monitor of a literal changes in a heap with a collector.
use Rattle.std.proofs.Common.{◌≡◌, ◌⊎◌, inl, inr, ℕ, Bool, true, false, if◌then◌else◌, List, [], ◌∷◌, Some, slice_get, slice_set, refl, sym, ap, subst, ◌∙◌}
use Rattle.std.proofs.lemmas.Option.{same_Some}
use Rattle.interpreter.specs.cil_model.declared.trees.Tree.{Tree}
use Rattle.interpreter.specs.cil_model.Mentions.{literals_of}
use Rattle.interpreter.specs.cil_model.Same.{same_text}
use Rattle.interpreter.proofs.cil_model.Lists.{none_is_some, set_is_there}
use Rattle.interpreter.proofs.cil_model.SameLaws.{if_false, if_true, never, same_text_equal, same_text_itself}
use Rattle.interpreter.specs.reference_machine.Values.{Born, Literal}
use Rattle.interpreter.specs.reference_machine.States.{Monitor as StateMonitor, State, entry_at, with_entry, with_monitor as with_state_monitor}
use Rattle.interpreter.specs.object_memory.declared.addresses.Addr.{Addr}
use Rattle.interpreter.specs.object_memory.declared.monitors.Monitor.{Monitor}
use Rattle.interpreter.specs.object_memory.declared.values.Value.{Value}
use Rattle.interpreter.specs.object_memory.Objects.{Objects, with_literal_monitor}
use Rattle.interpreter.specs.object_memory.Spaces.{AreSpaces}
use Rattle.interpreter.specs.instructions.barriers.Barriers.{stored_monitor}
use Rattle.interpreter.proofs.object_memory.TwoSpaces.TwoBlocks.{new_is_cell, no_literal, old_is_cell}
use Rattle.collector.specs.phase_handshake.Handshakes.{Handshakes}
use Rattle.collector.specs.phase_handshake.declared.posts.Seat.{Seat}
use Rattle.collector.specs.declared.progress.Progress.{Progress}
use Rattle.collector.proofs.HeapStores.StoreSoundness.{literal_monitor_is}
use Rattle.collector.proofs.Addresses.TagChanges.{alike_itself}
use Rattle.simulation.specs.Refines.{AreTwins, IsBornAt, IsLiteralAt, IsMonitor, Names}
use Rattle.simulation.proofs.ListLaws.ChangedItems.{set_or_stays}
use Rattle.simulation.proofs.CollectedHeap.TwoCopies.{twins_either}
use Rattle.simulation.proofs.CollectedHeap.VisibleNames.{FitsCollected, first_hold, named_whole}
use Rattle.simulation.proofs.CollectedHeap.HeapChanges.{IsChange, alike_change, change_fits, heap_then}

-- ---- entries under texts

-- a changed entry is there
entry_is_there : {V : Type 0} (k : List ℕ) (v w : V) (es : List (List ℕ × V)) → entry_at same_text k es ≡ Some w → entry_at same_text k (with_entry same_text k v es) ≡ Some v
entry_is_there k v w [] e = none_is_some w e
entry_is_there {V} k v w (x ∷ xs) e = by_head (same_text x.0 k) refl e (entry_is_there k v w xs)
  where
    by_head : (b : Bool) → same_text x.0 k ≡ b → (if b then Some x.1 else entry_at same_text k xs) ≡ Some w → (entry_at same_text k xs ≡ Some w → entry_at same_text k (with_entry same_text k v xs) ≡ Some v) →
        entry_at same_text k (if b then (x.0, v) ∷ xs else x ∷ with_entry same_text k v xs) ≡ Some v
    by_head true is found later = if_true (same_text x.0 k) (Some v) (entry_at same_text k xs) is
    by_head false is found later = if_false (same_text x.0 k) (Some x.1) (entry_at same_text k (with_entry same_text k v xs)) is ∙ later found

-- and all others stay
entry_stays : {V : Type 0} (j k : List ℕ) (v : V) → same_text k j ≡ false → (es : List (List ℕ × V)) → entry_at same_text j (with_entry same_text k v es) ≡ entry_at same_text j es
entry_stays j k v apart [] = refl
entry_stays {V} j k v apart (x ∷ xs) = by_head (same_text x.0 k) refl (entry_stays j k v apart xs)
  where
    by_head : (b : Bool) → same_text x.0 k ≡ b → entry_at same_text j (with_entry same_text k v xs) ≡ entry_at same_text j xs →
        entry_at same_text j (if b then (x.0, v) ∷ xs else x ∷ with_entry same_text k v xs) ≡ entry_at same_text j (x ∷ xs)
    by_head true is later =
        let other : same_text x.0 j ≡ false = subst (λ y. same_text y j ≡ false) (sym (same_text_equal x.0 k is)) apart in
        if_false (same_text x.0 j) (Some v) (entry_at same_text j xs) other ∙ sym (if_false (same_text x.0 j) (Some x.1) (entry_at same_text j xs) other)
    by_head false is later = ap (λ r. if same_text x.0 j then Some x.1 else r) later

-- ---- the monitor

module _ (tree : Tree) (words : ℕ) (h : Handshakes) (p : Progress) (seat : Seat) (first : Objects) (all : Names) (name : Names) (o : Objects) (ss : List Value) (s : State) (fits : FitsCollected tree words h p seat first all name o ss s)
    (a : Addr) (characters : List ℕ) (named : name a.number ≡ Some (Literal characters)) (m : Monitor) (u : StateMonitor) (refines : IsMonitor m u) where
  abbrev spaces : AreSpaces o.spaces
  spaces = fits.sound.blocks.spaces

  whole : fits.whole a.number ≡ Some (Literal characters)
  whole = named_whole tree words h p seat first all name o ss s fits a.number (Literal characters) named

  own : IsLiteralAt tree o s a.number characters
  own = fits.heap.literals a.number characters whole

  -- no literal is a copy
  no_twin : {A : Type 0} → (b : ℕ) → AreTwins o.spaces a.number b → A
  no_twin b twins = elim (twins_either tree h.posted_phase h.has_round words p o.spaces fits.sound a.number b twins) [
    | inl copies ↦ none_is_some own.number (sym (no_literal o.spaces spaces a copies.from (old_is_cell o.spaces a copies.from copies.old)) ∙ own.has_id)
    | inr copies ↦ none_is_some own.number (sym (no_literal o.spaces spaces a copies.to (new_is_cell o.spaces spaces a copies.to copies.new)) ∙ own.has_id)
  ]

  -- the objects and the state with the other monitor
  abbrev after : Objects
  after = with_literal_monitor o m own.number

  abbrev next : State
  next = with_state_monitor s (Literal characters) u

  abbrev LiteralThen : ℕ → List ℕ → Type 0
  LiteralThen b characters' = IsLiteralAt tree after next b characters'

  -- another literal keeps its own
  other_literal : (b : ℕ) (characters' : List ℕ) → IsLiteralAt tree o s b characters' → same_text characters characters' ≡ false → LiteralThen b characters'
  other_literal b characters' l apart = record {
    number = l.number;
    has_id = l.has_id;
    is = l.is;
    monitor = l.monitor;
    held = by_index (set_or_stays o.literals own.number l.number m l.monitor l.held);
    state_monitor = l.state_monitor;
    state_held = entry_stays characters' characters u apart s.literal_monitors ∙ l.state_held;
    refines = l.refines;
  }
    where
      clash : {A : Type 0} → characters ≡ characters' → A
      clash same = never (sym apart ∙ subst (λ x. same_text characters x ≡ true) same (same_text_itself characters))

      by_index : (l.number ≡ own.number) ⊎ (slice_get (slice_set o.literals own.number m) l.number ≡ Some l.monitor) → slice_get (slice_set o.literals own.number m) l.number ≡ Some l.monitor
      by_index (inl same) = clash (same_Some characters characters' (sym own.is ∙ ap (slice_get (literals_of tree)) (sym same) ∙ l.is))
      by_index (inr stays) = stays

  own_then : LiteralThen a.number characters
  own_then = record {
    number = own.number;
    has_id = own.has_id;
    is = own.is;
    monitor = m;
    held = set_is_there o.literals own.number m own.monitor own.held;
    state_monitor = u;
    state_held = entry_is_there characters u own.state_monitor s.literal_monitors own.state_held;
    refines = refines;
  }

  -- each literal has its monitor
  literal_then : (b : ℕ) (characters' : List ℕ) → fits.whole b ≡ Some (Literal characters') → LiteralThen b characters'
  literal_then b characters' named' = by_text (same_text characters characters') refl
    where
      index : characters ≡ characters' → a.number ≡ b
      index same = elim (fits.heap.names.one a.number b (Literal characters') (whole ∙ ap (λ x. Some (Literal x)) same) named') [
        | inl equal ↦ equal
        | inr twins ↦ no_twin b twins
      ]

      by_text : (t : Bool) → same_text characters characters' ≡ t → LiteralThen b characters'
      by_text true test =
          let same : characters ≡ characters' = same_text_equal characters characters' test in
          subst (λ x. LiteralThen x characters') (index same) (subst (λ x. LiteralThen a.number x) same own_then)
      by_text false test = other_literal b characters' (fits.heap.literals b characters' named') test

  -- each object stays
  born_then : (b n : ℕ) → fits.whole b ≡ Some (Born n) → IsBornAt tree fits.whole after next b n
  born_then b n is = let l = fits.heap.born b n is in record { no_literal = l.no_literal; cell = l.cell; lies = l.lies; object = l.object; is = l.is; refines = l.refines }

  change : IsChange tree words h p seat (first_hold h seat first) o after
  change = alike_change tree words h p seat (first_hold h seat first) o after (alike_itself o.spaces) fits.sound

  -- all fits with the monitor
  pub collected_literals : FitsCollected tree words h p seat first all name (stored_monitor seat.phase o a m) ss (with_state_monitor s (Literal characters) u)
  collected_literals =
      subst (λ (q : Objects). FitsCollected tree words h p seat first all name q ss next) (sym (literal_monitor_is seat.phase o a m own.number own.has_id))
      (change_fits tree words h p seat first all name o ss s fits after change ss next (heap_then tree words h p seat first all name o ss s fits after change next born_then literal_then) fits.refines fits.static_holds)
