-- A heap with a collector stays a memory for its threads where it stays sound, threads may hold what they held, and each cell represents its object.
-- A static field gets a value in a heap with a collector.
use Rattle.std.proofs.Common.{◌≡◌, inl, inr, ℕ, Bool, true, false, if◌then◌else◌, List, [], Option, Some, None, is_some, slice_get, refl, sym, ap, subst, ◌∙◌, zero, suc, ◌∷◌, slice_set}
use Rattle.std.specs.Prelude.{◌&&◌, not}
use Rattle.std.proofs.lemmas.Option.{same_Some}
use Rattle.interpreter.specs.cil_model.declared.phases.Phase.{Phase}
use Rattle.interpreter.specs.cil_model.declared.phases.Phase.TheVariants.{Mark, Allocate, Idle, Copy, PreFlip, HeapFlip, ThreadFlip, Reclaim}
use Rattle.interpreter.specs.cil_model.declared.trees.Tree.{Tree}
use Rattle.interpreter.specs.cil_model.Fields.{FieldKey}
use Rattle.interpreter.specs.reference_machine.Cycles.{phase_after}
use Rattle.interpreter.proofs.cil_model.SameLaws.{never}
use Rattle.interpreter.specs.reference_machine.Values.{Born, Literal, Value as StateValue}
use Rattle.interpreter.specs.reference_machine.States.{State}
use Rattle.interpreter.specs.object_memory.declared.addresses.Addr.{Addr}
use Rattle.interpreter.specs.object_memory.declared.values.Value.{Value}
use Rattle.interpreter.specs.object_memory.declared.values.Value.TheVariants.{Ref}
use Rattle.interpreter.specs.object_memory.Cells.{Cell, cell_in, change_in, null}
use Rattle.interpreter.specs.object_memory.Objects.{Objects}
use Rattle.interpreter.specs.object_memory.Spaces.{Spaces, forward, is_old, is_white, marked_if, other_of, set_mark}
use Rattle.interpreter.specs.instructions.barriers.Barriers.{with_marked, forward_value, is_static_storable, stored_static}
use Rattle.interpreter.proofs.object_memory.TwoSpaces.TwoBlocks.{after_in, forward-change}
use Rattle.collector.specs.phase_handshake.Handshakes.{Handshakes, IsClose}
use Rattle.collector.specs.phase_handshake.declared.posts.Seat.{Seat}
use Rattle.collector.specs.References.{ValuePasses, is_permanent}
use Rattle.collector.specs.Phases.{is_live, is_marked_address}
use Rattle.collector.specs.Soundness.{IsSoundHeap}
use Rattle.collector.specs.Holds.{AnyLive, HasNotBegun, Hold, MarkedOnly, NewOnly, hold_of, is_flipping, is_marking, passes, static_hold_of, static_may_hold, IsOnTime}
use Rattle.collector.specs.declared.progress.Progress.{Progress}
use Rattle.collector.proofs.ThreadReferences.AfterStores.{alike_not_begun, marked_first}
use Rattle.collector.proofs.ThreadReferences.MarkingPhases.{static_loads}
use Rattle.collector.proofs.HeapStores.StoredCells.{static_literals}
use Rattle.collector.proofs.Marks.MarksOfStores.{Grows, IsButMarked, alike_grows, grows_then, live_grows, passes_then, value_mark_grows, value_mark_leaves, value_mark_not_begun, value_mark_same, value_mark_sound, value_weakens}
use Rattle.collector.proofs.HeapStores.ReachedCopies.{close_is_beside, IsBeside as IsBesidePhase}
use Rattle.collector.proofs.Addresses.TagChanges.{AreAlike, alike_itself, live_stays, passes_still}
use Rattle.collector.proofs.Addresses.Disjunctions.{or_more}
use Rattle.collector.proofs.Addresses.Tests.{HoldMeans, held_is_live, is_new_live, old_is}
use Rattle.simulation.specs.Refines.{AreTwins, HasOneName, IsBornAt, IsCell, IsHeap, IsLiteralAt, IsValue, Names, null_reference, reference}
use Rattle.simulation.proofs.ListLaws.AgreeingLists.{agree_get, agree_length, agree_weaken}
use Rattle.simulation.proofs.Memory.NamedAddresses.{heap_beside, literal_beside}
use Rattle.simulation.proofs.Memory.MemoryModels.{AreStatics, IsBeside}
use Rattle.simulation.proofs.CollectedHeap.RewrittenCells.{agree_from}
use Rattle.simulation.proofs.CollectedHeap.TwoCopies.{copy_stays, twins_stay, value_forwarded}
use Rattle.simulation.proofs.CollectedHeap.VisibleNames.{FitsCollected, first_hold, means, named_passes, permanent_passes, own_extends, passes_is_held}
use Rattle.collector.proofs.Copies.VisibleCopies.{has_words}
use Rattle.collector.proofs.ThreadReferences.LiveValues.{held_by}
use Rattle.collector.proofs.PhaseChanges.StaticFlips.{set_here_or_there}
use Rattle.collector.proofs.HeapStores.StaticStores.{static_fits, value_for_static}
use Rattle.collector.proofs.ThreadReferences.StorableValues.{static_is_storable}
use Rattle.collector.proofs.HeapStores.StoreSoundness.{IsBesideHeap}
use Rattle.simulation.specs.Agreement.{Agree}
use Rattle.simulation.proofs.Representation.MoreNames.{value_extends, value_renamed}

-- ---- values

module _ (tree : Tree) (words : ℕ) (h : Handshakes) (p : Progress) (seat : Seat) (first : Objects) (all : Names) (name : Names) (o : Objects) (ss : List Value) (s : State) (fits : FitsCollected tree words h p seat first all name o ss s) where
  abbrev hold : Hold
  hold = first_hold h seat first

  -- a value that stands under the own names may be held
  pub value_passes : (v : Value) (u : StateValue) → IsValue name v u → ValuePasses (passes hold h.posted_phase o.spaces) v
  value_passes v u null_reference = permanent_passes hold h.posted_phase o.spaces null refl
  value_passes v u (reference a n is) = named_passes tree words h p seat first all name o ss s fits a.number n is
  value_passes v u _ = tt

  -- and one that may be held stands under them
  value_is_cut : (v : Value) (u : StateValue) → ValuePasses (passes hold h.posted_phase o.spaces) v → IsValue fits.whole v u → IsValue name v u
  value_is_cut v u pass = value_renamed fits.whole name v u (λ a n is _ named. fits.is_cut a.number n named (subst (ValuePasses (passes hold h.posted_phase o.spaces)) is pass))

  -- ---- static fields

  -- what a thread loads from static fields stands under its own names
  pub collected_statics : (h.posted_phase ≡ Mark → h.has_round ≡ true → p.scanned_statics ≡ true) → AreStatics name ss s.statics
  collected_statics rounds =
      agree_from (λ v (f : FieldKey × StateValue). IsValue name v f.1) ss s.statics (agree_length (λ v (f : FieldKey × StateValue). IsValue fits.whole v f.1) ss s.statics fits.refines)
      (λ n v f is is'.
      let old = agree_get (λ w (g : FieldKey × StateValue). IsValue fits.whole w g.1) ss s.statics fits.refines n f is' in
      let same : old.0 ≡ v = same_Some old.0 v (sym old.1 ∙ is) in
      value_is_cut v f.1 (loaded n v is) (subst (λ w. IsValue fits.whole w f.1) same old.2))
    where
      loaded : (n : ℕ) (v : Value) → slice_get ss n ≡ Some v → ValuePasses (passes hold h.posted_phase o.spaces) v
      loaded n v is =
          value_weakens (static_may_hold h.posted_phase o.spaces p n) (passes hold h.posted_phase o.spaces)
          (λ a held. subst (λ x. passes x h.posted_phase o.spaces a ≡ true) fits.holds (static_loads h o.spaces p seat n rounds a held)) v (fits.static_holds n v is)

-- ---- changes

-- The heap stays sound, and what was held may be held; nothing else becomes live or may be held, and forwards stay.
pub record IsChange (tree : Tree) (words : ℕ) (h : Handshakes) (p : Progress) (seat : Seat) (hold : Hold) (o o' : Objects) : Type 0 where
  pub sound : IsSoundHeap tree h.posted_phase h.has_round words p o'.spaces
  pub begun : HasNotBegun h.posted_phase h.has_round p o.spaces → HasNotBegun h.posted_phase h.has_round p o'.spaces
  pub grows : Grows o.spaces o'.spaces
  pub holds : hold_of h o'.spaces.has_marked seat ≡ hold_of h o.spaces.has_marked seat
  pub forwards : (x : Addr) → forward o'.spaces x ≡ forward o.spaces x
  pub live_back : (x : Addr) → is_live h.posted_phase o'.spaces x ≡ true → is_live h.posted_phase o.spaces x ≡ true
  pub pass_back : (x : Addr) → passes hold h.posted_phase o'.spaces x ≡ true → passes hold h.posted_phase o.spaces x ≡ true

-- a change that leaves all marks is one
pub alike_change : (tree : Tree) (words : ℕ) (h : Handshakes) (p : Progress) (seat : Seat) (hold : Hold) (o o' : Objects) → AreAlike o.spaces o'.spaces → IsSoundHeap tree h.posted_phase h.has_round words p o'.spaces → IsChange tree words h p seat hold o o'
alike_change tree words h p seat hold o o' alike sound = record {
  sound = sound;
  begun = alike_not_begun o.spaces o'.spaces alike h.posted_phase h.has_round p;
  grows = alike_grows o.spaces o'.spaces alike;
  holds = ap (λ t. hold_of h t seat) alike.has_marked;
  forwards = alike.forwards;
  live_back = λ x live. sym (live_stays o.spaces o'.spaces alike h.posted_phase x) ∙ live;
  pass_back = λ x pass. sym (passes_still o.spaces o'.spaces alike hold h.posted_phase x) ∙ pass;
}

module _ (tree : Tree) (words : ℕ) (h : Handshakes) (p : Progress) (seat : Seat) (first : Objects) (all : Names) (name : Names) (o : Objects) (ss : List Value) (s : State) (fits : FitsCollected tree words h p seat first all name o ss s)
    (o' : Objects) (change : IsChange tree words h p seat (first_hold h seat first) o o') where
  -- twins are the same
  pub twins_then : (a b : ℕ) → AreTwins o.spaces a b → AreTwins o'.spaces a b
  twins_then a b twins = twins_stay tree h.posted_phase h.has_round words p o.spaces fits.sound o'.spaces a b (change.forwards (record { number = a })) (change.forwards (record { number = b })) twins

  pub twins_before : (a b : ℕ) → AreTwins o'.spaces a b → AreTwins o.spaces a b
  twins_before a b twins = twins_stay tree h.posted_phase h.has_round words p o'.spaces change.sound o.spaces a b (sym (change.forwards (record { number = a }))) (sym (change.forwards (record { number = b }))) twins

  -- and so is the other copy of an old object
  pub copy_before : (a b : ℕ) → other_of (cell_in o'.spaces.old (record { number = a })) ≡ Some (record { number = b }) → other_of (cell_in o.spaces.old (record { number = a })) ≡ Some (record { number = b })
  copy_before a b other = copy_stays tree h.posted_phase h.has_round words p o'.spaces change.sound o.spaces a b (sym (change.forwards (record { number = a }))) other

  -- so names are those of one object as before
  pub names_stay : HasOneName fits.whole o'.spaces
  names_stay = record {
    one = λ a b n is is'. elim (fits.heap.names.one a b n is is') [ inl same ↦ inl same | inr twins ↦ inr (twins_then a b twins) ];
    twins = λ a b n k is is' twins. fits.heap.names.twins a b n k is is' (twins_before a b twins);
  }

  -- static fields may hold what they held
  pub statics_still : (number : ℕ) (v : Value) → slice_get ss number ≡ Some v → ValuePasses (static_may_hold h.posted_phase o'.spaces p number) v
  statics_still number v there =
      value_weakens (static_may_hold h.posted_phase o.spaces p number) (static_may_hold h.posted_phase o'.spaces p number)
      (λ a held. passes_then o.spaces o'.spaces change.grows (static_hold_of h.posted_phase p number) h.posted_phase a held) v (fits.static_holds number v there)

  -- all of it fits where the heap and the static fields represent a state
  pub change_fits : (ss' : List Value) (s' : State) → IsHeap tree fits.whole o' s' → AreStatics fits.whole ss' s'.statics → ((number : ℕ) (v : Value) → slice_get ss' number ≡ Some v → ValuePasses (static_may_hold h.posted_phase o'.spaces p number) v) →
      FitsCollected tree words h p seat first all name o' ss' s'
  change_fits ss' s' heap refines static_holds = record {
    sound = change.sound;
    on_time = λ own time late. change.begun (fits.on_time own time late);
    grows = grows_then first.spaces o.spaces o'.spaces fits.grows change.grows;
    holds = change.holds ∙ fits.holds;
    whole = fits.whole;
    extends = fits.extends;
    heap = heap;
    live = λ a n is. live_grows o.spaces o'.spaces change.grows h.posted_phase (record { number = a }) (fits.live a n is);
    filled = λ a b n is other live. fits.filled a b n is (copy_before a b other) (change.live_back (record { number = b }) live);
    cut = λ a n is. let c = fits.cut a n is in (c.0, passes_then o.spaces o'.spaces change.grows (first_hold h seat first) h.posted_phase (record { number = a }) c.1);
    is_cut = λ a n is pass. fits.is_cut a n is (change.pass_back (record { number = a }) pass);
    refines = refines;
    static_holds = static_holds;
  }

  -- the heap, by its objects and literals
  pub heap_then : (s' : State) → ((a n : ℕ) → fits.whole a ≡ Some (Born n) → IsBornAt tree fits.whole o' s' a n) → ((a : ℕ) (characters : List ℕ) → fits.whole a ≡ Some (Literal characters) → IsLiteralAt tree o' s' a characters) → IsHeap tree fits.whole o' s'
  heap_then s' born literals = record {
    null_unnamed = fits.heap.null_unnamed;
    small = fits.heap.small;
    names = names_stay;
    born = born;
    literals = literals;
    each_literal = fits.heap.each_literal;
  }

  -- literals stay where their monitors do
  pub literals_stay : (s' : State) → o'.literals ≡ o.literals → s'.literal_monitors ≡ s.literal_monitors → (a : ℕ) (characters : List ℕ) → fits.whole a ≡ Some (Literal characters) → IsLiteralAt tree o' s' a characters
  literals_stay s' same same' a characters is = literal_beside tree o o' s s' same same' a characters (fits.heap.literals a characters is)

-- the same with other static fields, beside other threads and printed bytes
pub fits_beside : (tree : Tree) (words : ℕ) (h : Handshakes) (p : Progress) (seat : Seat) (first : Objects) (all : Names) (name : Names) (o : Objects) (ss ss' : List Value) (s s' : State) (fits : FitsCollected tree words h p seat first all name o ss s) → s'.objects ≡ s.objects → s'.literal_monitors ≡ s.literal_monitors → AreStatics fits.whole ss' s'.statics → ((number : ℕ) (v : Value) → slice_get ss' number ≡ Some v → ValuePasses (static_may_hold h.posted_phase o.spaces p number) v) → FitsCollected tree words h p seat first all name o ss' s'
fits_beside tree words h p seat first all name o ss ss' s s' fits objects monitors refines holds =
    change_fits tree words h p seat first all name o ss s fits o (alike_change tree words h p seat (first_hold h seat first) o o (alike_itself o.spaces) fits.sound) ss' s'
    (heap_beside tree fits.whole o s s' objects monitors fits.heap) refines holds

pub collected_beside : (tree : Tree) (words : ℕ) (h : Handshakes) (p : Progress) (seat : Seat) (first : Objects) (all : Names) (name : Names) (o : Objects) (ss : List Value) (s : State) (fits : FitsCollected tree words h p seat first all name o ss s) (s' : State) → IsBeside s s' → FitsCollected tree words h p seat first all name o ss s'
collected_beside tree words h p seat first all name o ss s fits s' same =
    fits_beside tree words h p seat first all name o ss ss s s' fits same.objects same.monitors (subst (λ es. AreStatics fits.whole ss es) (sym same.statics) fits.refines) fits.static_holds

-- ---- marks

-- a cell that was marked represents what it represented
pub marked_refines : (tree : Tree) (name : Names) (c d : Cell) (object : _) → IsButMarked c d → IsCell tree name c object → IsCell tree name d object
marked_refines tree name c d object (inl same) refines = subst (λ (x : Cell). IsCell tree name x object) (sym same) refines
marked_refines tree name c d object (inr same) refines =
    let marked : IsCell tree name (set_mark c) object = record { contents = refines.contents; monitor = refines.monitor } in
    subst (λ (x : Cell). IsCell tree name x object) (sym same) marked

module _ (m : Spaces) (q x : Addr) where
  -- a mark makes nothing old
  mark_old_back : (t : Bool) → is_old (marked_if t m q) x ≡ true → is_old m x ≡ true
  mark_old_back false is = is
  mark_old_back true is = by_cell (cell_in (change_in set_mark m.old q) x) refl is
    where
      by_cell : (r : Option Cell) → cell_in (change_in set_mark m.old q) x ≡ r → is_some r ≡ true → is_old m x ≡ true
      by_cell None lies there = never there
      by_cell (Some d) lies there = let u = after_in set_mark (λ c. refl) m.old q x d lies in old_is m x u.0 u.1

  -- and leaves forwards
  mark_forward : (t : Bool) → forward (marked_if t m q) x ≡ forward m x
  mark_forward false = refl
  mark_forward true = forward-change set_mark (λ c. refl) (λ c. refl) m q x

value_mark_old_back : (o : Objects) (v : Value) (x : Addr) → is_old (with_marked o v).spaces x ≡ true → is_old o.spaces x ≡ true
value_mark_old_back o (Ref a) x is = mark_old_back o.spaces a x (is_white (cell_in o.spaces.old a)) is
value_mark_old_back o _ x is = is

value_mark_forward : (o : Objects) (v : Value) (x : Addr) → forward (with_marked o v).spaces x ≡ forward o.spaces x
value_mark_forward o (Ref a) x = mark_forward o.spaces a x (is_white (cell_in o.spaces.old a))
value_mark_forward o _ x = refl

-- what may be held by any live hold stays so once something was marked
any_stays : (s t u w b : Bool) → (if s then NewOnly else if t && (u && (w && not b)) then MarkedOnly else AnyLive) ≡ AnyLive → (if s then NewOnly else if t && (u && (w && false)) then MarkedOnly else AnyLive) ≡ AnyLive
any_stays true t u w b e = absurd cc
any_stays false false u w b e = refl
any_stays false true false w b e = refl
any_stays false true true false b e = refl
any_stays false true true true b e = refl

module _ (tree : Tree) (words : ℕ) (h : Handshakes) (p : Progress) (seat : Seat) (close : IsClose h seat) (first : Objects) (all : Names) (name : Names) (o : Objects) (ss : List Value) (s : State) (fits : FitsCollected tree words h p seat first all name o ss s)
    (v : Value) (u : StateValue) (is : IsValue name v u) where
  abbrev FitsStill : Objects → Type 0
  FitsStill q = FitsCollected tree words h p seat first all name q ss s

  pass : ValuePasses (passes (first_hold h seat first) h.posted_phase o.spaces) v
  pass = value_passes tree words h p seat first all name o ss s fits v u is

  -- what is marked isn't marked again
  marked_again : ValuePasses (is_marked_address o.spaces) v → FitsStill (with_marked o v)
  marked_again marked = subst FitsStill (sym (value_mark_same o v fits.sound.blocks.spaces marked)) fits

  module _ (now : h.posted_phase ≡ Mark) (any : first_hold h seat first ≡ AnyLive) where
    holds_then : (with_marked o v).spaces.has_marked ≡ true → hold_of h (with_marked o v).spaces.has_marked seat ≡ hold_of h o.spaces.has_marked seat
    holds_then some =
        ap (λ t. hold_of h t seat) some
        ∙ any_stays (is_flipping seat.phase && is_flipping h.posted_phase) (is_marking h.posted_phase) h.has_round seat.answered o.spaces.has_marked (fits.holds ∙ any)
        ∙ sym (fits.holds ∙ any)

    mark_change : IsChange tree words h p seat (first_hold h seat first) o (with_marked o v)
    mark_change = record {
      sound = subst (λ q. IsSoundHeap tree q h.has_round words p (with_marked o v).spaces) (sym now) (value_mark_sound tree h.has_round words p o v (subst (λ q. IsSoundHeap tree q h.has_round words p o.spaces) now fits.sound));
      begun = value_mark_not_begun h.posted_phase h.has_round p o v;
      grows = value_mark_grows o v;
      holds = elim (value_mark_grows o v).has_marked [ inl same ↦ ap (λ t. hold_of h t seat) same | inr some ↦ holds_then some ];
      forwards = value_mark_forward o v;
      live_back = back;
      pass_back = λ x pass'. subst (λ y. passes y h.posted_phase o.spaces x ≡ true) (sym any) (back x (subst (λ y. passes y h.posted_phase (with_marked o v).spaces x ≡ true) any pass'));
    }
      where
        back : (x : Addr) → is_live h.posted_phase (with_marked o v).spaces x ≡ true → is_live h.posted_phase o.spaces x ≡ true
        back x live =
            subst (λ q. is_live q o.spaces x ≡ true) (sym now)
            (or_more (is_permanent x) (is_old (with_marked o v).spaces x) (is_old o.spaces x) (value_mark_old_back o v x) (subst (λ q. is_live q (with_marked o v).spaces x ≡ true) now live))

    born_then : (a n : ℕ) → fits.whole a ≡ Some (Born n) → IsBornAt tree fits.whole (with_marked o v) s a n
    born_then a n named =
        let b = fits.heap.born a n named in
        let after = value_mark_leaves o v (record { number = a }) b.cell b.lies in
        record { no_literal = b.no_literal; cell = after.0; lies = after.1; object = b.object; is = b.is; refines = marked_refines tree fits.whole b.cell after.0 b.object after.2 b.refines }

    marks_fit : FitsStill (with_marked o v)
    marks_fit =
        change_fits tree words h p seat first all name o ss s fits (with_marked o v) mark_change ss s
        (heap_then tree words h p seat first all name o ss s fits (with_marked o v) mark_change s born_then (literals_stay tree words h p seat first all name o ss s fits (with_marked o v) mark_change s (static_literals Mark o [] 0 v) refl))
        fits.refines
        (statics_still tree words h p seat first all name o ss s fits (with_marked o v) mark_change)

  -- by what the thread may hold
  marked_by : (x : Hold) → first_hold h seat first ≡ x → h.posted_phase ≡ Mark → FitsStill (with_marked o v)
  marked_by AnyLive e now = marks_fit now e
  marked_by MarkedOnly e now = marked_again (subst (λ y. ValuePasses (passes y h.posted_phase o.spaces) v) e pass)
  marked_by NewOnly e now =
      let late : is_new_live h.posted_phase ≡ true = subst (λ y. HoldMeans h.posted_phase h.has_round o.spaces y) e (means tree words h p seat first all name o ss s fits) in
      never (sym (ap is_new_live now) ∙ late)

  -- once Allocate is posted what it may hold is marked
  marked_late : h.posted_phase ≡ Allocate → FitsStill (with_marked o v)
  marked_late now =
      marked_again
      (value_weakens (passes (first_hold h seat first) h.posted_phase o.spaces) (is_marked_address o.spaces)
      (λ a held. subst (λ q. is_live q o.spaces a ≡ true) now (held_is_live h.posted_phase h.has_round o.spaces (first_hold h seat first) (means tree words h p seat first all name o ss s fits) a held)) v pass)

  marked_fits : seat.phase ≡ Mark → FitsStill (with_marked o v)
  marked_fits own = elim (close_is_beside h seat close) [
    | inl now ↦ marked_by (first_hold h seat first) refl (sym now ∙ own)
    | inr late ↦ marked_late (sym late ∙ ap phase_after own)
  ]

  -- a thread in Mark marks what it stores first
  pub first_fits : FitsStill (marked_first seat.phase o v)
  first_fits = by_phase seat.phase refl
    where
      by_phase : (q : Phase) → seat.phase ≡ q → FitsStill (marked_first q o v)
      by_phase Mark e = marked_fits e
      by_phase _ e = fits

-- ---- A static field gets a value in a heap with a collector.

-- ---- lists

-- another element at an index, which represents all that the first one represents
agree_again : {A B : Type 0} (R : A → B → Type 0) (x z : A) → ((y : B) → R x y → R z y) → (xs : List A) (ys : List B) (n : ℕ) → Agree R (slice_set xs n x) ys → Agree R (slice_set xs n z) ys
agree_again R x z f [] ys n h = h
agree_again R x z f (w ∷ ws) [] zero h = elim h [ ]
agree_again R x z f (w ∷ ws) [] (suc n) h = elim h [ ]
agree_again R x z f (w ∷ ws) (y ∷ ys) zero h = (f y h.0, h.1)
agree_again R x z f (w ∷ ws) (y ∷ ys) (suc n) h = (h.0, agree_again R x z f ws ys n h.1)

-- ---- forwards

-- both copies have all words beside a thread in a phase in which they have them, as they have in the next one
late_beside : (own posted_phase : Phase) → has_words own ≡ true → has_words (phase_after own) ≡ true → IsBesidePhase own posted_phase → has_words posted_phase ≡ true
late_beside own posted_phase now next (inl same) = ap has_words (sym same) ∙ now
late_beside own posted_phase now next (inr after) = ap has_words (sym after) ∙ next

-- ---- the heap beside a thread

module _ (tree : Tree) (words : ℕ) (h : Handshakes) (p : Progress) (seat : Seat) (close : IsClose h seat) (first : Objects) (time : IsOnTime seat.phase h.posted_phase h.has_round p first.spaces) (all : Names) (name : Names) (o : Objects) (ss : List Value) (s : State)
    (fits : FitsCollected tree words h p seat first all name o ss s) where
  -- the thread is beside the heap
  pub beside_heap : IsBesideHeap tree seat.phase h.posted_phase h.has_round words p o
  beside_heap = record { beside = close_is_beside h seat close; on_time = fits.on_time seat.phase time; sound = fits.sound }

  module _ (v : Value) (u : StateValue) (is : IsValue name v u) where
    -- the value may be held by the phase
    pub value_held : ValuePasses (passes (held_by seat.phase h.posted_phase) h.posted_phase o.spaces) v
    value_held =
        value_weakens (passes (first_hold h seat first) h.posted_phase o.spaces) (passes (held_by seat.phase h.posted_phase) h.posted_phase o.spaces)
        (λ a pass. passes_is_held tree words h p seat first all name o ss s fits a pass) v (value_passes tree words h p seat first all name o ss s fits v u is)

    -- it can be stored
    pub collected_static_storable : is_static_storable seat.phase o v ≡ true
    collected_static_storable = static_is_storable tree h.posted_phase h.has_round words p o seat.phase v beside_heap value_held

-- ---- the store

module _ (tree : Tree) (words : ℕ) (h : Handshakes) (p : Progress) (seat : Seat) (first : Objects) (all : Names) (name : Names) (n : ℕ) (v : Value) (ss : List Value) (s : State) (entries : List (FieldKey × StateValue))
    (refines : AreStatics name (slice_set ss n v) entries) where
  -- a field gets a value that represents the same
  static_set : (q : Objects) (fits : FitsCollected tree words h p seat first all name q ss s) (w : Value) → ((u : StateValue) → IsValue fits.whole v u → IsValue fits.whole w u) → ValuePasses (static_may_hold h.posted_phase q.spaces p n) w →
      FitsCollected tree words h p seat first all name q (slice_set ss n w) (record s { statics = entries })
  static_set q fits w same pass =
      fits_beside tree words h p seat first all name q ss (slice_set ss n w) s (record s { statics = entries }) fits refl refl
      (agree_again (λ x (f : FieldKey × StateValue). IsValue fits.whole x f.1) v w (λ f. same f.1) ss entries n
      (agree_weaken (λ x (f : FieldKey × StateValue). IsValue name x f.1) (λ x (f : FieldKey × StateValue). IsValue fits.whole x f.1)
      (λ x f is. value_extends name fits.whole (own_extends tree words h p seat first all name q ss s fits) x f.1 is) (slice_set ss n v) entries refines))
      (λ number x there. elim (set_here_or_there ss n number w x there) [
        | inl here ↦
            subst (λ k. ValuePasses (static_may_hold h.posted_phase q.spaces p k) x) (sym here.0)
            (subst (λ y. ValuePasses (static_may_hold h.posted_phase q.spaces p n) y) (sym here.1) pass)
        | inr still ↦ fits.static_holds number x still.1
      ])

  module _ (close : IsClose h seat) (time : IsOnTime seat.phase h.posted_phase h.has_round p first.spaces) (o : Objects) (fits : FitsCollected tree words h p seat first all name o ss s) (u : StateValue) (is : IsValue name v u) where
    abbrev FitsStored : Phase → Type 0
    FitsStored own = FitsCollected tree words h p seat first all name (stored_static own o ss n v).0 (stored_static own o ss n v).1 (record s { statics = entries })

    -- the field may hold what it gets
    fit : (own : Phase) → seat.phase ≡ own → ValuePasses (static_may_hold h.posted_phase (stored_static own o ss n v).0.spaces p n) (value_for_static own o v)
    fit own e =
        subst (λ q. ValuePasses (static_may_hold h.posted_phase (stored_static q o ss n v).0.spaces p n) (value_for_static q o v)) e
        (static_fits tree h.has_round words p o ss n v seat.phase h.posted_phase (beside_heap tree words h p seat close first time all name o ss s fits) (value_held tree words h p seat close first time all name o ss s fits v u is))

    beside_own : (own : Phase) → seat.phase ≡ own → IsBesidePhase own h.posted_phase
    beside_own own e = subst (λ q. IsBesidePhase q h.posted_phase) e (close_is_beside h seat close)

    -- a field gets the value as it is, or its forward
    plain : ValuePasses (static_may_hold h.posted_phase o.spaces p n) v → FitsCollected tree words h p seat first all name o (slice_set ss n v) (record s { statics = entries })
    plain pass = static_set o fits v (λ x same. same) pass

    flipped : has_words h.posted_phase ≡ true → ValuePasses (static_may_hold h.posted_phase o.spaces p n) (forward_value o v) → FitsCollected tree words h p seat first all name o (slice_set ss n (forward_value o v)) (record s { statics = entries })
    flipped late pass = static_set o fits (forward_value o v) (λ x same. value_forwarded tree h.posted_phase h.has_round words p o fits.sound late fits.whole fits.filled v x same) pass

    marked : seat.phase ≡ Mark → ValuePasses (static_may_hold h.posted_phase (with_marked o v).spaces p n) v → FitsCollected tree words h p seat first all name (with_marked o v) (slice_set ss n v) (record s { statics = entries })
    marked e pass =
        let then_fits : FitsCollected tree words h p seat first all name (with_marked o v) ss s =
        subst (λ q. FitsCollected tree words h p seat first all name (marked_first q o v) ss s) e (first_fits tree words h p seat close first all name o ss s fits v u is)
        in
        static_set (with_marked o v) then_fits v (λ x same. same) pass

    -- by what the thread has acknowledged
    pub collected_static_stores : FitsStored seat.phase
    collected_static_stores = by_phase seat.phase refl
      where
        by_phase : (own : Phase) → seat.phase ≡ own → FitsStored own
        by_phase Idle e = plain (fit Idle e)
        by_phase Mark e = marked e (fit Mark e)
        by_phase Allocate e = plain (fit Allocate e)
        by_phase Copy e = plain (fit Copy e)
        by_phase PreFlip e = flipped (late_beside PreFlip h.posted_phase refl refl (beside_own PreFlip e)) (fit PreFlip e)
        by_phase HeapFlip e = flipped (late_beside HeapFlip h.posted_phase refl refl (beside_own HeapFlip e)) (fit HeapFlip e)
        by_phase ThreadFlip e = plain (fit ThreadFlip e)
        by_phase Reclaim e = plain (fit Reclaim e)
