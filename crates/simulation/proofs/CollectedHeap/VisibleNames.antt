-- A heap with a collector, as a thread may see it: names of what is live, cut to what the thread may hold.
-- References of a heap with a collector compare as the objects do: by forwards where a thread may hold both copies of one, else by their numbers.
use Rattle.std.proofs.Common.{◌≡◌, ◌<◌, ℕ, ◌+◌, ◌==◌, Bool, true, false, if◌then◌else◌, List, Option, Some, None, is_some, slice_get, refl, sym, ap, subst, ◌∙◌, arith, ◌≢◌, inl, inr, IsSome}
use Rattle.std.specs.Prelude.{nat_lt, ◌&&◌}
use Rattle.std.proofs.lemmas.Bool.Decides.{nat_tests}
use Rattle.interpreter.specs.cil_model.declared.phases.Phase.{Phase}
use Rattle.interpreter.specs.cil_model.declared.trees.Tree.{Tree}
use Rattle.interpreter.specs.cil_model.Legality.{IsLegal}
use Rattle.interpreter.proofs.cil_model.Lists.{none_is_some}
use Rattle.interpreter.specs.reference_machine.Values.{Born, Literal, ObjectName, Value as StateValue, same_object}
use Rattle.interpreter.specs.reference_machine.States.{State}
use Rattle.interpreter.specs.object_memory.declared.addresses.Addr.{Addr}
use Rattle.interpreter.specs.object_memory.declared.addresses.TheConstants.{ADDRESSES, FIRST_LITERAL}
use Rattle.interpreter.specs.object_memory.declared.values.Value.{Value}
use Rattle.interpreter.specs.object_memory.declared.values.Value.TheVariants.{Ref}
use Rattle.interpreter.specs.object_memory.Cells.{cell_in, literal, literal_number, null}
use Rattle.interpreter.specs.object_memory.Objects.{Objects}
use Rattle.interpreter.specs.object_memory.Spaces.{Spaces, other_of, forward, is_there}
use Rattle.interpreter.proofs.object_memory.Spaces.{slots_few}
use Rattle.reference_machine.specs.TypedStates.{IsTyped}
use Rattle.collector.specs.phase_handshake.Handshakes.{Handshakes, IsClose}
use Rattle.collector.specs.phase_handshake.declared.posts.Seat.{Seat}
use Rattle.collector.specs.References.{SlotsPass, ValuePasses, is_permanent, reference_in}
use Rattle.collector.specs.Phases.{is_live, is_live_object, is_marked_old, is_new, is_new_address}
use Rattle.collector.specs.Soundness.{IsSoundHeap}
use Rattle.collector.specs.Holds.{AnyLive, Hold, IsOnTime, MarkedOnly, NewOnly, hold_of, passes, static_may_hold, is_flipping}
use Rattle.collector.specs.declared.progress.Progress.{Progress}
use Rattle.collector.proofs.ThreadReferences.LiveValues.{held_by, may_hold_is_held, reference_again, held_is_new, live_is_there}
use Rattle.collector.proofs.Marks.MarksOfStores.{Grows, grows_itself}
use Rattle.collector.proofs.Addresses.Disjunctions.{or_first, or_second}
use Rattle.collector.proofs.Addresses.Tests.{HoldMeans, hold_means, loads_may_be_held, new_has_cell, same_address}
use Rattle.simulation.specs.Refines.{Extends, IsBornAt, IsHeap, IsWord, Names, AreTwins}
use Rattle.simulation.proofs.Memory.MemoryModels.{AreStatics, IsReadable, IsReference}
use Rattle.simulation.proofs.Memory.ReferenceSlots.{IsLinked, is_reference_state, typed_is_linked}
use Rattle.simulation.proofs.CollectedHeap.RewrittenCells.{AreRewritten, contents_rewritten}
use Rattle.simulation.proofs.CollectedHeap.TwoCopies.{by_reference, AreOldAndNew, forward_is_null, same_forward, twins_either, twins_forward, twins_late}
use Rattle.simulation.proofs.Memory.NamedAddresses.{born_renamed}
use Rattle.std.proofs.lemmas.Bool.{eqb-true, eq-eqb, ne_eqb, and_from}
use Rattle.std.proofs.lemmas.Option.{same_Some}
use Rattle.interpreter.specs.cil_model.declared.phases.Phase.TheVariants.{Copy, PreFlip, HeapFlip, ThreadFlip, Reclaim}
use Rattle.interpreter.proofs.cil_model.SameLaws.{never, same_text_equal, same_text_itself}
use Rattle.interpreter.specs.reference_machine.Cycles.{phase_after}
use Rattle.interpreter.specs.instructions.barriers.Barriers.{are_comparable, are_same, compares_forwards}
use Rattle.interpreter.proofs.object_memory.TwoSpaces.TwoBlocks.{apart, forward_null, old_is_cell}
use Rattle.collector.proofs.Copies.VisibleCopies.{has_words}
use Rattle.collector.proofs.HeapStores.ReachedCopies.{IsBeside, close_is_beside}

-- ---- what fits

-- what the thread may hold in this step: by what was marked when it began
abbrev pub first_hold : Handshakes → Seat → Objects → Hold
first_hold h seat first = hold_of h first.spaces.has_marked seat

-- The heap is sound, and represents the state under names of live addresses, where the new copy of a named old object has its name once it is live.
-- The thread's own names are those of what it may hold. The static fields hold what they may. What was so when the step began is so still.
pub record FitsCollected (tree : Tree) (words : ℕ) (h : Handshakes) (p : Progress) (seat : Seat) (first : Objects) (all : Names) (name : Names) (o : Objects) (ss : List Value) (s : State) : Type 0 where
  pub sound : IsSoundHeap tree h.posted_phase h.has_round words p o.spaces
  pub on_time : (own : Phase) → IsOnTime own h.posted_phase h.has_round p first.spaces → IsOnTime own h.posted_phase h.has_round p o.spaces
  pub grows : Grows first.spaces o.spaces
  pub holds : hold_of h o.spaces.has_marked seat ≡ first_hold h seat first
  pub whole : Names
  pub extends : Extends all whole
  pub heap : IsHeap tree whole o s
  pub live : (a : ℕ) (n : ObjectName) → whole a ≡ Some n → is_live h.posted_phase o.spaces (record { number = a }) ≡ true
  pub filled : (a b : ℕ) (n : ObjectName) → whole a ≡ Some n → other_of (cell_in o.spaces.old (record { number = a })) ≡ Some (record { number = b }) → is_live h.posted_phase o.spaces (record { number = b }) ≡ true → whole b ≡ Some n
  pub cut : (a : ℕ) (n : ObjectName) → name a ≡ Some n → (whole a ≡ Some n) × (passes (first_hold h seat first) h.posted_phase o.spaces (record { number = a }) ≡ true)
  pub is_cut : (a : ℕ) (n : ObjectName) → whole a ≡ Some n → passes (first_hold h seat first) h.posted_phase o.spaces (record { number = a }) ≡ true → name a ≡ Some n
  pub refines : AreStatics whole ss s.statics
  pub static_holds : (number : ℕ) (v : Value) → slice_get ss number ≡ Some v → ValuePasses (static_may_hold h.posted_phase o.spaces p number) v

-- ---- null and literals

pub literal_permanent : (n : ℕ) → is_permanent (literal n) ≡ true
literal_permanent n = or_second ((literal n).number == 0) (is_some (literal_number (literal n))) there
  where
    there : is_some (literal_number (literal n)) ≡ true
    there = let test : nat_lt (FIRST_LITERAL + n) FIRST_LITERAL ≡ false = grind (arith, nat_tests) in rw test refl

-- each thread may hold them
pub permanent_passes : (hold : Hold) (posted_phase : Phase) (m : Spaces) (a : Addr) → is_permanent a ≡ true → passes hold posted_phase m a ≡ true
permanent_passes AnyLive posted_phase m a e = or_first (is_permanent a) (is_live_object posted_phase m a) e
permanent_passes MarkedOnly posted_phase m a e = or_first (is_permanent a) (is_marked_old m a) e
permanent_passes NewOnly posted_phase m a e = or_first (is_permanent a) (is_new m a) e

-- ---- cut names

-- the names of what passes
abbrev pub cut_names : Hold → Phase → Spaces → Names → Names
cut_names hold posted_phase m whole a = if passes hold posted_phase m (record { number = a }) then whole a else None

module _ (hold : Hold) (posted_phase : Phase) (m : Spaces) (whole : Names) (a : ℕ) (n : ObjectName) where
  pub cut_is : cut_names hold posted_phase m whole a ≡ Some n → (whole a ≡ Some n) × (passes hold posted_phase m (record { number = a }) ≡ true)
  cut_is is = by_test (passes hold posted_phase m (record { number = a })) refl is
    where
      by_test : (b : Bool) → passes hold posted_phase m (record { number = a }) ≡ b → (if b then whole a else None) ≡ Some n → (whole a ≡ Some n) × (passes hold posted_phase m (record { number = a }) ≡ true)
      by_test true test is' = (is', test)
      by_test false test is' = none_is_some n is'

  pub is_cut_name : whole a ≡ Some n → passes hold posted_phase m (record { number = a }) ≡ true → cut_names hold posted_phase m whole a ≡ Some n
  is_cut_name is pass = ap (λ b. if b then whole a else None) pass ∙ is

-- a machine's heap fits when a step begins
pub begins : (tree : Tree) (words : ℕ) (h : Handshakes) (p : Progress) (seat : Seat) (first : Objects) (whole : Names) (ss : List Value) (s : State) →
    IsSoundHeap tree h.posted_phase h.has_round words p first.spaces → IsHeap tree whole first s →
    ((a : ℕ) (n : ObjectName) → whole a ≡ Some n → is_live h.posted_phase first.spaces (record { number = a }) ≡ true) →
    ((a b : ℕ) (n : ObjectName) → whole a ≡ Some n → other_of (cell_in first.spaces.old (record { number = a })) ≡ Some (record { number = b }) → is_live h.posted_phase first.spaces (record { number = b }) ≡ true → whole b ≡ Some n) →
    AreStatics whole ss s.statics → ((number : ℕ) (v : Value) → slice_get ss number ≡ Some v → ValuePasses (static_may_hold h.posted_phase first.spaces p number) v) →
    FitsCollected tree words h p seat first whole (cut_names (first_hold h seat first) h.posted_phase first.spaces whole) first ss s
begins tree words h p seat first whole ss s sound heap live filled refines static_holds = record {
  sound = sound;
  on_time = λ own time. time;
  grows = grows_itself first.spaces;
  holds = refl;
  whole = whole;
  extends = λ a n is. is;
  heap = heap;
  live = live;
  filled = filled;
  cut = λ a n is. cut_is (first_hold h seat first) h.posted_phase first.spaces whole a n is;
  is_cut = λ a n is pass. is_cut_name (first_hold h seat first) h.posted_phase first.spaces whole a n is pass;
  refines = refines;
  static_holds = static_holds;
}

module _ (tree : Tree) (words : ℕ) (h : Handshakes) (p : Progress) (seat : Seat) (first : Objects) (all : Names) (name : Names) (o : Objects) (ss : List Value) (s : State) (fits : FitsCollected tree words h p seat first all name o ss s) where
  abbrev hold : Hold
  hold = first_hold h seat first

  -- what the hold means
  pub means : HoldMeans h.posted_phase h.has_round o.spaces hold
  means = subst (HoldMeans h.posted_phase h.has_round o.spaces) fits.holds (hold_means h o.spaces seat)

  -- what passes may be held by the phase alone
  pub passes_is_held : (a : Addr) → passes hold h.posted_phase o.spaces a ≡ true → passes (held_by seat.phase h.posted_phase) h.posted_phase o.spaces a ≡ true
  passes_is_held a pass = may_hold_is_held h o.spaces seat a (subst (λ x. passes x h.posted_phase o.spaces a ≡ true) (sym fits.holds) pass)

  module _ (a : ℕ) (n : ObjectName) (is : name a ≡ Some n) where
    -- an own name is one of all,
    pub named_whole : fits.whole a ≡ Some n
    named_whole = (fits.cut a n is).0

    -- may be held,
    pub named_passes : passes hold h.posted_phase o.spaces (record { number = a }) ≡ true
    named_passes = (fits.cut a n is).1

    pub named_held : passes (held_by seat.phase h.posted_phase) h.posted_phase o.spaces (record { number = a }) ≡ true
    named_held = passes_is_held (record { number = a }) named_passes

    -- and is live
    pub named_live : is_live h.posted_phase o.spaces (record { number = a }) ≡ true
    named_live = fits.live a n named_whole

  -- all own names are among the whole ones
  pub own_extends : Extends name fits.whole
  own_extends a n is = named_whole a n is

  -- ---- reading

  -- null has no name
  pub null_has_none : name 0 ≡ None
  null_has_none = by_name (name 0) refl
    where
      by_name : (r : Option ObjectName) → name 0 ≡ r → name 0 ≡ None
      by_name None is = is
      by_name (Some n) is = none_is_some n (sym fits.heap.null_unnamed ∙ named_whole 0 n is)

  pub named_small : (a : ℕ) (n : ObjectName) → name a ≡ Some n → a < ADDRESSES
  named_small a n is = fits.heap.small a n (named_whole a n is)

  -- a word of what may be held stands under the own names
  word_is_cut : (w : ℕ) (u : StateValue) → passes hold h.posted_phase o.spaces (reference_in w) ≡ true → is_reference_state u ≡ true → IsWord fits.whole w u → IsWord name w u
  word_is_cut w u pass sort refines = by_reference fits.whole w u (λ x. IsWord name w x) sort refines
      (λ zero value. record { value = Ref (record { number = 0 }); refines = value name; is = sym zero })
      (λ a n is named value.
      let again : reference_in w ≡ a = ap reference_in (sym is) ∙ reference_again a (fits.heap.small a.number n named) in
      record { value = Ref a; refines = value name a (fits.is_cut a.number n named (subst (λ (x : Addr). passes hold h.posted_phase o.spaces x ≡ true) again pass)); is = is })

  -- an object that may be held refers to what may be held
  cell_is_cut : IsLegal tree → IsTyped tree s → (a n : ℕ) → name a ≡ Some (Born n) → IsBornAt tree fits.whole o s a n → IsBornAt tree name o s a n
  cell_is_cut legal typed a n is b =
      born_renamed tree fits.whole name o s a n b (contents_rewritten tree fits.whole name b.cell.kind b.cell.slots b.cell.slots same b.object.contents b.object.thread linked b.refines.contents)
    where
      pass : SlotsPass tree (passes hold h.posted_phase o.spaces) b.cell
      pass = loads_may_be_held tree h.posted_phase h.has_round words p o.spaces fits.sound hold means (record { number = a }) b.cell (named_passes a (Born n) is) b.lies

      linked : IsLinked tree b.cell.kind b.object.contents
      linked = typed_is_linked tree legal s fits.whole b.cell.kind b.cell.slots b.object.contents b.object.thread (typed.objects n b.object b.is) b.refines.contents

      same : AreRewritten tree fits.whole name b.cell.kind b.cell.slots b.cell.slots
      same = record {
        count = refl;
        integers = λ slot w there none. there;
        references = λ slot w there link u sort refines. (w, there, word_is_cut w u (pass slot w there link) sort refines);
      }

  -- what loads find
  pub collected_reads : IsLegal tree → IsTyped tree s → IsReadable tree name o s
  collected_reads legal typed = record {
    null_unnamed = null_has_none;
    small = named_small;
    sizes = slots_few o fits.sound.blocks.spaces;
    born = λ a n is. cell_is_cut legal typed a n is (fits.heap.born a n (named_whole a (Born n) is));
    literals = λ a characters is. fits.heap.literals a characters (named_whole a (Literal characters) is);
    each_literal = λ n characters is. fits.is_cut (literal n).number (Literal characters) (fits.heap.each_literal n characters is) (permanent_passes hold h.posted_phase o.spaces (literal n) (literal_permanent n));
  }

-- ---- References of a heap with a collector compare as the objects do: by forwards where a thread may hold both copies of one, else by their numbers.

-- ---- tests

-- a name is the same as itself, and as no other
same_object_itself : (n : ObjectName) → same_object n n ≡ true
same_object_itself (Born n) = eq-eqb n n refl
same_object_itself (Literal characters) = same_text_itself characters

same_object_equal : (m n : ObjectName) → same_object m n ≡ true → m ≡ n
same_object_equal (Born m) (Born n) h = ap Born (eqb-true m n h)
same_object_equal (Literal a) (Literal b) h = ap Literal (same_text_equal a b h)
same_object_equal _ _ h = never h

-- two tests that imply each other are the same
same_tests : (a b : Bool) → (a ≡ true → b ≡ true) → (b ≡ true → a ≡ true) → a ≡ b
same_tests true b h k = sym (h refl)
same_tests false true h k = k refl
same_tests false false h k = refl

-- ---- phases

-- where forwards are compared, old objects are read
early_late : (own : Phase) → compares_forwards own ≡ true → phase_after own ≢ Reclaim
early_late Copy e is = never (sym (ap has_words is))
early_late PreFlip e is = never (sym (ap has_words is))
early_late HeapFlip e is = never (sym (ap has_words is))
early_late _ e is = never e

pub early_beside : (own posted_phase : Phase) → IsBeside own posted_phase → compares_forwards own ≡ true → posted_phase ≢ Reclaim
early_beside own posted_phase (inl now) e is = never (sym (ap compares_forwards (now ∙ is)) ∙ e)
early_beside own posted_phase (inr late) e is = early_late own e (late ∙ is)

-- where they aren't, and both copies have all words, the thread is flipped
flipped_now : (own : Phase) → compares_forwards own ≡ false → has_words own ≡ true → is_flipping own ≡ true
flipped_now PreFlip e late = never (sym e)
flipped_now HeapFlip e late = never (sym e)
flipped_now ThreadFlip e late = refl
flipped_now _ e late = never late

flipped_late : {A : Type 0} → (own : Phase) → compares_forwards own ≡ false → has_words (phase_after own) ≡ true → A
flipped_late Copy e late = never (sym e)
flipped_late PreFlip e late = never (sym e)
flipped_late HeapFlip e late = never (sym e)
flipped_late _ e late = never late

flipped_beside : (own posted_phase : Phase) → IsBeside own posted_phase → compares_forwards own ≡ false → has_words posted_phase ≡ true → (is_flipping own ≡ true) × (is_flipping posted_phase ≡ true)
flipped_beside own posted_phase (inl now) e late =
    let own_late : is_flipping own ≡ true = flipped_now own e (ap has_words now ∙ late) in
    (own_late, ap is_flipping (sym now) ∙ own_late)
flipped_beside own posted_phase (inr after) e late = flipped_late own e (ap has_words after ∙ late)

-- ---- old and new

-- no old object's address is a new one
old_is_not_new : {A : Type 0} (tree : Tree) (posted_phase : Phase) (has_round : Bool) (words : ℕ) (p : Progress) (m : Spaces) → IsSoundHeap tree posted_phase has_round words p m → (a b : Addr) → AreOldAndNew m a b → is_new_address m a ≡ true → A
old_is_not_new tree posted_phase has_round words p m sound a b copies new =
    let spaces = sound.blocks.spaces in
    absurd (apart m spaces a a copies.from copies.from copies.old (new_has_cell m spaces a copies.from (old_is_cell m a copies.from copies.old) new) refl)

module _ (tree : Tree) (words : ℕ) (h : Handshakes) (p : Progress) (seat : Seat) (close : IsClose h seat) (first : Objects) (all : Names) (name : Names) (o : Objects) (ss : List Value) (s : State) (fits : FitsCollected tree words h p seat first all name o ss s) where
  abbrev m : Spaces
  m = o.spaces

  with_objects : IsBeside seat.phase h.posted_phase
  with_objects = close_is_beside h seat close

  -- ---- what can be compared

  reference_is_there : (a : Addr) → IsReference name a → is_there o.spaces a ≡ true
  reference_is_there a (inl is_null) = subst (λ (x : Addr). is_there o.spaces x ≡ true) (sym is_null) refl
  reference_is_there a (inr some) = by_name (name a.number) refl some
    where
      by_name : (r : Option ObjectName) → name a.number ≡ r → IsSome r → is_there o.spaces a ≡ true
      by_name None is there = never there
      by_name (Some n) is there = live_is_there h.posted_phase o a (named_live tree words h p seat first all name o ss s fits a.number n is)

  pub collected_comparable : (a b : Addr) → IsReference name a → IsReference name b → are_comparable seat.phase o a b ≡ true
  collected_comparable a b is is' = by_test (compares_forwards seat.phase)
    where
      by_test : (t : Bool) → (if t then is_there o.spaces a && is_there o.spaces b else true) ≡ true
      by_test true = and_from (is_there o.spaces a) (is_there o.spaces b) (reference_is_there a is) (reference_is_there b is')
      by_test false = refl

  -- ---- objects

  module _ (a b : Addr) (n k : ObjectName) (is : name a.number ≡ Some n) (is' : name b.number ≡ Some k) where
    -- one address has one name
    one_name : a ≡ b → n ≡ k
    one_name same = same_Some n k (sym is ∙ ap (λ (x : Addr). name x.number) same ∙ is')

    -- twins have one name,
    twin_name : AreTwins m a.number b.number → n ≡ k
    twin_name twins = fits.heap.names.twins a.number b.number n k (named_whole tree words h p seat first all name o ss s fits a.number n is) (named_whole tree words h p seat first all name o ss s fits b.number k is') twins

    -- and a thread that compares by numbers doesn't hold both
    no_twins : {A : Type 0} → compares_forwards seat.phase ≡ false → AreTwins m a.number b.number → A
    no_twins plain twins =
        let live = named_live tree words h p seat first all name o ss s fits a.number n is in
        let live' = named_live tree words h p seat first all name o ss s fits b.number k is' in
        let late = twins_late tree h.posted_phase h.has_round words p m fits.sound a.number b.number twins live live' in
        let flipped = flipped_beside seat.phase h.posted_phase with_objects plain late in
        elim (twins_either tree h.posted_phase h.has_round words p m fits.sound a.number b.number twins) [
          | inl copies ↦
              old_is_not_new tree h.posted_phase h.has_round words p m fits.sound a b copies
              (held_is_new seat.phase h.posted_phase m a flipped.0 flipped.1 (named_held tree words h p seat first all name o ss s fits a.number n is))
          | inr copies ↦
              old_is_not_new tree h.posted_phase h.has_round words p m fits.sound b a copies
              (held_is_new seat.phase h.posted_phase m b flipped.0 flipped.1 (named_held tree words h p seat first all name o ss s fits b.number k is'))
        ]

    -- by forwards
    by_forwards : compares_forwards seat.phase ≡ true → ((forward m a).number == (forward m b).number) ≡ same_object n k
    by_forwards forwards =
        same_tests ((forward m a).number == (forward m b).number) (same_object n k)
        (λ e. elim (same_forward tree h.posted_phase h.has_round words p m fits.sound (early_beside seat.phase h.posted_phase with_objects forwards) a b (same_address (forward m a) (forward m b) (eqb-true (forward m a).number (forward m b).number e))) [
          | inl same ↦ subst (λ x. same_object n x ≡ true) (one_name same) (same_object_itself n)
          | inr twins ↦ subst (λ x. same_object n x ≡ true) (twin_name twins) (same_object_itself n)
        ])
        (λ e. eq-eqb (forward m a).number (forward m b).number (ap (λ (x : Addr). x.number) (one_forward (same_object_equal n k e))))
      where
        one_forward : n ≡ k → forward m a ≡ forward m b
        one_forward same = elim (fits.heap.names.one a.number b.number k (named_whole tree words h p seat first all name o ss s fits a.number k (is ∙ ap Some same)) (named_whole tree words h p seat first all name o ss s fits b.number k is')) [
          | inl equal ↦ ap (forward m) (same_address a b equal)
          | inr twins ↦ twins_forward tree h.posted_phase h.has_round words p m fits.sound a.number b.number twins
        ]

    -- by numbers
    by_numbers : compares_forwards seat.phase ≡ false → (a.number == b.number) ≡ same_object n k
    by_numbers plain =
        same_tests (a.number == b.number) (same_object n k)
        (λ e. subst (λ x. same_object n x ≡ true) (one_name (same_address a b (eqb-true a.number b.number e))) (same_object_itself n))
        (λ e. eq-eqb a.number b.number (one_number (same_object_equal n k e)))
      where
        one_number : n ≡ k → a.number ≡ b.number
        one_number same = elim (fits.heap.names.one a.number b.number k (named_whole tree words h p seat first all name o ss s fits a.number k (is ∙ ap Some same)) (named_whole tree words h p seat first all name o ss s fits b.number k is')) [
          | inl equal ↦ equal
          | inr twins ↦ no_twins plain twins
        ]

    -- references are the same exactly where their objects are
    pub collected_same : are_same seat.phase o a b ≡ same_object n k
    collected_same = by_test (compares_forwards seat.phase) refl
      where
        by_test : (t : Bool) → compares_forwards seat.phase ≡ t → ((if t then forward m a else a).number == (if t then forward m b else b).number) ≡ same_object n k
        by_test true e = by_forwards e
        by_test false e = by_numbers e

  -- ---- null

  pub collected_same_null : are_same seat.phase o null null ≡ true
  collected_same_null = by_test (compares_forwards seat.phase)
    where
      by_test : (t : Bool) → ((if t then forward m null else null).number == (if t then forward m null else null).number) ≡ true
      by_test true = eq-eqb (forward m null).number (forward m null).number refl
      by_test false = refl

  module _ (b : Addr) (k : ObjectName) (is : name b.number ≡ Some k) where
    not_null : b ≡ null → ⊥
    not_null same = none_is_some k (sym (null_has_none tree words h p seat first all name o ss s fits) ∙ ap (λ (x : Addr). name x.number) (sym same) ∙ is)

    -- nor is its forward null
    forward_not_null : (forward m b).number ≡ (forward m null).number → ⊥
    forward_not_null e =
        not_null
        (forward_is_null tree h.posted_phase h.has_round words p m fits.sound b (same_address (forward m b) (forward m null) e ∙ forward_null m fits.sound.blocks.spaces))

    pub collected_null_name : are_same seat.phase o null b ≡ false
    collected_null_name = by_test (compares_forwards seat.phase)
      where
        by_test : (t : Bool) → ((if t then forward m null else null).number == (if t then forward m b else b).number) ≡ false
        by_test true = ne_eqb (forward m null).number (forward m b).number (λ e. forward_not_null (sym e))
        by_test false = ne_eqb 0 b.number (λ e. not_null (same_address b null (sym e)))

    pub collected_name_null : are_same seat.phase o b null ≡ false
    collected_name_null = by_test (compares_forwards seat.phase)
      where
        by_test : (t : Bool) → ((if t then forward m b else b).number == (if t then forward m null else null).number) ≡ false
        by_test true = ne_eqb (forward m b).number (forward m null).number forward_not_null
        by_test false = ne_eqb b.number 0 (λ e. not_null (same_address b null e))
