-- An object is born in a heap with a collector: its address gets the next name, and so does that of its other copy where both are live.
use Rattle.std.proofs.Common.{◌≡◌, ◌⊎◌, inl, inr, ℕ, zero, suc, ◌+◌, ◌<◌, ◌==◌, Bool, true, false, if◌then◌else◌, List, [], ◌∷◌, ◌++◌, length, replicate, Option, Some, None, slice_get, refl, sym, ap, subst, ◌∙◌, arith}
use Rattle.std.specs.Prelude.{◌&&◌, nat_le, unwrap_or, ◌||◌}
use Rattle.std.proofs.lemmas.Bool.{and_parts, eq-eqb, eqb-true}
use Rattle.std.proofs.lemmas.Bool.Decides.{nat_tests}
use Rattle.std.proofs.lemmas.Option.{same_Some, slice_get_within, none-some}
use Rattle.interpreter.specs.cil_model.declared.phases.Phase.{Phase}
use Rattle.interpreter.specs.cil_model.declared.trees.Tree.{Tree}
use Rattle.interpreter.specs.cil_model.Fields.{FieldKey}
use Rattle.interpreter.proofs.cil_model.Lists.{last_is_there, none_is_some}
use Rattle.interpreter.specs.reference_machine.Values.{Born, Literal, ObjectName, Value as StateValue}
use Rattle.interpreter.specs.reference_machine.States.{Contents, Free as IsFree, HeapObject, State, next_name, with_birth as with_state_birth}
use Rattle.interpreter.specs.object_memory.declared.addresses.Addr.{Addr}
use Rattle.interpreter.specs.object_memory.declared.addresses.TheConstants.{ADDRESSES}
use Rattle.interpreter.specs.object_memory.declared.kinds.Kind.{Kind}
use Rattle.interpreter.specs.object_memory.declared.monitors.Monitor.{Monitor}
use Rattle.interpreter.specs.object_memory.declared.values.Value.{Value}
use Rattle.interpreter.specs.object_memory.Cells.{Cell, cell_in, literal}
use Rattle.interpreter.specs.object_memory.Objects.{Objects, object_cell}
use Rattle.interpreter.specs.object_memory.Spaces.{Spaces, address_at, birth_space_of, give_birth, forward, other_of, room_for}
use Rattle.interpreter.specs.instructions.barriers.Barriers.{can_allocate, object_born}
use Rattle.interpreter.proofs.object_memory.TwoSpaces.TwoBlocks.{new_is_cell, no_literal, old_is_cell, are_distinct}
use Rattle.collector.specs.phase_handshake.Handshakes.{Handshakes, IsClose}
use Rattle.collector.specs.phase_handshake.declared.posts.Seat.{Seat}
use Rattle.collector.specs.References.{is_permanent}
use Rattle.collector.specs.Phases.{is_live, is_marked_old, is_new, is_marked_cell}
use Rattle.collector.specs.Soundness.{IsSoundHeap}
use Rattle.collector.specs.Holds.{AnyLive, Hold, IsOnTime, MarkedOnly, NewOnly, hold_of, passes, static_hold_of, static_may_hold}
use Rattle.collector.specs.declared.progress.Progress.{Progress}
use Rattle.collector.proofs.Births.NewCells.{IsBirth as IsBornCell, IsEmpty, bears_two}
use Rattle.collector.proofs.Copies.VisibleCopies.{has_words}
use Rattle.collector.proofs.Births.BirthSoundness.{IsNear, birth_forwards, birth_held, birth_is, birth_marks_nothing, birth_may_be_held, birth_on_time, birth_sound, birth_tests, can_bear_near, near_of_close, refused}
use Rattle.collector.proofs.ThreadReferences.LiveValues.{held_is_live}
use Rattle.collector.proofs.Marks.MarksOfStores.{Grows, grows_then, live_grows, passes_then, value_weakens}
use Rattle.collector.proofs.Addresses.Disjunctions.{either_true, or_first, or_second}
use Rattle.simulation.specs.Refines.{AreTwins, HasOneName, IsBornAt, IsCell, IsHeap, IsMonitor, IsOfContents, IsValue, Names}
use Rattle.simulation.proofs.ListLaws.AgreeingLists.{agree_weaken}
use Rattle.simulation.proofs.Representation.MoreNames.{cell_extends, value_extends}
use Rattle.simulation.proofs.RetainedWords.CycleNames.{marked_before_birth, new_before_birth}
use Rattle.simulation.proofs.Memory.MemoryModels.{IsBirth}
use Rattle.simulation.proofs.CollectedHeap.TwoCopies.{AreOldAndNew, copies_apart, copy_stays, forward_either, new_forward_itself, noted, noted_twin, old_forward, same_forward, twins_either, twins_forward, twins_late, twins_stay, twins_sym, words_not_last, copy_is_new, words_are_live}
use Rattle.simulation.proofs.CollectedHeap.VisibleNames.{FitsCollected, cut_is, cut_names, first_hold, is_cut_name, named_passes, named_whole}
use Rattle.simulation.proofs.CollectedHeap.ObjectChanges.{born_number}
use Rattle.simulation.proofs.Memory.NamedAddresses.{literal_beside}
use Rattle.interpreter.specs.cil_model.declared.phases.Phase.TheVariants.{PreFlip, HeapFlip, ThreadFlip}
use Rattle.interpreter.proofs.cil_model.SameLaws.{never}
use Rattle.collector.proofs.Addresses.Tests.{new_is_live, same_address}

-- ---- Where both copies of an object have all words, both are live.

-- a marked old object is live while both copies have all words
marked_is_live : (posted_phase : Phase) (m : Spaces) (a : Addr) → has_words posted_phase ≡ true → is_marked_old m a ≡ true → is_live posted_phase m a ≡ true
marked_is_live PreFlip m a late marked = or_second (is_permanent a) (is_marked_old m a || is_new m a) (or_first (is_marked_old m a) (is_new m a) marked)
marked_is_live HeapFlip m a late marked = or_second (is_permanent a) (is_marked_old m a || is_new m a) (or_first (is_marked_old m a) (is_new m a) marked)
marked_is_live ThreadFlip m a late marked = or_second (is_permanent a) (is_marked_old m a || is_new m a) (or_first (is_marked_old m a) (is_new m a) marked)
marked_is_live _ m a late marked = never late

module _ (tree : Tree) (posted_phase : Phase) (has_round : Bool) (words : ℕ) (p : Progress) (m : Spaces) (sound : IsSoundHeap tree posted_phase has_round words p m) (late : has_words posted_phase ≡ true) where
  -- and so is each of two copies
  copy_live : (a b : Addr) → AreOldAndNew m a b → (is_live posted_phase m a ≡ true) × (is_live posted_phase m b ≡ true)
  copy_live a b copies = (
    marked_is_live posted_phase m a late (ap is_marked_cell copies.old ∙ sound.copies.marked_only a copies.from copies.old (λ none. none-some b (sym none ∙ copies.out))),
    new_is_live posted_phase m b (words_are_live posted_phase late) (copy_is_new tree posted_phase has_round words p m sound a b copies),
  )

  pub twin_live : (a b : ℕ) → AreTwins m a b → is_live posted_phase m (record { number = b }) ≡ true
  twin_live a b twins = elim (twins_either tree posted_phase has_round words p m sound a b twins) [
    | inl copies ↦ (copy_live (record { number = a }) (record { number = b }) copies).1
    | inr copies ↦ (copy_live (record { number = b }) (record { number = a }) copies).0
  ]

-- ---- lists

-- what is there stays where one more comes after it
get_stays : {X : Type 0} (xs : List X) (y : X) (n : ℕ) (x : X) → slice_get xs n ≡ Some x → slice_get (xs ++ y ∷ []) n ≡ Some x
get_stays [] y n x e = none_is_some x e
get_stays (z ∷ zs) y zero x e = e
get_stays (z ∷ zs) y (suc n) x e = get_stays zs y n x e

-- an object that was born is no literal
not_literal : {A : Type 0} (n : ℕ) (characters : List ℕ) → Born n ≡ Literal characters → A
not_literal n characters e = absurd (lost e)
  where
    lost : Born n ≡ Literal characters → ⊥
    lost h = cc

-- ---- births

module _ (tree : Tree) (words : ℕ) (h : Handshakes) (p : Progress) (seat : Seat) (close : IsClose h seat) (first : Objects) (time : IsOnTime seat.phase h.posted_phase h.has_round p first.spaces) (all : Names) (name : Names) (o : Objects) (ss : List Value) (s : State)
    (fits : FitsCollected tree words h p seat first all name o ss s) where
  near : IsNear seat.phase h.posted_phase
  near = near_of_close h seat close

  time_now : IsOnTime seat.phase h.posted_phase h.has_round p o.spaces
  time_now = fits.on_time seat.phase time

  -- the thread can bear
  pub collected_bears : can_allocate seat.phase o ≡ true
  collected_bears = can_bear_near tree seat.phase h.posted_phase near h.has_round words p o time_now fits.sound

  module _ (k : Kind) (count : ℕ) (contents : Contents) (contents_refine : (names : Names) → IsOfContents tree names k (replicate count 0) contents None)
      (o' : Objects) (a : Addr) (e : ◌≡◌ {A = Objects × Option Addr} (object_born seat.phase o k count) (o', Some a)) where
    abbrev s' : State
    s' = with_state_birth s contents

    sound : IsSoundHeap tree h.posted_phase h.has_round words p o'.spaces
    sound = birth_sound tree seat.phase h.posted_phase near h.has_round words p o time_now fits.sound k count o' a e

    birth : IsBornCell seat.phase k count o o' a
    birth = birth_is tree seat.phase h.posted_phase near h.has_round words p o time_now fits.sound k count o' a e

    -- what was old, marked or new is so
    grows : Grows o.spaces o'.spaces
    grows =
        let stay = birth_tests tree seat.phase h.posted_phase near h.has_round words p o time_now fits.sound k count o' a e in
        record { old = stay.old; marked = stay.marked; new = stay.new; has_marked = inl (birth_marks_nothing tree seat.phase h.posted_phase near h.has_round words p o time_now fits.sound k count o' a e) }

    holds_then : hold_of h o'.spaces.has_marked seat ≡ first_hold h seat first
    holds_then = ap (λ t. hold_of h t seat) (birth_marks_nothing tree seat.phase h.posted_phase near h.has_round words p o time_now fits.sound k count o' a e) ∙ fits.holds

    -- the thread may hold what it bore
    own_passes : passes (first_hold h seat first) h.posted_phase o'.spaces a ≡ true
    own_passes = subst (λ x. passes x h.posted_phase o'.spaces a ≡ true) holds_then (birth_may_be_held tree h seat close words p o time_now fits.sound k count o' a e)

    own_live : is_live h.posted_phase o'.spaces a ≡ true
    own_live = held_is_live seat.phase h.posted_phase o'.spaces a (birth_held tree seat.phase h.posted_phase near h.has_round words p o time_now fits.sound k count o' a e)

    -- ---- the new addresses

    abbrev IsNewly : ℕ → Type 0
    IsNewly x = (x ≡ a.number) ⊎ ((x ≡ (forward o'.spaces a).number) × (is_live h.posted_phase o'.spaces (record { number = x }) ≡ true))

    newly_live : (x : ℕ) → IsNewly x → is_live h.posted_phase o'.spaces (record { number = x }) ≡ true
    newly_live x (inl own) = subst (λ (b : Addr). is_live h.posted_phase o'.spaces b ≡ true) (same_address a (record { number = x }) (sym own)) own_live
    newly_live x (inr other) = other.1

    -- an empty object lies there, where none lay
    abbrev HasEmpty : Addr → Type 0
    HasEmpty b = (c : Cell) × (object_cell o' b ≡ Some c) × IsEmpty k count c × (object_cell o b ≡ None)

    own_empty : HasEmpty a
    own_empty = (birth.cell, birth.lies, birth.empty, birth.nobody)

    other_empty : HasEmpty (forward o'.spaces a)
    other_empty = by_two (bears_two seat.phase) refl
      where
        by_two : (t : Bool) → bears_two seat.phase ≡ t → HasEmpty (forward o'.spaces a)
        by_two true two = let r = birth.twin two in (r.0, r.1, r.2.empty, r.2.nobody)
        by_two false one = subst (λ (b : Addr). HasEmpty b) (sym (birth.alone one)) own_empty

    newly_empty : (x : ℕ) → IsNewly x → HasEmpty (record { number = x })
    newly_empty x (inl own) = subst (λ (b : Addr). HasEmpty b) (same_address a (record { number = x }) (sym own)) own_empty
    newly_empty x (inr other) = subst (λ (b : Addr). HasEmpty b) (same_address (forward o'.spaces a) (record { number = x }) (sym other.0)) other_empty

    -- so they had no names
    unnamed : {A : Type 0} (x : ℕ) (n : ObjectName) → IsNewly x → fits.whole x ≡ Some n → A
    unnamed x (Born n) new is = let b = fits.heap.born x n is in none_is_some b.cell (sym (newly_empty x new).3 ∙ b.lies)
    unnamed x (Literal characters) new is =
        let l = fits.heap.literals x characters is in
        let r = newly_empty x new in
        none_is_some l.number (sym (no_literal o'.spaces sound.blocks.spaces (record { number = x }) r.0 r.1) ∙ l.has_id)

    -- ---- the names

    -- the next name at the new addresses, and all others as before
    abbrev whole : Names
    whole x =
        if x == a.number then Some (next_name s)
        else if (x == (forward o'.spaces a).number) && is_live h.posted_phase o'.spaces (record { number = x }) then Some (next_name s)
        else fits.whole x

    who : (x : ℕ) (n : ObjectName) → whole x ≡ Some n → (IsNewly x × (next_name s ≡ n)) ⊎ (fits.whole x ≡ Some n)
    who x n is = by_own (x == a.number) refl is
      where
        by_other : (t : Bool) → ((x == (forward o'.spaces a).number) && is_live h.posted_phase o'.spaces (record { number = x })) ≡ t → (if t then Some (next_name s) else fits.whole x) ≡ Some n → (IsNewly x × (next_name s ≡ n)) ⊎ (fits.whole x ≡ Some n)
        by_other true test is =
            let both = and_parts (x == (forward o'.spaces a).number) (is_live h.posted_phase o'.spaces (record { number = x })) test in
            inl (inr (eqb-true x (forward o'.spaces a).number both.0, both.1), same_Some (next_name s) n is)
        by_other false test is = inr is

        by_own : (t : Bool) → (x == a.number) ≡ t → (if t then Some (next_name s) else if (x == (forward o'.spaces a).number) && is_live h.posted_phase o'.spaces (record { number = x }) then Some (next_name s) else fits.whole x) ≡ Some n →
            (IsNewly x × (next_name s ≡ n)) ⊎ (fits.whole x ≡ Some n)
        by_own true test is = inl (inl (eqb-true x a.number test), same_Some (next_name s) n is)
        by_own false test is = by_other ((x == (forward o'.spaces a).number) && is_live h.posted_phase o'.spaces (record { number = x })) refl is

    newly_named : (x : ℕ) → IsNewly x → whole x ≡ Some (next_name s)
    newly_named x (inl own) = let test : (x == a.number) ≡ true = eq-eqb x a.number own in rw test refl
    newly_named x (inr other) = by_own (x == a.number)
      where
        by_own : (t : Bool) → (if t then Some (next_name s) else if (x == (forward o'.spaces a).number) && is_live h.posted_phase o'.spaces (record { number = x }) then Some (next_name s) else fits.whole x) ≡ Some (next_name s)
        by_own true = refl
        by_own false =
            let test : (x == (forward o'.spaces a).number) ≡ true = eq-eqb x (forward o'.spaces a).number other.0 in
            let live = other.1 in
            rw (test, live) refl

    kept : (x : ℕ) (n : ObjectName) → fits.whole x ≡ Some n → whole x ≡ Some n
    kept x n is = by_own (x == a.number) refl
      where
        by_other : (t : Bool) → ((x == (forward o'.spaces a).number) && is_live h.posted_phase o'.spaces (record { number = x })) ≡ t → (if t then Some (next_name s) else fits.whole x) ≡ Some n
        by_other true test =
            let both = and_parts (x == (forward o'.spaces a).number) (is_live h.posted_phase o'.spaces (record { number = x })) test in
            unnamed x n (inr (eqb-true x (forward o'.spaces a).number both.0, both.1)) is
        by_other false test = is

        by_own : (t : Bool) → (x == a.number) ≡ t → (if t then Some (next_name s) else if (x == (forward o'.spaces a).number) && is_live h.posted_phase o'.spaces (record { number = x }) then Some (next_name s) else fits.whole x) ≡ Some n
        by_own true test = unnamed x n (inl (eqb-true x a.number test)) is
        by_own false test = by_other ((x == (forward o'.spaces a).number) && is_live h.posted_phase o'.spaces (record { number = x })) refl

    -- the new name was nobody's
    fresh : {A : Type 0} (x : ℕ) → fits.whole x ≡ Some (next_name s) → A
    fresh x is =
        let b = fits.heap.born x (length s.objects) is in
        let inside : length s.objects < length s.objects = slice_get_within s.objects (length s.objects) b.object b.is in
        absurd (omega (arith, inside))

    -- what has a name is live
    live_then : (x : ℕ) (n : ObjectName) → whole x ≡ Some n → is_live h.posted_phase o'.spaces (record { number = x }) ≡ true
    live_then x n is = elim (who x n is) [
      | inl new ↦ newly_live x new.0
      | inr was ↦ live_grows o.spaces o'.spaces grows h.posted_phase (record { number = x }) (fits.live x n was)
    ]

    -- ---- twins

    -- twins of new addresses are new
    module _ (x y : ℕ) (new : IsNewly x) (twins : AreTwins o'.spaces x y) (live : is_live h.posted_phase o'.spaces (record { number = y }) ≡ true) where
      late : has_words h.posted_phase ≡ true
      late = twins_late tree h.posted_phase h.has_round words p o'.spaces sound x y twins (newly_live x new) live

      -- both have one forward
      other_forward : forward o'.spaces (forward o'.spaces a) ≡ forward o'.spaces a
      other_forward = elim (forward_either tree h.posted_phase h.has_round words p o'.spaces sound a) [
        | inl own ↦ ap (forward o'.spaces) own
        | inr copies ↦ new_forward_itself tree h.posted_phase h.has_round words p o'.spaces sound a (forward o'.spaces a) copies
      ]

      newly_forward : forward o'.spaces (record { number = x }) ≡ forward o'.spaces a
      newly_forward = elim new [
        | inl own ↦ ap (forward o'.spaces) (same_address (record { number = x }) a own)
        | inr other ↦ ap (forward o'.spaces) (same_address (record { number = x }) (forward o'.spaces a) other.0) ∙ other_forward
      ]

      twin_forward : forward o'.spaces a ≡ forward o'.spaces (record { number = y })
      twin_forward = sym newly_forward ∙ twins_forward tree h.posted_phase h.has_round words p o'.spaces sound x y twins

      -- no old object has the new address as its other copy
      no_copy : {A : Type 0} → AreOldAndNew o'.spaces (record { number = y }) a → A
      no_copy copies = elim (birth.came (record { number = y }) copies.from (old_is_cell o'.spaces (record { number = y }) copies.from copies.old)) [
        | inl was ↦ lost (twins_either tree h.posted_phase h.has_round words p o.spaces fits.sound y a.number (noted_twin tree h.posted_phase h.has_round words p o.spaces fits.sound (record { number = y }) a copies.from was copies.out))
        | inr here ↦ elim here [
          | inl same ↦ absurd (copies_apart tree h.posted_phase h.has_round words p o'.spaces sound (record { number = y }) a copies same)
          | inr other ↦
              absurd (copies_apart tree h.posted_phase h.has_round words p o'.spaces sound (record { number = y }) a copies
              (sym other.copy ∙ new_forward_itself tree h.posted_phase h.has_round words p o'.spaces sound (record { number = y }) a copies))
        ]
      ]
        where
          lost : {A : Type 0} → AreOldAndNew o.spaces (record { number = y }) a ⊎ AreOldAndNew o.spaces a (record { number = y }) → A
          lost (inl c) = none_is_some c.to (sym birth.nobody ∙ new_is_cell o.spaces fits.sound.blocks.spaces a c.to c.new)
          lost (inr c) = none_is_some c.from (sym birth.nobody ∙ old_is_cell o.spaces a c.from c.old)

      twin_newly : IsNewly y
      twin_newly = elim (same_forward tree h.posted_phase h.has_round words p o'.spaces sound (words_not_last h.posted_phase late) a (record { number = y }) twin_forward) [
        | inl same ↦ inl (ap (λ (b : Addr). b.number) (sym same))
        | inr own_twins ↦ elim (twins_either tree h.posted_phase h.has_round words p o'.spaces sound a.number y own_twins) [
          | inl copies ↦ inr (ap (λ (b : Addr). b.number) (sym (old_forward tree h.posted_phase h.has_round words p o'.spaces sound a (record { number = y }) copies)), live)
          | inr copies ↦ no_copy copies
        ]
      ]

    -- forwards stay
    forwards : (b : Addr) → is_live h.posted_phase o.spaces b ≡ true → forward o'.spaces b ≡ forward o.spaces b
    forwards = birth_forwards tree seat.phase h.posted_phase near h.has_round words p o time_now fits.sound k count o' a e

    -- the new copy of an object has its name
    filled_then : (x y : ℕ) (n : ObjectName) → whole x ≡ Some n → other_of (cell_in o'.spaces.old (record { number = x })) ≡ Some (record { number = y }) → is_live h.posted_phase o'.spaces (record { number = y }) ≡ true → whole y ≡ Some n
    filled_then x y n is other live = elim (who x n is) [
      | inl new ↦ newly_named y (twin_newly x y new.0 (inl other) live) ∙ ap Some new.1
      | inr was ↦
          (let late = twins_late tree h.posted_phase h.has_round words p o'.spaces sound x y (inl other) (live_then x n is) live in
          let before = copy_stays tree h.posted_phase h.has_round words p o'.spaces sound o.spaces x y (sym (forwards (record { number = x }) (fits.live x n was))) other in
          kept y n (fits.filled x y n was before (twin_live tree h.posted_phase h.has_round words p o.spaces fits.sound late x y (inl before))))
    ]

    -- the new addresses are one or twins
    own_other : (x y : ℕ) → x ≡ a.number → y ≡ (forward o'.spaces a).number → (x ≡ y) ⊎ AreTwins o'.spaces x y
    own_other x y is is' = elim (forward_either tree h.posted_phase h.has_round words p o'.spaces sound a) [
      | inl same ↦ inl (is ∙ ap (λ (b : Addr). b.number) (sym same) ∙ sym is')
      | inr copies ↦
          inr (inl (ap (λ (b : Addr). other_of (cell_in o'.spaces.old b)) (same_address (record { number = x }) a is) ∙ noted tree h.posted_phase h.has_round words p o'.spaces sound a (forward o'.spaces a) copies
          ∙ ap Some (same_address (forward o'.spaces a) (record { number = y }) (sym is'))))
    ]

    newly_one : (x y : ℕ) → IsNewly x → IsNewly y → (x ≡ y) ⊎ AreTwins o'.spaces x y
    newly_one x y (inl own) (inl own') = inl (own ∙ sym own')
    newly_one x y (inr other) (inr other') = inl (other.0 ∙ sym other'.0)
    newly_one x y (inl own) (inr other) = own_other x y own other.0
    newly_one x y (inr other) (inl own) = elim (own_other y x own other.0) [ inl same ↦ inl (sym same) | inr twins ↦ inr (twins_sym o'.spaces y x twins) ]

    names_then : HasOneName whole o'.spaces
    names_then = record {
      one = λ x y n is is'. elim (who x n is) [
        | inl new ↦ elim (who y n is') [
          | inl new' ↦ newly_one x y new.0 new'.0
          | inr was' ↦ fresh y (was' ∙ ap Some (sym new.1))
        ]
        | inr was ↦ elim (who y n is') [
          | inl new' ↦ fresh x (was ∙ ap Some (sym new'.1))
          | inr was' ↦ elim (fits.heap.names.one x y n was was') [
            | inl same ↦ inl same
            | inr twins ↦
                inr (twins_stay tree h.posted_phase h.has_round words p o.spaces fits.sound o'.spaces x y (forwards (record { number = x }) (fits.live x n was)) (forwards (record { number = y }) (fits.live y n was')) twins)
          ]
        ]
      ];
      twins = λ x y n j is is' twins. elim twins [
        | inl other ↦ same_Some n j (sym (filled_then x y n is other (live_then y j is')) ∙ is')
        | inr other ↦ same_Some n j (sym is ∙ filled_then y x j is' other (live_then x n is))
      ];
    }

    -- ---- the heap

    abbrev new_object : HeapObject
    new_object = record { contents = contents; monitor = IsFree; thread = None }

    -- an empty object represents the new one
    empty_refines : (c : Cell) → IsEmpty k count c → IsCell tree whole c new_object
    empty_refines c empty = record {
      contents =
          subst (λ x. IsOfContents tree whole x c.slots contents None) (sym empty.kind)
          (subst (λ (ws : List ℕ). IsOfContents tree whole k ws contents None) (sym empty.zeros) (contents_refine whole));
      monitor = subst (λ (x : Monitor). IsMonitor x IsFree) (sym empty.free) tt;
    }

    born_new : (x : ℕ) → IsNewly x → IsBornAt tree whole o' s' x (length s.objects)
    born_new x new =
        let r = newly_empty x new in
        record {
          no_literal = no_literal o'.spaces sound.blocks.spaces (record { number = x }) r.0 r.1;
          cell = r.0;
          lies = r.1;
          object = new_object;
          is = last_is_there s.objects new_object;
          refines = empty_refines r.0 r.2;
        }

    born_before : (x n : ℕ) → fits.whole x ≡ Some (Born n) → IsBornAt tree whole o' s' x n
    born_before x n is =
        let b = fits.heap.born x n is in
        record {
          no_literal = b.no_literal;
          cell = b.cell;
          lies = birth.others (record { number = x }) b.cell b.lies;
          object = b.object;
          is = get_stays s.objects new_object n b.object b.is;
          refines = cell_extends fits.whole whole kept tree b.cell b.object b.refines;
        }

    born_then : (x n : ℕ) → whole x ≡ Some (Born n) → IsBornAt tree whole o' s' x n
    born_then x n is = elim (who x (Born n) is) [
      | inl new ↦ subst (λ j. IsBornAt tree whole o' s' x j) (born_number (length s.objects) n new.1) (born_new x new.0)
      | inr was ↦ born_before x n was
    ]

    small_then : (x : ℕ) (n : ObjectName) → whole x ≡ Some n → x < ADDRESSES
    small_then x n is = elim (who x n is) [
      | inl new ↦
          (let r = newly_empty x new.0 in
          let low = (are_distinct o'.spaces sound.blocks.spaces (record { number = x }) r.0 r.1).1 in
          omega (arith, low))
      | inr was ↦ fits.heap.small x n was
    ]

    null_then : whole 0 ≡ None
    null_then = by_name (whole 0) refl
      where
        by_name : (r : Option ObjectName) → whole 0 ≡ r → whole 0 ≡ None
        by_name None is = is
        by_name (Some n) is = elim (who 0 n is) [
          | inl new ↦
              (let r = newly_empty 0 new.0 in
              let positive = (are_distinct o'.spaces sound.blocks.spaces (record { number = 0 }) r.0 r.1).0 in
              absurd (omega (arith, positive)))
          | inr was ↦ none_is_some n (sym fits.heap.null_unnamed ∙ was)
        ]

    heap_then : IsHeap tree whole o' s'
    heap_then = record {
      null_unnamed = null_then;
      small = small_then;
      names = names_then;
      born = born_then;
      literals = λ x characters is. elim (who x (Literal characters) is) [
        | inl new ↦ not_literal (length s.objects) characters new.1
        | inr was ↦ literal_beside tree o o' s s' birth.literals refl x characters (fits.heap.literals x characters was)
      ];
      each_literal = λ n characters is. kept (literal n).number (Literal characters) (fits.heap.each_literal n characters is);
    }

    -- ---- all

    abbrev names : Names
    names = cut_names (first_hold h seat first) h.posted_phase o'.spaces whole

    fits_then : FitsCollected tree words h p seat first all names o' ss s'
    fits_then = record {
      sound = sound;
      on_time = λ own before. birth_on_time tree seat.phase h.posted_phase near h.has_round words p o time_now fits.sound k count o' a e own (fits.on_time own before);
      grows = grows_then first.spaces o.spaces o'.spaces fits.grows grows;
      holds = holds_then;
      whole = whole;
      extends = λ x n is. kept x n (fits.extends x n is);
      heap = heap_then;
      live = live_then;
      filled = filled_then;
      cut = λ x n is. cut_is (first_hold h seat first) h.posted_phase o'.spaces whole x n is;
      is_cut = λ x n is pass. is_cut_name (first_hold h seat first) h.posted_phase o'.spaces whole x n is pass;
      refines = agree_weaken (λ v (f : FieldKey × StateValue). IsValue fits.whole v f.1) (λ v (f : FieldKey × StateValue). IsValue whole v f.1) (λ v f is. value_extends fits.whole whole kept v f.1 is) ss s.statics fits.refines;
      static_holds = λ number v there.
          value_weakens (static_may_hold h.posted_phase o.spaces p number) (static_may_hold h.posted_phase o'.spaces p number)
          (λ b pass. passes_then o.spaces o'.spaces grows (static_hold_of h.posted_phase p number) h.posted_phase b pass) v (fits.static_holds number v there);
    }

    -- the object that is born has the next name
    pub collected_births : IsBirth (FitsCollected tree words h p seat first all) name ss s contents o' a
    collected_births = record {
      names = names;
      extends = λ x n is.
          is_cut_name (first_hold h seat first) h.posted_phase o'.spaces whole x n (kept x n (named_whole tree words h p seat first all name o ss s fits x n is))
          (passes_then o.spaces o'.spaces grows (first_hold h seat first) h.posted_phase (record { number = x }) (named_passes tree words h p seat first all name o ss s fits x n is));
      named = is_cut_name (first_hold h seat first) h.posted_phase o'.spaces whole a.number (next_name s) (newly_named a.number (inl refl)) own_passes;
      fits = fits_then;
    }

    -- what it may hold then and had a name it might hold before
    held_before : (x : ℕ) (n : ObjectName) → fits.whole x ≡ Some n → (y : Hold) → passes y h.posted_phase o'.spaces (record { number = x }) ≡ true → passes y h.posted_phase o.spaces (record { number = x }) ≡ true
    held_before x n is AnyLive pass = fits.live x n is
    held_before x n is MarkedOnly pass = elim (either_true (is_permanent (record { number = x })) (is_marked_old o'.spaces (record { number = x })) pass) [
      | inl permanent ↦ or_first (is_permanent (record { number = x })) (is_marked_old o.spaces (record { number = x })) permanent
      | inr marked ↦ elim (marked_before_birth seat.phase h.posted_phase near o fits.sound.blocks.spaces k count o' a e (record { number = x }) marked) [
        | inl was ↦ or_second (is_permanent (record { number = x })) (is_marked_old o.spaces (record { number = x })) was
        | inr here ↦ unnamed x n (inl (ap (λ (b : Addr). b.number) here)) is
      ]
    ]
    held_before x n is NewOnly pass = elim (either_true (is_permanent (record { number = x })) (is_new o'.spaces (record { number = x })) pass) [
      | inl permanent ↦ or_first (is_permanent (record { number = x })) (is_new o.spaces (record { number = x })) permanent
      | inr new ↦ elim (new_before_birth seat.phase h.posted_phase near o fits.sound.blocks.spaces k count o' a e (record { number = x }) new) [
        | inl was ↦ or_second (is_permanent (record { number = x })) (is_new o.spaces (record { number = x })) was
        | inr here ↦ elim here [
          | inl own ↦ unnamed x n (inl (ap (λ (b : Addr). b.number) own)) is
          | inr other ↦
              unnamed x n (inr (ap (λ (y : Option Addr). (unwrap_or y a).number) (sym other), live_grows o.spaces o'.spaces grows h.posted_phase (record { number = x }) (fits.live x n is))) is
        ]
      ]
    ]

    -- no other name comes
    pub births_only : (x : ℕ) (n : ObjectName) → collected_births.names x ≡ Some n → (name x ≡ Some n) ⊎ (next_name s ≡ n)
    unfolding collected_births
    births_only x n is =
        let both = cut_is (first_hold h seat first) h.posted_phase o'.spaces whole x n is in
        elim (who x n both.0) [
          | inl new ↦ inr new.1
          | inr was ↦ inl (fits.is_cut x n was (held_before x n was (first_hold h seat first) both.1))
        ]

    -- the other copy of what is born has its name, once it is live
    pub births_copied : (x : Addr) → other_of (cell_in o'.spaces.old a) ≡ Some x → is_live h.posted_phase o'.spaces x ≡ true → passes (first_hold h seat first) h.posted_phase o'.spaces x ≡ true → collected_births.names x.number ≡ Some (next_name s)
    unfolding collected_births
    births_copied x other live pass =
        is_cut_name (first_hold h seat first) h.posted_phase o'.spaces whole x.number (next_name s) (filled_then a.number x.number (next_name s) (newly_named a.number (inl refl)) other live) pass

-- ---- births that are refused

abbrev outcome : Phase → Objects → Kind → ℕ → Bool → Spaces × Option Addr
outcome own o k count t = if t then (give_birth (birth_space_of own o.spaces.is_open) o.spaces k count, Some (address_at (birth_space_of own o.spaces.is_open) o.spaces)) else (o.spaces, None)

-- they change nothing, and the object exceeds the room
pub collected_refusals : (own : Phase) (o : Objects) (k : Kind) (count : ℕ) (o' : Objects) → ◌≡◌ {A = Objects × Option Addr} (object_born own o k count) (o', None) → (o' ≡ o) × (room_for own o.spaces < 3 + count)
collected_refusals own o k count o' e = (refused own o k count o' e, by_room (nat_le (3 + count) (room_for own o.spaces)) refl (ap (λ (x : Objects × Option Addr). x.1) e))
  where
    by_room : (t : Bool) → nat_le (3 + count) (room_for own o.spaces) ≡ t → (outcome own o k count t).1 ≡ None → room_for own o.spaces < 3 + count
    by_room true test is = none_is_some (address_at (birth_space_of own o.spaces.is_open) o.spaces) (sym is)
    by_room false test is = grind (arith, nat_tests)
