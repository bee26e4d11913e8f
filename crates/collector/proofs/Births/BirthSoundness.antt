-- Births keep a heap sound, in each pair of phases that a thread and the collector may be in.
use Rattle.std.proofs.Common.{◌≡◌, ◌≢◌, ◌⊎◌, inl, inr, ℕ, ◌+◌, ◌≤◌, Bool, true, false, refl, sym, ap, subst, ◌∙◌, arith}
use Rattle.std.specs.Prelude.{◌&&◌, if◌then◌else◌, is_some, nat_le, not, Option, Some, None}
use Rattle.std.proofs.lemmas.Bool.{or_left, or_right}
use Rattle.std.proofs.lemmas.Bool.Decides.{nat_tests}
use Rattle.std.proofs.lemmas.Option.{none-some, same_Some}
use Rattle.cil_model.specs.declared.phases.Phase.{Phase}
use Rattle.cil_model.specs.declared.phases.Phase.TheVariants.{Idle, Mark, Allocate, Copy, PreFlip, HeapFlip, ThreadFlip, Reclaim}
use Rattle.cil_model.specs.declared.trees.Tree.{Tree}
use Rattle.reference_machine.specs.Cycles.{phase_after}
use Rattle.object_memory.specs.declared.addresses.Addr.{Addr}
use Rattle.object_memory.specs.declared.kinds.Kind.{Kind}
use Rattle.object_memory.specs.Cells.{empty_cell, next_address}
use Rattle.object_memory.specs.Spaces.{AreSpaces, Spaces, address_at, birth_space_of, give_birth, forward, is_within_cycle, room_at}
use Rattle.object_memory.specs.declared.birth_spaces.BirthSpace.{BirthSpace}
use Rattle.object_memory.specs.declared.birth_spaces.BirthSpace.TheVariants.{InBoth, InNew, InOld, Listed}
use Rattle.object_memory.specs.Objects.{Objects}
use Rattle.barriers.specs.Barriers.{can_allocate, object_born}
use Rattle.phase_handshake.specs.Handshakes.{Handshakes, IsClose}
use Rattle.phase_handshake.specs.declared.posts.Seat.{Seat}
use Rattle.collector.specs.Soundness.{IsSoundHeap}
use Rattle.object_memory.proofs.Births.{born-new_last, born-old_last}
use Rattle.collector.specs.Phases.{HasLooked, is_before_copies, is_live, is_marked_address, is_marked_cell, is_marked_old, is_new, is_of_cycle, no_progress}
use Rattle.collector.specs.Holds.{AnyLive, HasNotBegun, Hold, IsOnTime, MarkedOnly, NewOnly, is_flipping, is_marking, may_hold, passes}
use Rattle.object_memory.specs.Spaces.{is_old}
use Rattle.collector.specs.declared.progress.Progress.{Progress}
use Rattle.collector.proofs.Addresses.GrowingBlocks.{TestsStay}
use Rattle.collector.proofs.Births.HeapsAfterBirths.{Suits, born_flags, born_forward, born_heap, born_not_begun, born_stays}
use Rattle.collector.proofs.Births.NewCells.{IsBirth, birth_in}
use Rattle.cil_model.proofs.SameLaws.{never}
use Rattle.collector.proofs.Addresses.Tests.{marking_is_mark}
use Rattle.collector.proofs.HeapStores.ReachedCopies.{not_after}

-- ---- what a thread may hold of what it bore

-- an object of the new block where both the thread and the collector are past the flip of frames, else any live one
abbrev pub birth_hold : (own posted_phase : Phase) → Hold
birth_hold own posted_phase = if is_flipping own && is_flipping posted_phase then NewOnly else AnyLive

module _ (m : Spaces) (h : AreSpaces m) (k : Kind) (n : ℕ) (p : Progress) where
  -- ---- where it lies

  old_there : is_old (give_birth InOld m k n) (next_address m.old) ≡ true
  old_there = ap is_some (born-old_last m h k n InOld (empty_cell k n false None) refl)

  listed_there : is_old (give_birth Listed m k n) (next_address m.old) ≡ true
  listed_there = ap is_some (born-old_last m h k n Listed (empty_cell k n true None) refl)

  listed_marked : is_marked_old (give_birth Listed m k n) (next_address m.old) ≡ true
  listed_marked = ap is_marked_cell (born-old_last m h k n Listed (empty_cell k n true None) refl)

  both_marked : is_marked_old (give_birth InBoth m k n) (next_address m.old) ≡ true
  both_marked = ap is_marked_cell (born-old_last m h k n InBoth (empty_cell k n true (Some (next_address m.new))) refl)

  new_there : is_new (give_birth InNew m k n) (next_address m.new) ≡ true
  new_there = ap is_some (born-new_last m h k n InNew (empty_cell k n false None) refl)

  -- ---- spaces and phases

  in_old : (hold : Hold) (posted_phase : Phase) → passes hold posted_phase (give_birth InOld m k n) (next_address m.old) ≡ true → Suits hold posted_phase p m k n InOld
  in_old hold posted_phase held = record {
    early = λ e. inl refl;
    between = λ e. refl;
    unlooked = λ is. absurd cc;
    room = λ e is. absurd cc;
    clear = λ e is. absurd cc;
    held = held;
  }

  listed : (hold : Hold) (posted_phase : Phase) → is_of_cycle posted_phase ≡ true → (HasLooked posted_phase p m (next_address m.old) → ⊥) → passes hold posted_phase (give_birth Listed m k n) (next_address m.old) ≡ true
      → Suits hold posted_phase p m k n Listed
  listed hold posted_phase within unlooked held = record {
    early = λ e. inr refl;
    between = λ e. never (sym e ∙ within);
    unlooked = λ is. unlooked;
    room = λ e is. absurd cc;
    clear = λ e is. absurd cc;
    held = held;
  }

  in_both : (hold : Hold) (posted_phase : Phase) → is_before_copies posted_phase ≡ false → is_of_cycle posted_phase ≡ true → posted_phase ≢ Reclaim → passes hold posted_phase (give_birth InBoth m k n) (next_address m.old) ≡ true
      → Suits hold posted_phase p m k n InBoth
  in_both hold posted_phase late within further held = record {
    early = λ e. never (sym late ∙ e);
    between = λ e. never (sym e ∙ within);
    unlooked = λ is. absurd cc;
    room = λ e is. absurd cc;
    clear = λ e is. further e;
    held = held;
  }

  in_new : (hold : Hold) (posted_phase : Phase) → is_before_copies posted_phase ≡ false → is_of_cycle posted_phase ≡ true → ((posted_phase ≡ Mark) ⊎ (posted_phase ≡ Allocate) → ⊥) → passes hold posted_phase (give_birth InNew m k n) (next_address m.new) ≡ true
      → Suits hold posted_phase p m k n InNew
  in_new hold posted_phase late within further held = record {
    early = λ e. never (sym late ∙ e);
    between = λ e. never (sym e ∙ within);
    unlooked = λ is. absurd cc;
    room = λ e is. further e;
    clear = λ e is. absurd cc;
    held = held;
  }

  -- a thread that has acknowledged the posted phase
  pub on_time : (own : Phase) → Suits (birth_hold own own) own p m k n (birth_space_of own (is_of_cycle own))
  on_time Idle = in_old AnyLive Idle (or_right _ _ old_there)
  on_time Mark = listed AnyLive Mark refl (λ e. e) (or_right _ _ listed_there)
  on_time Allocate = in_both AnyLive Allocate refl refl (λ is. absurd cc) (or_right _ _ both_marked)
  on_time Copy = in_both AnyLive Copy refl refl (λ is. absurd cc) (or_right _ _ both_marked)
  on_time PreFlip = in_both AnyLive PreFlip refl refl (λ is. absurd cc) (or_right _ _ (or_left _ _ both_marked))
  on_time HeapFlip = in_both AnyLive HeapFlip refl refl (λ is. absurd cc) (or_right _ _ (or_left _ _ both_marked))
  on_time ThreadFlip = in_new NewOnly ThreadFlip refl refl (λ e. elim e [ inl is ↦ absurd cc | inr is ↦ absurd cc ]) (or_right _ _ new_there)
  on_time Reclaim = in_new NewOnly Reclaim refl refl (λ e. elim e [ inl is ↦ absurd cc | inr is ↦ absurd cc ]) (or_right _ _ new_there)

  -- nothing of the old block was looked at
  not_looked : p ≡ no_progress → HasLooked Allocate p m (next_address m.old) → ⊥
  not_looked none looked = absurd (omega (arith, looked, ap (λ (q : Progress). q.cursor) none))

  -- a thread that is late
  pub late : (own : Phase) → p ≡ no_progress → Suits (birth_hold own (phase_after own)) (phase_after own) p m k n (birth_space_of own (is_of_cycle (phase_after own)))
  late Idle none = in_old AnyLive Mark (or_right _ _ old_there)
  late Mark none = listed AnyLive Allocate refl (not_looked none) (or_right _ _ listed_marked)
  late Allocate none = in_both AnyLive Copy refl refl (λ is. absurd cc) (or_right _ _ both_marked)
  late Copy none = in_both AnyLive PreFlip refl refl (λ is. absurd cc) (or_right _ _ (or_left _ _ both_marked))
  late PreFlip none = in_both AnyLive HeapFlip refl refl (λ is. absurd cc) (or_right _ _ (or_left _ _ both_marked))
  late HeapFlip none = in_both AnyLive ThreadFlip refl refl (λ is. absurd cc) (or_right _ _ (or_left _ _ both_marked))
  late ThreadFlip none = in_new NewOnly Reclaim refl refl (λ e. elim e [ inl is ↦ absurd cc | inr is ↦ absurd cc ]) (or_right _ _ new_there)
  late Reclaim none = in_old AnyLive Idle (or_right _ _ old_there)

-- ---- near phases

-- a thread is in the posted phase, or in the one before
abbrev pub IsNear : (own posted_phase : Phase) → Type 0
IsNear own posted_phase = (own ≡ posted_phase) ⊎ (phase_after own ≡ posted_phase)

pub near_of_close : (h : Handshakes) (s : Seat) → IsClose h s → IsNear s.phase h.posted_phase
near_of_close h s (inl is) = inl is
near_of_close h s (inr before) = inr before.0

-- ---- births

module _ (own : Phase) (o : Objects) (k : Kind) (n : ℕ) where
  abbrev space : BirthSpace
  space = birth_space_of own o.spaces.is_open

  abbrev after : Objects
  after = record o { spaces = give_birth space o.spaces k n }

  -- by whether there is room
  abbrev outcome : Bool → Spaces × Option Addr
  outcome t = if t then (give_birth space o.spaces k n, Some (address_at space o.spaces)) else (o.spaces, None)

  abbrev answer : Bool → Objects × Option Addr
  answer t = (record o { spaces = (outcome t).0 }, (outcome t).1)

  -- a birth that is granted fits its space, and makes the object there
  pub granted : (o' : Objects) (a : Addr) → ◌≡◌ {A = Objects × Option Addr} (object_born own o k n) (o', Some a) → (3 + n ≤ room_at space o.spaces) × (after ≡ o') × (address_at space o.spaces ≡ a)
  granted o' a e = by_room (nat_le (3 + n) (room_at space o.spaces)) refl e
    where
      by_room : (t : Bool) → nat_le (3 + n) (room_at space o.spaces) ≡ t → ◌≡◌ {A = Objects × Option Addr} (answer t) (o', Some a)
          → (3 + n ≤ room_at space o.spaces) × (after ≡ o') × (address_at space o.spaces ≡ a)
      by_room true test same = (
        (let room : 3 + n ≤ room_at space o.spaces = grind (arith, nat_tests) in room),
        ap (λ (x : Objects × Option Addr). x.0) same,
        same_Some (address_at space o.spaces) a (ap (λ (x : Objects × Option Addr). x.1) same),
      )
      by_room false test same = elim (none-some a (ap (λ (x : Objects × Option Addr). x.1) same)) [ ]

  -- a refused one changes nothing
  pub refused : (o' : Objects) → ◌≡◌ {A = Objects × Option Addr} (object_born own o k n) (o', None) → o' ≡ o
  refused o' e = by_room (nat_le (3 + n) (room_at space o.spaces)) e
    where
      by_room : (t : Bool) → ◌≡◌ {A = Objects × Option Addr} (answer t) (o', None) → o' ≡ o
      by_room true same = elim (none-some (address_at space o.spaces) (sym (ap (λ (x : Objects × Option Addr). x.1) same))) [ ]
      by_room false same = sym (ap (λ (x : Objects × Option Addr). x.0) same)

-- a thread near the posted phase bears where it can, and what it bears suits the phase
module _ (own posted_phase : Phase) (near : IsNear own posted_phase) where
  -- a phase in which a thread bears only in a cycle is of a cycle,
  can_on_time : (x : Phase) → (if is_within_cycle x then is_of_cycle x else true) ≡ true
  can_on_time Idle = refl
  can_on_time _ = refl

  -- and so is the one after it
  can_late : (x : Phase) → (if is_within_cycle x then is_of_cycle (phase_after x) else true) ≡ true
  can_late Idle = refl
  can_late _ = refl

  -- so the cycle is open where it has to be
  can_near : (if is_within_cycle own then is_of_cycle posted_phase else true) ≡ true
  can_near = elim near [
    | inl is ↦ subst (λ x. (if is_within_cycle own then is_of_cycle x else true) ≡ true) is (can_on_time own)
    | inr is ↦ subst (λ x. (if is_within_cycle own then is_of_cycle x else true) ≡ true) is (can_late own)
  ]

  -- the space of the birth suits the posted phase
  suits_near : (m : Spaces) → AreSpaces m → (k : Kind) (n : ℕ) (p : Progress) → (own ≢ posted_phase → p ≡ no_progress) → Suits (birth_hold own posted_phase) posted_phase p m k n (birth_space_of own (is_of_cycle posted_phase))
  suits_near m h k n p none = elim near [
    | inl is ↦ subst (λ x. Suits (birth_hold own x) x p m k n (birth_space_of own (is_of_cycle x))) is (on_time m h k n p own)
    | inr is ↦ subst (λ x. Suits (birth_hold own x) x p m k n (birth_space_of own (is_of_cycle x))) is (late m h k n p own (none (λ same. not_after own (same ∙ sym is))))
  ]

module _ (tree : Tree) (own posted_phase : Phase) (near : IsNear own posted_phase) (has_round : Bool) (words : ℕ) (p : Progress) (o : Objects)
    (time : IsOnTime own posted_phase has_round p o.spaces) (sound : IsSoundHeap tree posted_phase has_round words p o.spaces) where
  -- the thread can bear
  pub can_bear_near : can_allocate own o ≡ true
  can_bear_near = ap (λ t. if is_within_cycle own then t else true) sound.blocks.held ∙ can_near own posted_phase near

  -- with the cycle as open as the heap has it
  suits : (k : Kind) (n : ℕ) → Suits (birth_hold own posted_phase) posted_phase p o.spaces k n (birth_space_of own o.spaces.is_open)
  suits k n =
      subst (λ t. Suits (birth_hold own posted_phase) posted_phase p o.spaces k n (birth_space_of own t)) (sym sound.blocks.held)
      (suits_near own posted_phase near o.spaces sound.blocks.spaces k n p (λ ne. (time ne).nothing))

  module _ (k : Kind) (n : ℕ) (o' : Objects) (a : Addr) (e : ◌≡◌ {A = Objects × Option Addr} (object_born own o k n) (o', Some a)) where
    -- the birth was granted
    g : (3 + n ≤ room_at (birth_space_of own o.spaces.is_open) o.spaces) × (after own o k n ≡ o') × (address_at (birth_space_of own o.spaces.is_open) o.spaces ≡ a)
    g = granted own o k n o' a e

    -- the heap stays sound
    pub birth_sound : IsSoundHeap tree posted_phase has_round words p o'.spaces
    birth_sound =
        subst (λ (x : Objects). IsSoundHeap tree posted_phase has_round words p x.spaces) g.1
        (born_heap tree (birth_hold own posted_phase) posted_phase has_round words p o.spaces k n (birth_space_of own o.spaces.is_open) sound g.0 (suits k n))

    -- where the collector has not begun, it has not begun still
    pub birth_not_begun : HasNotBegun posted_phase has_round p o.spaces → HasNotBegun posted_phase has_round p o'.spaces
    birth_not_begun before =
        subst (λ (x : Objects). HasNotBegun posted_phase has_round p x.spaces) g.1
        (born_not_begun tree (birth_hold own posted_phase) posted_phase has_round words p o.spaces k n (birth_space_of own o.spaces.is_open) sound g.0 (suits k n) before)

    -- so each thread that was on time stays on time
    pub birth_on_time : (other : Phase) → IsOnTime other posted_phase has_round p o.spaces → IsOnTime other posted_phase has_round p o'.spaces
    birth_on_time other on_time ne = birth_not_begun (on_time ne)

    -- the object is there, and all else is as it was
    pub birth_is : IsBirth own k n o o' a
    birth_is =
        subst (λ (x : Objects). IsBirth own k n o x a) g.1
        (subst (IsBirth own k n o (after own o k n)) g.2 (birth_in own k n o sound.blocks.spaces (birth_space_of own o.spaces.is_open) g.0 refl))

    -- its address may be held
    pub birth_held : passes (birth_hold own posted_phase) posted_phase o'.spaces a ≡ true
    birth_held =
        subst (λ (x : Objects). passes (birth_hold own posted_phase) posted_phase x.spaces a ≡ true) g.1
        (subst (λ x. passes (birth_hold own posted_phase) posted_phase (after own o k n).spaces x ≡ true) g.2 (suits k n).held)

    -- in Mark it is marked
    pub birth_marked : own ≡ Mark → is_marked_address o'.spaces a ≡ true
    birth_marked is =
        let here : is_marked_address (give_birth Listed o.spaces k n) (next_address o.spaces.old) ≡ true = or_right _ _ (listed_marked o.spaces sound.blocks.spaces k n p) in
        let in_space = subst (λ x. is_marked_address (give_birth (birth_space_of x o.spaces.is_open) o.spaces k n) (address_at (birth_space_of x o.spaces.is_open) o.spaces) ≡ true) (sym is) here in
        subst (λ (x : Objects). is_marked_address x.spaces a ≡ true) g.1 (subst (λ x. is_marked_address (after own o k n).spaces x ≡ true) g.2 in_space)

    -- what is old, marked or new stays so
    pub birth_tests : TestsStay o.spaces o'.spaces
    birth_tests =
        subst (λ (x : Objects). TestsStay o.spaces x.spaces) g.1
        (born_stays tree (birth_hold own posted_phase) posted_phase has_round words p o.spaces k n (birth_space_of own o.spaces.is_open) sound g.0 (suits k n))

    -- and each live address has the forward that it had
    pub birth_forwards : (b : Addr) → is_live posted_phase o.spaces b ≡ true → forward o'.spaces b ≡ forward o.spaces b
    birth_forwards b live =
        subst (λ (x : Objects). forward x.spaces b ≡ forward o.spaces b) g.1
        (born_forward tree (birth_hold own posted_phase) posted_phase has_round words p o.spaces k n (birth_space_of own o.spaces.is_open) sound g.0 (suits k n) b live)

    -- a birth doesn't count as marking
    pub birth_marks_nothing : o'.spaces.has_marked ≡ o.spaces.has_marked
    birth_marks_nothing = sym (ap (λ (x : Objects). x.spaces.has_marked) g.1) ∙ (born_flags o.spaces k n (birth_space_of own o.spaces.is_open)).1

-- ---- threads

-- a thread may hold what it bore, whatever it has acknowledged and answered
module _ (tree : Tree) (h : Handshakes) (seat : Seat) (close : IsClose h seat) (words : ℕ) (p : Progress) (o : Objects)
    (time : IsOnTime seat.phase h.posted_phase h.has_round p o.spaces) (sound : IsSoundHeap tree h.posted_phase h.has_round words p o.spaces)
    (k : Kind) (n : ℕ) (o' : Objects) (a : Addr) (e : ◌≡◌ {A = Objects × Option Addr} (object_born seat.phase o k n) (o', Some a)) where
  -- the thread is near the posted phase
  near : IsNear seat.phase h.posted_phase
  near = near_of_close h seat close

  -- it may hold what it bore
  held : passes (birth_hold seat.phase h.posted_phase) h.posted_phase o'.spaces a ≡ true
  held = birth_held tree seat.phase h.posted_phase near h.has_round words p o time sound k n o' a e

  -- a thread that has answered a round has acknowledged Mark, and bears marked objects
  in_round : is_marking h.posted_phase ≡ true → h.has_round ≡ true → is_marked_address o'.spaces a ≡ true
  in_round marking round = elim near [
    | inl is ↦ birth_marked tree seat.phase h.posted_phase near h.has_round words p o time sound k n o' a e (is ∙ marking_is_mark h.posted_phase marking)
    | inr is ↦ never (sym ((time (λ same. not_after seat.phase (same ∙ sym is))).no_round (marking_is_mark h.posted_phase marking)) ∙ round)
  ]

  -- by what it has acknowledged and answered
  pub birth_may_be_held : may_hold h o'.spaces seat a ≡ true
  birth_may_be_held = by_flip (is_flipping seat.phase && is_flipping h.posted_phase) held
    where
      by_round : (x y z : Bool) → is_marking h.posted_phase ≡ x → h.has_round ≡ y → passes AnyLive h.posted_phase o'.spaces a ≡ true
          → passes (if x && (y && z) then MarkedOnly else AnyLive) h.posted_phase o'.spaces a ≡ true
      by_round true true true is is' live = in_round is is'
      by_round _ _ _ is is' live = live

      by_flip : (t : Bool) → passes (if t then NewOnly else AnyLive) h.posted_phase o'.spaces a ≡ true
          → passes (if t then NewOnly else if is_marking h.posted_phase && (h.has_round && (seat.answered && not o'.spaces.has_marked)) then MarkedOnly else AnyLive) h.posted_phase o'.spaces a ≡ true
      by_flip true pass = pass
      by_flip false pass = by_round (is_marking h.posted_phase) h.has_round (seat.answered && not o'.spaces.has_marked) refl refl pass
