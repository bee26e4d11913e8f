-- The memory of a thread with its room for births: that room and the words of all objects stay the same in sum; and no more is left to mark until
-- Allocate is posted.
-- The room for births that a user sees is what threads have: each thread of a sound machine is in a phase in which it can bear.
use Rattle.std.proofs.Common.{◌≡◌, ◌≤◌, ◌+◌, ℕ, true, replicate, List, Option, Some, None, refl, sym, ap, ◌∙◌, arith, min, Bool, false, if◌then◌else◌}
use Rattle.std.proofs.lemmas.List.{length-replicate}
use Rattle.std.proofs.lemmas.List.Sums.{sum_by_push}
use Rattle.std.proofs.lemmas.Option.{same_Some}
use Rattle.interpreter.specs.cil_model.declared.phases.Phase.{Phase}
use Rattle.interpreter.specs.cil_model.declared.trees.Tree.{Tree}
use Rattle.interpreter.specs.reference_machine.Rooms.{cell_words, words_of_all}
use Rattle.interpreter.specs.reference_machine.Values.{Born}
use Rattle.interpreter.specs.reference_machine.States.{Contents, Free as IsFree, HeapObject, State, with_birth as with_state_birth, with_object}
use Rattle.interpreter.specs.object_memory.declared.addresses.Addr.{Addr}
use Rattle.interpreter.specs.object_memory.declared.kinds.Kind.{Kind}
use Rattle.interpreter.specs.object_memory.declared.values.Value.{Value}
use Rattle.interpreter.specs.object_memory.Cells.{Cell, size, store_monitor, store_slot, used_words, free_words}
use Rattle.interpreter.specs.object_memory.Objects.{Objects, object_cell}
use Rattle.interpreter.specs.object_memory.Spaces.{Spaces, room_for, birth_space_of, room_at}
use Rattle.interpreter.specs.object_memory.Values.{value_word}
use Rattle.interpreter.specs.instructions.barriers.Barriers.{object_born, stored_int, stored_monitor, stored_static, stored_value, can_allocate}
use Rattle.interpreter.proofs.object_memory.TwoSpaces.TwoBlocks.{slot_keeps}
use Rattle.reference_machine.specs.TypedStates.{IsTyped}
use Rattle.collector.specs.Phases.{is_before_copies}
use Rattle.simulation.specs.Refines.{IsCell, IsOfContents, Names}
use Rattle.simulation.proofs.CycleBounds.MarkingWork.{LeavesNoMore, leaves_itself, leaves_then}
use Rattle.simulation.proofs.CycleBounds.MarkingByThreads.{birth_leaves, monitor_leaves, static_leaves, value_leaves, word_leaves}
use Rattle.simulation.proofs.Memory.MemoryModels.{IsBirth, MemoryModel}
use Rattle.simulation.proofs.Memory.CellSizes.{cell_size, contents_size, words_stay}
use Rattle.simulation.proofs.CollectedHeap.UsedWords.{AreAsLarge, UsesAsMuch, as_large, birth_adds, birth_large, birth_takes, large_then, monitor_uses, room_stays, static_uses, uses_itself, value_uses, word_uses}
use Rattle.std.specs.Prelude.{unwrap_or}
use Rattle.std.specs.Option.{option_map_or}
use Rattle.interpreter.specs.cil_model.declared.phases.Phase.TheVariants.{Idle, Mark, ThreadFlip, Reclaim}
use Rattle.interpreter.specs.reference_machine.Cycles.{Space, new_room, room, space_room}
use Rattle.collector.specs.phase_handshake.Handshakes.{own_phase, seat_of}
use Rattle.collector.specs.phase_handshake.declared.posts.Seat.{Seat}
use Rattle.collector.proofs.Births.BirthSoundness.{can_bear_near, near_of_close}
use Rattle.simulation.specs.MachineStates.{MachineState}
use Rattle.simulation.specs.Rooms.{spaces_of}
use Rattle.simulation.specs.Sound.{IsSound}

-- from these spaces to others each block gets at most the number of words in use more that the objects have more
pub record AddsNoMore (m n : Spaces) (words words' : ℕ) : Type 0 where
  pub old : used_words n.old.cells + words ≤ used_words m.old.cells + words'
  pub new : used_words n.new.cells + words ≤ used_words m.new.cells + words'

adds_as_much : (used was start words words' began : ℕ) → used ≡ was → words' ≡ words → was + began ≤ start + words → used + began ≤ start + words'
adds_as_much used was start words words' began same same_count before = omega arith

adds_birth : (used was taken more start words words' began : ℕ) → used ≤ was + taken → taken ≡ more → words' ≡ words + more → was + began ≤ start + words → used + began ≤ start + words'
adds_birth used was taken more start words words' began birth cell more_words before = omega arith

-- from one heap with its objects to another, the room for births in a phase and the words of all objects keep their sum, and in the phases
-- before there are copies no more is left to mark; each block stays as large, and gets no more words in use than the objects get
pub record KeepsRoom (tree : Tree) (own : Phase) (o o' : Objects) (objects objects' : List HeapObject) : Type 0 where
  pub together : room_for own o'.spaces + words_of_all tree objects' ≡ room_for own o.spaces + words_of_all tree objects
  pub marking : is_before_copies own ≡ true → LeavesNoMore o.spaces o'.spaces
  pub large : AreAsLarge o.spaces o'.spaces
  pub used : AddsNoMore o.spaces o'.spaces (words_of_all tree objects) (words_of_all tree objects')

module _ (tree : Tree) (own : Phase) (start : Objects) (first : List HeapObject) where
  -- they do at first,
  pub keeps_itself : KeepsRoom tree own start start first first
  keeps_itself = record { together = refl; marking = λ early. leaves_itself start.spaces; large = record { old = refl; new = refl }; used = record { old = omega arith; new = omega arith } }

  -- and where the same number of words is used, the objects have the same number, and no more is left to mark
  pub keeps_more : (o o' : Objects) (objects objects' : List HeapObject) → UsesAsMuch o.spaces o'.spaces → (is_before_copies own ≡ true → LeavesNoMore o.spaces o'.spaces) → words_of_all tree objects' ≡ words_of_all tree objects →
      KeepsRoom tree own start o first objects → KeepsRoom tree own start o' first objects'
  keeps_more o o' objects objects' same value_pushed words keeps = record {
    together = ap (λ n. n + words_of_all tree objects') (room_stays own o.spaces o'.spaces same) ∙ ap (λ n. room_for own o.spaces + n) words ∙ keeps.together;
    marking = λ early. leaves_then start.spaces o.spaces o'.spaces (keeps.marking early) (value_pushed early);
    large = large_then start.spaces o.spaces o'.spaces keeps.large (as_large o.spaces o'.spaces same);
    used = record {
      old = adds_as_much (used_words o'.spaces.old.cells) (used_words o.spaces.old.cells) (used_words start.spaces.old.cells) (words_of_all tree objects) (words_of_all tree objects') (words_of_all tree first) same.old words keeps.used.old;
      new = adds_as_much (used_words o'.spaces.new.cells) (used_words o.spaces.new.cells) (used_words start.spaces.new.cells) (words_of_all tree objects) (words_of_all tree objects') (words_of_all tree first) same.new words keeps.used.new;
    };
  }

module _ (tree : Tree) (base : MemoryModel tree) (start : Objects) (first : List HeapObject) where
  -- the room was kept from these objects on
  pub record FitsInRoom (name : Names) (o : Objects) (ss : List Value) (s : State) : Type 0 where
    pub fits : base.Fits name o ss s
    pub room : KeepsRoom tree base.phase start o first s.objects

  -- an object whose cell keeps its size has the number of words of the one before
  module _ (name : Names) (o : Objects) (ss : List Value) (s : State) (h : FitsInRoom name o ss s) (typed : IsTyped tree s) (a : Addr) (n : ℕ) (named : name a.number ≡ Some (Born n)) (cell : Cell) (lies : object_cell o a ≡ Some cell)
      (changed : Cell) (keeps : size changed ≡ size cell) (object : HeapObject) (refines : IsCell tree name changed object) where
    pub words_then : words_of_all tree (with_object s (Born n) object).objects ≡ words_of_all tree s.objects
    words_then =
        let before = (base.reads name o ss s h.fits typed).born a.number n named in
        let same : before.cell ≡ cell = same_Some before.cell cell (sym before.lies ∙ lies) in
        let own : cell_words tree object.contents ≡ cell_words tree before.object.contents =
        sym (cell_size tree name changed object refines) ∙ keeps ∙ ap size (sym same) ∙ cell_size tree name before.cell before.object before.refines in
        words_stay tree s.objects n before.object object before.is own

  -- births
  pub born_in_room : (name : Names) (o : Objects) (ss : List Value) (s : State) → FitsInRoom name o ss s → (k : Kind) (count : ℕ) (contents : Contents) → ((names : Names) → IsOfContents tree names k (replicate count 0) contents None) →
      (born : Objects) (a : Addr) → ◌≡◌ {A = Objects × Option Addr} (object_born base.phase o k count) (born, Some a) → IsBirth FitsInRoom name ss s contents born a
  born_in_room name o ss s h k count contents refines born a e =
      let b = base.births name o ss s h.fits k count contents refines born a e in
      record { names = b.names; extends = b.extends; named = b.named; fits = record { fits = b.fits; room = record { together = together; marking = marking; large = large_then start.spaces o.spaces born.spaces h.room.large (birth_large base.phase o k count born a e); used = used } } }
    where
      own : 3 + count ≡ cell_words tree contents
      own = ap (λ n. 3 + n) (sym (length-replicate {A = ℕ} count 0)) ∙ contents_size tree name k (replicate count 0) contents None (refines name)

      all : words_of_all tree (with_state_birth s contents).objects ≡ words_of_all tree s.objects + cell_words tree contents
      all = sum_by_push (λ (x : HeapObject). cell_words tree x.contents) s.objects (record { contents = contents; monitor = IsFree; thread = None })

      added : (room taken before words more after began : ℕ) → room + taken ≡ before → taken ≡ more → after ≡ words + more → before + words ≡ began → room + after ≡ began
      added room taken before words more after began birth cell more_words was = omega arith

      marking : is_before_copies base.phase ≡ true → LeavesNoMore start.spaces born.spaces
      marking early = leaves_then start.spaces o.spaces born.spaces (h.room.marking early) (birth_leaves base.phase early o k count born a e)

      together : room_for base.phase born.spaces + words_of_all tree (with_state_birth s contents).objects ≡ room_for base.phase start.spaces + words_of_all tree first
      together = added (room_for base.phase born.spaces) (3 + count) (room_for base.phase o.spaces) (words_of_all tree s.objects) (cell_words tree contents) (words_of_all tree (with_state_birth s contents).objects) (room_for base.phase start.spaces + words_of_all tree first)
          (birth_takes base.phase o k count born a e) own all h.room.together

      used : AddsNoMore start.spaces born.spaces (words_of_all tree first) (words_of_all tree (with_state_birth s contents).objects)
      used =
          let adds = birth_adds base.phase o k count born a e in
          record {
            old = adds_birth (used_words born.spaces.old.cells) (used_words o.spaces.old.cells) (3 + count) (cell_words tree contents) (used_words start.spaces.old.cells) (words_of_all tree s.objects) (words_of_all tree (with_state_birth s contents).objects)
                (words_of_all tree first) adds.old own all h.room.used.old;
            new = adds_birth (used_words born.spaces.new.cells) (used_words o.spaces.new.cells) (3 + count) (cell_words tree contents) (used_words start.spaces.new.cells) (words_of_all tree s.objects) (words_of_all tree (with_state_birth s contents).objects)
                (words_of_all tree first) adds.new own all h.room.used.new;
          }

  unfoldable pub in_room : MemoryModel tree
  in_room = record {
    phase = base.phase;
    Fits = FitsInRoom;
    reads = λ name o ss s h typed. base.reads name o ss s h.fits typed;
    statics = λ name o ss s h. base.statics name o ss s h.fits;
    with_objects = λ name o ss s s' h same. record {
      fits = base.with_objects name o ss s s' h.fits same;
      room = keeps_more tree base.phase start first o o s.objects s'.objects (uses_itself o.spaces) (λ early. leaves_itself o.spaces) (ap (words_of_all tree) same.objects) h.room;
    };
    comparable = λ name o ss s h a b is is'. base.comparable name o ss s h.fits a b is is';
    same = λ name o ss s h a b n k is is'. base.same name o ss s h.fits a b n k is is';
    same_null = λ name o ss s h. base.same_null name o ss s h.fits;
    null_name = λ name o ss s h b k is. base.null_name name o ss s h.fits b k is;
    name_null = λ name o ss s h a n is. base.name_null name o ss s h.fits a n is;
    storable = λ name o ss s h a n is cell lies slot v u inside refines. base.storable name o ss s h.fits a n is cell lies slot v u inside refines;
    slots = λ name o ss s h typed a n is cell lies slot v u inside sort refines object linked after. record {
      fits = base.slots name o ss s h.fits typed a n is cell lies slot v u inside sort refines object linked after;
      room = keeps_more tree base.phase start first o (stored_value base.phase o a slot v) s.objects (with_object s (Born n) object).objects (value_uses base.phase o a slot v) (λ early. value_leaves base.phase early o a slot v)
          (words_then name o ss s h typed a n is cell lies (store_slot slot (value_word v) cell) (slot_keeps slot (value_word v) cell) object after) h.room;
    };
    word_storable = λ name o ss s h a n is cell lies slot inside. base.word_storable name o ss s h.fits a n is cell lies slot inside;
    hidden = λ name o ss s h typed a n is cell lies slot w inside none object linked after. record {
      fits = base.hidden name o ss s h.fits typed a n is cell lies slot w inside none object linked after;
      room = keeps_more tree base.phase start first o (stored_int base.phase o a slot w) s.objects (with_object s (Born n) object).objects (word_uses base.phase o a slot w) (λ early. word_leaves base.phase early o a slot w)
          (words_then name o ss s h typed a n is cell lies (store_slot slot w cell) (slot_keeps slot w cell) object after) h.room;
    };
    monitor_storable = λ name o ss s h a n is. base.monitor_storable name o ss s h.fits a n is;
    monitors = λ name o ss s h typed a n is cell lies monitor object linked after. record {
      fits = base.monitors name o ss s h.fits typed a n is cell lies monitor object linked after;
      room = keeps_more tree base.phase start first o (stored_monitor base.phase o a monitor) s.objects (with_object s (Born n) object).objects (monitor_uses base.phase o a monitor) (λ early. monitor_leaves base.phase early o a monitor)
          (words_then name o ss s h typed a n is cell lies (store_monitor monitor cell) refl object after) h.room;
    };
    literals = λ name o ss s h a characters is monitor u refines. record {
      fits = base.literals name o ss s h.fits a characters is monitor u refines;
      room = keeps_more tree base.phase start first o (stored_monitor base.phase o a monitor) s.objects s.objects (monitor_uses base.phase o a monitor) (λ early. monitor_leaves base.phase early o a monitor) refl h.room;
    };
    static_storable = λ name o ss s h v u refines. base.static_storable name o ss s h.fits v u refines;
    static_stores = λ name o ss s h n v u inside refines entries fields. record {
      fits = base.static_stores name o ss s h.fits n v u inside refines entries fields;
      room = keeps_more tree base.phase start first o (stored_static base.phase o ss n v).0 s.objects s.objects (static_uses base.phase o ss n v) (λ early. static_leaves base.phase early o ss n v) refl h.room;
    };
    bears = λ name o ss s h. base.bears name o ss s h.fits;
    refusals = λ name o ss s h k count born e. base.refusals name o ss s h.fits k count born e;
    births = born_in_room;
  }

-- ---- The room for births that a user sees is what threads have: each thread of a sound machine is in a phase in which it can bear.

-- ---- the new space

module _ (o : Objects) where
  abbrev newer : Bool → Option Space
  newer opened = if opened then Some (record { words = o.spaces.new.words; used = used_words o.spaces.new.cells }) else None

  -- it is the second block while a cycle is open,
  pub open_room : o.spaces.is_open ≡ true → new_room (spaces_of o) ≡ free_words o.spaces.new
  open_room opened = ap (λ t. space_room (unwrap_or (newer t) (spaces_of o).old)) opened

  -- and else the only one
  pub closed_room : o.spaces.is_open ≡ false → new_room (spaces_of o) ≡ free_words o.spaces.old
  closed_room closed = ap (λ t. space_room (unwrap_or (newer t) (spaces_of o).old)) closed

-- ---- the room

-- in each phase in which a thread can bear
room_is : (own : Phase) (o : Objects) → can_allocate own o ≡ true → room (spaces_of o) own ≡ room_for own o.spaces
room_is Idle o can = refl
room_is Mark o can = refl
room_is ThreadFlip o can = open_room o can
room_is Reclaim o can = by_cycle o.spaces.is_open refl
  where
    by_cycle : (t : Bool) → o.spaces.is_open ≡ t → new_room (spaces_of o) ≡ room_at (birth_space_of Reclaim t) o.spaces
    by_cycle true opened = open_room o opened
    by_cycle false closed = closed_room o closed
room_is _ o can = ap (λ w. min (free_words o.spaces.old) w) (open_room o can)

module _ (c : MachineState) (sound : IsSound c) (t : ℕ) where
  -- each thread can, and one without a seat is between cycles
  can_bear_there : can_allocate (own_phase c.posts t) c.objects ≡ true
  can_bear_there = by_seat (seat_of c.posts t) refl
    where
      by_seat : (o : Option Seat) → seat_of c.posts t ≡ o → can_allocate (option_map_or (λ (s : Seat). s.phase) o Idle) c.objects ≡ true
      by_seat None none = refl
      by_seat (Some seat) is =
          can_bear_near c.tree seat.phase c.posts.posted_phase (near_of_close c.posts seat (sound.seated.close.phases t seat is)) c.posts.has_round c.limits.max_words c.progress c.objects (sound.on_time t seat is) sound.heap

  -- so the room of its phase is that for its births
  pub room_seen : room (spaces_of c.objects) (own_phase c.posts t) ≡ room_for (own_phase c.posts t) c.objects.spaces
  room_seen = room_is (own_phase c.posts t) c.objects can_bear_there
