-- Which copies a thread's store reaches, by what the thread has acknowledged and what is posted, and why the heap is sound after a change of those.
use Rattle.std.proofs.Common.{◌≡◌, ◌≢◌, ◌⊎◌, inl, inr, ℕ, Bool, true, false, refl, sym, ap, ◌∙◌, subst, arith}
use Rattle.std.specs.Prelude.{◌==◌, if◌then◌else◌, is_some, Option, Some, None}
use Rattle.std.proofs.lemmas.Option.{same_Some}
use Rattle.cil_model.specs.declared.phases.Phase.{Phase}
use Rattle.cil_model.specs.declared.phases.Phase.TheVariants.{Idle, Mark, Allocate, Copy, Reclaim}
use Rattle.cil_model.specs.PhaseOrder.{is_phase}
use Rattle.cil_model.specs.declared.trees.Tree.{Tree}
use Rattle.cil_model.proofs.Lists.{none_is_some}
use Rattle.reference_machine.specs.Cycles.{phase_after}
use Rattle.object_memory.specs.declared.addresses.Addr.{Addr}
use Rattle.object_memory.specs.declared.kinds.Kind.{Kind}
use Rattle.object_memory.specs.Cells.{Cell, cell_in}
use Rattle.object_memory.specs.Spaces.{Spaces, AreSpaces, change_at, change_copies, is_old}
use Rattle.object_memory.specs.Objects.{Objects, object_cell, with_cell}
use Rattle.object_memory.proofs.Blocks.{range_in}
use Rattle.object_memory.proofs.TwoSpaces.TwoBlocks.{either, new_is_cell, not_new, not_old, old_is_cell}
use Rattle.object_memory.proofs.TwoSpaces.TwoCopies.{change_copies-alone}
use Rattle.barriers.specs.Barriers.{reaches_both, with_both}
use Rattle.barriers.proofs.Twins.{AreTwins, through_new, through_old}
use Rattle.phase_handshake.specs.Handshakes.{Handshakes, IsClose}
use Rattle.phase_handshake.specs.declared.posts.Seat.{Seat}
use Rattle.collector.specs.Phases.{HasCopied, is_live, is_live_object, is_marked_address, is_marked_cell, is_new_address, no_progress}
use Rattle.collector.specs.Soundness.{AreCopies, HasStored, IsInCopy, IsSoundHeap}
use Rattle.collector.specs.Holds.{HasNotBegun, IsOnTime}
use Rattle.collector.specs.declared.progress.Progress.{Progress}
use Rattle.collector.specs.declared.progress.Stage.TheVariants.{Begins, Stored}
use Rattle.collector.proofs.Addresses.TagChanges.{KeepsTags, keeps_size, only_at, only_keeps_tags, other_address, same_address, twice}
use Rattle.collector.proofs.HeapStores.CellChanges.{AreStored, heap_stays}
use Rattle.collector.proofs.Copies.AgreeingCopies.{copies_by}
use Rattle.collector.proofs.Addresses.LiveForwards.{has_copies, is_old_alone, live_is_old, live_marked_or_new, reclaim_or}
use Rattle.cil_model.proofs.SameLaws.{never}
use Rattle.collector.proofs.Copies.VisibleCopies.{copy_of}
use Rattle.collector.proofs.Addresses.Tests.{live_object, old_not_new}

-- ---- threads beside the collector

-- a thread has acknowledged the posted phase, or the one before it
abbrev pub IsBeside : (own posted_phase : Phase) → Type 0
IsBeside own posted_phase = (own ≡ posted_phase) ⊎ (phase_after own ≡ posted_phase)

-- a thread that is close to the collector is beside it
pub close_is_beside : (h : Handshakes) (seat : Seat) → IsClose h seat → IsBeside seat.phase h.posted_phase
close_is_beside h seat (inl now) = inl now
close_is_beside h seat (inr late) = inr late.0

-- whether Copy is posted
abbrev pub is_copy : Phase → Bool
is_copy p = is_phase p Copy

-- a store reaches an old object alone, whose words are not copied yet; a new one alone; or both copies
pub data Way (own posted_phase : Phase) (p : Progress) : Type 0 where
  in_old : reaches_both own ≡ false → is_old_alone posted_phase ≡ true → (is_copy posted_phase ≡ true → p ≡ no_progress) → Way own posted_phase p
  in_new : reaches_both own ≡ false → posted_phase ≡ Reclaim → Way own posted_phase p
  in_both : reaches_both own ≡ true → has_copies posted_phase ≡ true → Way own posted_phase p

way_now : (own : Phase) (p : Progress) → Way own own p
way_now Idle p = in_old refl refl (λ e. never e)
way_now Mark p = in_old refl refl (λ e. never e)
way_now Allocate p = in_old refl refl (λ e. never e)
way_now Reclaim p = in_new refl refl
way_now _ p = in_both refl refl

way_late : (own : Phase) (p : Progress) → p ≡ no_progress → Way own (phase_after own) p
way_late Idle p nothing = in_old refl refl (λ e. never e)
way_late Mark p nothing = in_old refl refl (λ e. never e)
way_late Allocate p nothing = in_old refl refl (λ e. nothing)
way_late Reclaim p nothing = in_old refl refl (λ e. never e)
way_late _ p nothing = in_both refl refl

-- no phase is the one before it
pub not_after : (own : Phase) → own ≢ phase_after own
not_after Idle e = absurd cc
not_after _ e = absurd cc

-- each thread beside the collector has its way
pub way_of : (own posted_phase : Phase) (has_round : Bool) (p : Progress) (m : Spaces) → IsBeside own posted_phase → IsOnTime own posted_phase has_round p m → Way own posted_phase p
way_of own posted_phase has_round p m (inl now) on_time = subst (λ q. Way own q p) now (way_now own p)
way_of own posted_phase has_round p m (inr late) on_time =
    let begun = on_time (λ same. not_after own (same ∙ sym late)) in
    subst (λ q. Way own q p) late (way_late own p begun.nothing)

-- ---- how far the collector is

-- no word is copied, whatever the old copies hold
abbrev pub IsUncopied : Phase → Progress → Spaces → Type 0
IsUncopied posted_phase p m = (x : Addr) (c : Cell) → cell_in m.old x ≡ Some c → (from : Cell) (word : ℕ) → IsInCopy posted_phase p m x from word → ⊥

none_done : (posted_phase : Phase) (p : Progress) (m : Spaces) → is_old_alone posted_phase ≡ true → (is_copy posted_phase ≡ true → p ≡ no_progress) → (x : Addr) (c : Cell) → cell_in m.old x ≡ Some c → (word : ℕ) → HasCopied posted_phase p m x word → ⊥
none_done Idle p m alone nothing x c lies word done = done
none_done Mark p m alone nothing x c lies word done = done
none_done Allocate p m alone nothing x c lies word done = done
none_done Copy p m alone nothing x c lies word done =
    let none = nothing refl in
    let offset : p.cursor ≡ 0 = ap (λ (q : Progress). q.cursor) none in
    let copied : p.copied_words ≡ 0 = ap (λ (q : Progress). q.copied_words) none in
    elim done [
      | inl before ↦ absurd (omega (arith, offset, before, (range_in m.old x c lies).0))
      | inr here ↦ absurd (omega (arith, copied, here.1))
    ]
none_done _ p m alone nothing x c lies word done = never alone

-- nor is one stored
none_stored : (posted_phase : Phase) (p : Progress) (m : Spaces) → (is_copy posted_phase ≡ true → p ≡ no_progress) → (x : Addr) (from : Cell) (word : ℕ) → HasStored posted_phase p m x from word → ⊥
none_stored posted_phase p m nothing x from word stored =
    let none = nothing (ap is_copy stored.copying) in
    let begins : Begins ≡ Stored = sym (ap (λ (q : Progress). q.attempt.stage) none) ∙ stored.stored in
    absurd cc

uncopied_old : (posted_phase : Phase) (p : Progress) (m : Spaces) → is_old_alone posted_phase ≡ true → (is_copy posted_phase ≡ true → p ≡ no_progress) → IsUncopied posted_phase p m
uncopied_old posted_phase p m alone nothing x c lies from word (inl done) = none_done posted_phase p m alone nothing x c lies word done
uncopied_old posted_phase p m alone nothing x c lies from word (inr stored) = none_stored posted_phase p m nothing x from word stored

uncopied_in_reclaim : (p : Progress) (m : Spaces) → IsUncopied Reclaim p m
uncopied_in_reclaim p m x c lies from word (inl done) = done
uncopied_in_reclaim p m x c lies from word (inr stored) = (let wrong = stored.copying in absurd cc)

uncopied_reclaim : (posted_phase : Phase) (p : Progress) (m : Spaces) → posted_phase ≡ Reclaim → IsUncopied posted_phase p m
uncopied_reclaim posted_phase p m e = subst (λ q. IsUncopied q p m) (sym e) (uncopied_in_reclaim p m)

-- ---- what is changed

-- A change of an old copy and one of a new copy are right for objects of a kind; the second one where it is made.
pub record IsRight (tree : Tree) (posted_phase : Phase) (has_round : Bool) (p : Progress) (m : Spaces) (kind : Kind) (both : Bool) (f g : Cell → Cell) : Type 0 where
  pub keeps_old : KeepsTags f
  pub keeps_new : KeepsTags g
  pub old : (c : Cell) → c.kind ≡ kind → AreStored tree (is_live posted_phase m) c (f c)
  pub marks : posted_phase ≡ Mark → HasNotBegun posted_phase has_round p m ⊎ ((c : Cell) → c.kind ≡ kind → AreStored tree (is_marked_address m) c (f c))
  pub new : both ≡ true → (d : Cell) → d.kind ≡ kind → AreStored tree (is_new_address m) d (g d)
  pub copies : both ≡ true → (x : Addr) (c d : Cell) → c.kind ≡ kind → AreCopies tree posted_phase p m x c d → AreCopies tree posted_phase p m x (f c) (g d)

-- in both copies, or in the one at the address
abbrev pub changed_by : Bool → (f g : Cell → Cell) → Objects → Addr → Objects
changed_by both f g o a = if both then with_both f g o a else with_cell f o a

module _ (tree : Tree) (posted_phase : Phase) (has_round : Bool) (words : ℕ) (p : Progress) (o : Objects) (sound : IsSoundHeap tree posted_phase has_round words p o.spaces) where
  abbrev m : Spaces
  m = o.spaces

  abbrev spaces : AreSpaces m
  spaces = sound.blocks.spaces

  abbrev IsSoundWith : Spaces → Type 0
  IsSoundWith n = IsSoundHeap tree posted_phase has_round words p n

  same_cell : (x y : Option Cell) (c d : Cell) → x ≡ Some c → y ≡ Some d → x ≡ y → c ≡ d
  same_cell x y c d is is' e = same_Some c d (sym is ∙ e ∙ is')

  same_kind : (s : Option Cell) (c d : Cell) (kind : Kind) → s ≡ Some c → c.kind ≡ kind → s ≡ Some d → d.kind ≡ kind
  same_kind s c d kind is decoded is' = ap (λ (x : Cell). x.kind) (same_Some d c (sym is' ∙ is)) ∙ decoded

  -- where no word is copied, the copies are alike after any change that keeps tags
  uncopied_alike : IsUncopied posted_phase p m → (f g : Cell → Cell) → KeepsTags f → KeepsTags g → (a b x y : Addr) (c d : Cell) → cell_in m.old x ≡ Some c → AreCopies tree posted_phase p m x c d
      → AreCopies tree posted_phase p m x (only_at f a x c) (only_at g b y d)
  uncopied_alike none f g keeps keeps' a b x y c d lies were =
      copies_by tree posted_phase p m (only_at f a x) (only_at g b y) (only_keeps_tags f keeps a x) (only_keeps_tags g keeps' b y) x c d were
      (λ word is. elim (none x c lies (only_at f a x c) word is) [ ])

  -- ---- an old object alone

  module _ (f : Cell → Cell) (keeps : KeepsTags f) (kind : Kind) (a : Addr) (c : Cell) (decoded : c.kind ≡ kind) where
    old_stays : cell_in m.old a ≡ Some c → IsUncopied posted_phase p m
        → ((d : Cell) → d.kind ≡ kind → AreStored tree (is_live posted_phase m) d (f d))
        → (posted_phase ≡ Mark → HasNotBegun posted_phase has_round p m ⊎ ((d : Cell) → d.kind ≡ kind → AreStored tree (is_marked_address m) d (f d)))
        → IsSoundWith (change_at f m a)
    old_stays lies none old marks =
        heap_stays tree posted_phase has_round words p m f f keeps keeps a a sound
        (record {
          old = λ d is read. old d (same_kind (cell_in m.old a) c d kind lies decoded is);
          new = λ d is. none_is_some d (sym (not_new m spaces a c lies) ∙ is);
          copies = λ x y d e is other is' were. uncopied_alike none f f keeps keeps a a x y d e is were;
          marks = λ mark. elim (marks mark) [ inl late ↦ inl late | inr right ↦ inr (λ d is. right d (same_kind (cell_in m.old a) c d kind lies decoded is)) ];
        })

    -- ---- a new object alone

    new_stays : cell_in m.new a ≡ Some c → (posted_phase ≢ Reclaim → c.other ≡ None)
        → ((d : Cell) → d.kind ≡ kind → AreStored tree (is_new_address m) d (f d))
        → IsSoundWith (change_at f m a)
    new_stays lies no_copy new =
        heap_stays tree posted_phase has_round words p m f f keeps keeps a a sound
        (record {
          old = λ d is. none_is_some d (sym (not_old m spaces a c lies) ∙ is);
          new = λ d is. new d (same_kind (cell_in m.new a) c d kind lies decoded is);
          copies = copies;
          marks = λ mark. inr (λ d is. none_is_some d (sym (not_old m spaces a c lies) ∙ is));
        })
      where
        -- no old object has it as its copy
        beside : posted_phase ≢ Reclaim → (x y : Addr) (d e : Cell) → cell_in m.old x ≡ Some d → cell_in m.new y ≡ Some e → AreCopies tree posted_phase p m x d e → (s t : Bool) → (a.number == x.number) ≡ s → (a.number == y.number) ≡ t
            → AreCopies tree posted_phase p m x (if s then f d else d) (if t then f e else e)
        beside before x y d e is is' were true t here here' = none_is_some d (sym (not_old m spaces a c lies) ∙ ap (cell_in m.old) (same_address a x here) ∙ is)
        beside before x y d e is is' were false true here here' =
            let same = same_cell (cell_in m.new a) (cell_in m.new y) c e lies is' (ap (cell_in m.new) (same_address a y here')) in
            none_is_some x (sym (no_copy before) ∙ ap (λ (z : Cell). z.other) same ∙ were.back (inl before))
        beside before x y d e is is' were false false here here' = were

        copies : (x y : Addr) (d e : Cell) → cell_in m.old x ≡ Some d → d.other ≡ Some y → cell_in m.new y ≡ Some e → AreCopies tree posted_phase p m x d e → AreCopies tree posted_phase p m x (only_at f a x d) (only_at f a y e)
        copies x y d e is other is' were = elim (reclaim_or posted_phase) [
          | inl last ↦ uncopied_alike (uncopied_reclaim posted_phase p m last) f f keeps keeps a a x y d e is were
          | inr before ↦ beside before x y d e is is' were (a.number == x.number) (a.number == y.number) refl refl
        ]

  -- ---- both copies

  module _ (f g : Cell → Cell) (kind : Kind) (right : IsRight tree posted_phase has_round p m kind true f g) (copied : has_copies posted_phase ≡ true) where
    -- Mark isn't posted once there are copies
    not_mark : {A : Type 0} → posted_phase ≡ Mark → A
    not_mark e = never (sym (ap has_copies e) ∙ copied)

    module _ (a b : Addr) (c d : Cell) (twins : AreTwins m a b c d) (decoded : c.kind ≡ kind) (decoded' : d.kind ≡ kind) where
      by_tests : posted_phase ≢ Reclaim → (x y : Addr) (u v : Cell) → cell_in m.old x ≡ Some u → u.other ≡ Some y → cell_in m.new y ≡ Some v → AreCopies tree posted_phase p m x u v → (s t : Bool) → (a.number == x.number) ≡ s → (b.number == y.number) ≡ t
          → AreCopies tree posted_phase p m x (if s then f u else u) (if t then g v else v)
      by_tests before x y u v is other is' were true true here here' =
          right.copies refl x u v (same_kind (cell_in m.old a) c u kind twins.old decoded (ap (cell_in m.old) (same_address a x here) ∙ is)) were
      by_tests before x y u v is other is' were true false here here' =
          let same = same_cell (cell_in m.old a) (cell_in m.old x) c u twins.old is (ap (cell_in m.old) (same_address a x here)) in
          other_address b y here' (same_Some b y (sym twins.out ∙ ap (λ (z : Cell). z.other) same ∙ other))
      by_tests before x y u v is other is' were false true here here' =
          let same = same_cell (cell_in m.new b) (cell_in m.new y) d v twins.new is' (ap (cell_in m.new) (same_address b y here')) in
          other_address a x here (same_Some a x (sym twins.back ∙ ap (λ (z : Cell). z.other) same ∙ were.back (inl before)))
      by_tests before x y u v is other is' were false false here here' = were

      twins_alike : (x y : Addr) (u v : Cell) → cell_in m.old x ≡ Some u → u.other ≡ Some y → cell_in m.new y ≡ Some v → AreCopies tree posted_phase p m x u v → AreCopies tree posted_phase p m x (only_at f a x u) (only_at g b y v)
      twins_alike x y u v is other is' were = elim (reclaim_or posted_phase) [
        | inl last ↦ uncopied_alike (uncopied_reclaim posted_phase p m last) f g right.keeps_old right.keeps_new a b x y u v is were
        | inr before ↦ by_tests before x y u v is other is' were (a.number == x.number) (b.number == y.number) refl refl
      ]

      twins_stay : IsSoundWith (twice f g m a b)
      twins_stay =
          heap_stays tree posted_phase has_round words p m f g right.keeps_old right.keeps_new a b sound
          (record {
            old = λ u is read. right.old u (same_kind (cell_in m.old a) c u kind twins.old decoded is);
            new = λ v is. right.new refl v (same_kind (cell_in m.new b) d v kind twins.new decoded' is);
            copies = twins_alike;
            marks = λ mark. not_mark mark;
          })

    -- the two copies of a live object, through the address of either
    module _ (a : Addr) (c : Cell) (decoded : c.kind ≡ kind) (live : is_live posted_phase m a ≡ true) where
      through_old_stays : cell_in m.old a ≡ Some c → IsSoundWith (with_both f g o a).spaces
      through_old_stays lies = elim (live_marked_or_new posted_phase m a copied (live_object m spaces a c posted_phase (old_is_cell m a c lies) live)) [
        | inl marked ↦ with_copy (copy_of tree posted_phase p m spaces sound.copies copied a c lies (sym (ap is_marked_cell lies) ∙ marked))
        | inr new ↦ never (sym (old_not_new m spaces a c lies) ∙ new)
      ]
        where
          with_copy : (b : Addr) × (d : Cell) × (c.other ≡ Some b) × (cell_in m.new b ≡ Some d) × AreCopies tree posted_phase p m a c d → IsSoundWith (with_both f g o a).spaces
          with_copy (b, d, out, new, were) =
              let decoded' : d.kind ≡ kind = were.kind ∙ decoded in
              elim (reclaim_or posted_phase) [
                | inl last ↦ never (sym (old_not_new m spaces a c lies) ∙ subst (λ q. is_live_object q m a ≡ true) last (live_object m spaces a c posted_phase (old_is_cell m a c lies) live))
                | inr before ↦
                    let twins : AreTwins m a b c d = record { old = lies; new = new; out = out; back = were.back (inl before) } in
                    subst (λ (q : Objects). IsSoundWith q.spaces) (sym (through_old f g (keeps_size f right.keeps_old) (keeps_size g right.keeps_new) o spaces a b c d twins)) (twins_stay a b c d twins decoded decoded')
              ]

      through_new_stays : cell_in m.new a ≡ Some c → IsSoundWith (with_both f g o a).spaces
      through_new_stays lies = by_other c.other refl
        where
          not_there : is_old m a ≡ false
          not_there = ap is_some (not_old m spaces a c lies)

          by_other : (r : Option Addr) → c.other ≡ r → IsSoundWith (with_both f g o a).spaces
          by_other None no_copy =
              let alone = change_copies-alone g f (keeps_size g right.keeps_new) (keeps_size f right.keeps_old) m a c (new_is_cell m spaces a c lies) no_copy in
              let is : (with_both f g o a).spaces ≡ change_at g m a = ap (λ t. if t then change_copies f g m a else change_copies g f m a) not_there ∙ alone in
              subst IsSoundWith (sym is) (new_stays g right.keeps_new kind a c decoded lies (λ before. no_copy) (right.new refl))
          by_other (Some q) other =
              let u = sound.copies.back q a c lies other in
              let v = sound.copies.out q a u.0 u.1 u.2 in
              let same : v.0 ≡ c = same_Some v.0 c (sym v.1 ∙ lies) in
              let kinds : u.0.kind ≡ kind = sym v.2.kind ∙ ap (λ (z : Cell). z.kind) same ∙ decoded in
              let twins : AreTwins m q a u.0 c = record { old = u.1; new = lies; out = u.2; back = other } in
              subst (λ (z : Objects). IsSoundWith z.spaces) (sym (through_new f g (keeps_size f right.keeps_old) (keeps_size g right.keeps_new) o spaces q a u.0 c twins)) (twins_stay q a u.0 c twins kinds decoded)

      both_stay : object_cell o a ≡ Some c → IsSoundWith (with_both f g o a).spaces
      both_stay lies = elim (either m a c lies) [ inl old ↦ through_old_stays old | inr new ↦ through_new_stays new ]

  -- ---- whichever copies a store reaches

  module _ (f g : Cell → Cell) (own : Phase) (a : Addr) (c : Cell) (lies : object_cell o a ≡ Some c) (live : is_live posted_phase m a ≡ true) (right : IsRight tree posted_phase has_round p m c.kind (reaches_both own) f g) where
    object : is_live_object posted_phase m a ≡ true
    object = live_object m spaces a c posted_phase lies live

    lies_old : is_old_alone posted_phase ≡ true → cell_in m.old a ≡ Some c
    lies_old alone = elim (either m a c lies) [
      | inl old ↦ old
      | inr new ↦ never (sym (ap is_some (not_old m spaces a c new)) ∙ live_is_old posted_phase m a alone object)
    ]

    lies_new : posted_phase ≡ Reclaim → cell_in m.new a ≡ Some c
    lies_new last = elim (either m a c lies) [
      | inl old ↦ never (sym (old_not_new m spaces a c old) ∙ subst (λ q. is_live_object q m a ≡ true) last object)
      | inr new ↦ new
    ]

    -- the heap is sound after a change that is right
    pub change_stays : Way own posted_phase p → IsSoundWith (changed_by (reaches_both own) f g o a).spaces
    change_stays (in_old one alone nothing) =
        subst (λ t. IsSoundWith (changed_by t f g o a).spaces) (sym one)
        (old_stays f right.keeps_old c.kind a c refl (lies_old alone) (uncopied_old posted_phase p m alone nothing) right.old right.marks)
    change_stays (in_new one last) =
        subst (λ t. IsSoundWith (changed_by t f g o a).spaces) (sym one)
        (new_stays f right.keeps_old c.kind a c refl (lies_new last) (λ before. absurd (before last)) (subst (λ q. (d : Cell) → d.kind ≡ c.kind → AreStored tree (is_live q m) d (f d)) last right.old))
    change_stays (in_both two copied) =
        subst (λ t. IsSoundWith (changed_by t f g o a).spaces) (sym two)
        (both_stay f g c.kind (subst (λ t. IsRight tree posted_phase has_round p m c.kind t f g) two right) copied a c refl live lies)
