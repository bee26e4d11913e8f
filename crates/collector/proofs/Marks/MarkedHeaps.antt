-- Marks keep what is true of a heap while Mark is posted: the mark of one object, and those of all that a list of values refers to.
use Rattle.std.proofs.Common.{◌≡◌, ◌≢◌, ◌⊎◌, inl, inr, ℕ, ◌<◌, Bool, true, false, List, [], ◌∷◌, ◌++◌, refl, sym, ap, subst, ◌∙◌, arith}
use Rattle.std.specs.Prelude.{if◌then◌else◌, is_some, Option, Some, None, slice_get, All}
use Rattle.std.proofs.lemmas.Bool.{or_cases, or_left, or_right}
use Rattle.std.proofs.lemmas.List.Elements.{All-cons, All-head, All-nil, All-push, All-tail, All-weaker}
use Rattle.cil_model.specs.declared.phases.Phase.TheVariants.{Mark}
use Rattle.cil_model.specs.declared.trees.Tree.{Tree}
use Rattle.object_memory.specs.declared.addresses.Addr.{Addr}
use Rattle.object_memory.specs.declared.values.Value.{Value}
use Rattle.object_memory.specs.declared.values.Value.TheVariants.{Ref}
use Rattle.object_memory.specs.Cells.{Cell, cell_in}
use Rattle.object_memory.specs.Spaces.{AreSpaces, Spaces, is_old, is_white, mark, marked_if, set_mark}
use Rattle.object_memory.specs.Objects.{Objects}
use Rattle.object_memory.proofs.Blocks.{own_in, unchanged_in}
use Rattle.object_memory.proofs.TwoSpaces.TwoBlocks.{AreSpaces-change, IsAfter, after_in, before_in, not_new, own, still}
use Rattle.object_memory.proofs.TwoSpaces.TwoCopies.{mark_marks}
use Rattle.object_memory.proofs.Rooms.{HasShellRoom-change}
use Rattle.barriers.specs.Barriers.{with_marked}
use Rattle.collector.specs.References.{SlotsPass, ValuePasses, holds_reference, is_permanent, reference_in}
use Rattle.collector.specs.Phases.{is_live, is_marked_address, is_marked_old}
use Rattle.collector.specs.Soundness.{AreMarked, IsListed, IsSoundHeap}
use Rattle.collector.specs.MarkSteps.{with_all_marked}
use Rattle.collector.specs.Holds.{HasNotBegun}
use Rattle.collector.specs.declared.progress.Progress.{Progress}
use Rattle.collector.proofs.Addresses.Tests.{mark_is, marked_cell, never, old_cell, slots_weaken, value_weakens, same_address}
use Rattle.collector.proofs.Marks.MarkChanges.{AreDarker, AreDarker-same, AreDarker-trans, IsDarker, IsDarker-refl, IsSoundHeap-darker, darker_tests}
use Rattle.collector.proofs.Addresses.GrowingBlocks.{TestsStay, live_stays, marked_stays}
use Rattle.collector.proofs.Addresses.TagChanges.{read_alike}
use Rattle.cil_model.specs.declared.phases.Phase.{Phase}

-- ---- a mark

-- an unmarked old cell
count_if_white : (o : Option Cell) → is_white o ≡ true → (c : Cell) × (o ≡ Some c) × (c.marked ≡ false)
count_if_white None e = never e
count_if_white (Some c) e = (c, refl, unmarked c.marked e)
  where
    unmarked : (b : Bool) → (if b then false else true) ≡ true → b ≡ false
    unmarked true e = never e
    unmarked false e = refl

pub listed-before : (list : List Addr) (q a : Addr) → IsListed list a → IsListed (list ++ q ∷ []) a
listed-before [] q a h = absurd h
listed-before (b ∷ bs) q a (inl e) = inl e
listed-before (b ∷ bs) q a (inr h) = inr (listed-before bs q a h)

pub listed-last : (list : List Addr) (q : Addr) → IsListed (list ++ q ∷ []) q
listed-last [] q = inl refl
listed-last (b ∷ bs) q = inr (listed-last bs q)

module _ (m : Spaces) (q : Addr) where
  abbrev n : Spaces
  n = marked_if true m q

  -- an old cell after the mark is that of the address, or lay there before
  before : (a : Addr) (d : Cell) → cell_in n.old a ≡ Some d → (q ≡ a) ⊎ (cell_in m.old a ≡ Some d)
  before a d e =
      let b = after_in set_mark (λ x. refl) m.old q a d e in
      elim b.2 [
        | own same equal ↦ inl (sym (same_address a q same))
        | still ne equal ↦ inr (b.1 ∙ ap Some (sym equal))
      ]

  -- what is old, marked or new stays so
  white_tests : TestsStay m n
  white_tests = record {
    old = λ a h. read_alike is_some set_mark (λ x. refl) (λ x. refl) m.old q a ∙ h;
    marked = λ a h. (
        let c = marked_cell m a h in
        let d = before_in set_mark (λ x. refl) m.old q a c.0 c.1 in
        mark_is n a d.0 d.1 ∙ elim d.2 [ own same e ↦ ap (λ x. x.marked) e | still ne e ↦ ap (λ x. x.marked) e ∙ c.2 ]);
    new = λ a h. read_alike is_some set_mark (λ x. refl) (λ x. refl) m.new q a ∙ h;
  }

  all_grey_then : ((a : Addr) → is_marked_old m a ≡ true → IsListed m.grey a) → (a : Addr) → is_marked_old n a ≡ true → IsListed n.grey a
  all_grey_then grey a h =
      let d = marked_cell n a h in
      elim (before a d.0 d.1) [
        | inl same ↦ subst (λ x. IsListed n.grey x) same (listed-last m.grey q)
        | inr there ↦ listed-before m.grey q a (grey a (mark_is m a d.0 there ∙ d.2))
      ]

-- of an unmarked old cell
module _ (m : Spaces) (spaces : AreSpaces m) (q : Addr) (c : Cell) (lies : cell_in m.old q ≡ Some c) (white : c.marked ≡ false) where
  abbrev after : Spaces
  after = marked_if true m q

  darker_after : (a : Addr) (b d : Cell) → IsAfter set_mark q a b d → IsDarker b d
  darker_after a b d (own same e) = subst (IsDarker b) (sym e) (record { kind = refl; slots = refl; other = refl; monitor = refl; marked = λ h. refl })
  darker_after a b d (still ne e) = subst (λ x. IsDarker b x) (sym e) (IsDarker-refl b)

  AreDarker-marked : AreDarker m after
  AreDarker-marked = record {
    kept = λ a b e. let d = before_in set_mark (λ x. refl) m.old q a b e in (d.0, d.1, darker_after a b d.0 d.2);
    was = λ a d e. let b = after_in set_mark (λ x. refl) m.old q a d e in (b.0, b.1, darker_after a b.0 d b.2);
    new = unchanged_in set_mark m.new q (not_new m spaces q c lies);
    held = refl;
    words = refl;
    spaces = λ h. let g = AreSpaces-change set_mark (λ x. refl) m q h in record { old = g.old; new = g.new; apart = g.apart };
    room = λ h r. let g = HasShellRoom-change m h r set_mark (λ x. refl) (λ x. refl) q in record { words = g.words; long = g.long };
  }

  now_marked : is_marked_old after q ≡ true
  now_marked = mark_is after q (set_mark c) (own_in set_mark m.old q c lies)

  slots_now : (tree : Tree) (d : Cell) → SlotsPass tree (is_marked_address m) d → SlotsPass tree (is_marked_address after) d
  slots_now tree d = slots_weaken tree (is_marked_address m) (is_marked_address after) (marked_stays m after (white_tests m q)) d

  module _ (tree : Tree) (has_round : Bool) (p : Progress) (marks : AreMarked tree has_round p m) where
    black_then : (a : Addr) (d : Cell) → cell_in after.old a ≡ Some d → d.marked ≡ true → IsListed after.grey a ⊎ SlotsPass tree (is_marked_address after) d
    black_then a d e dark = elim (before m q a d e) [
      | inl same ↦ inl (subst (λ x. IsListed after.grey x) same (listed-last m.grey q))
      | inr there ↦ elim (marks.black a d there dark) [
        | inl grey ↦ inl (listed-before m.grey q a grey)
        | inr black ↦ inr (slots_now tree d black)
      ]
    ]

    fresh_then : (list : List Addr) → m.grey ≡ list → list ++ q ∷ [] ≡ [] → p.scanned_slots ≡ 0
    fresh_then [] e h = marks.fresh e
    fresh_then (b ∷ bs) e h = absurd cc

    clash : (g : Addr) (rest : List Addr) → m.grey ≡ g ∷ rest → q ≢ g
    clash g rest e same =
        let dark : is_marked_old m g ≡ true = All-head (λ a. is_marked_old m a ≡ true) g rest (rw e at marks.listed) in
        never (sym white ∙ (sym (mark_is m q c lies) ∙ subst (λ x. is_marked_old m x ≡ true) (sym same) dark))

    oldest_then : (list : List Addr) → m.grey ≡ list → (g : Addr) (rest : List Addr) (d : Cell) → list ++ q ∷ [] ≡ g ∷ rest → cell_in after.old g ≡ Some d →
        (slot word : ℕ) → slot < p.scanned_slots → slice_get d.slots slot ≡ Some word → holds_reference tree d.kind slot ≡ true → is_marked_address after (reference_in word) ≡ true
    oldest_then [] e g rest d is there slot word near at_slot held = let none = marks.fresh e in absurd (omega (arith, none, near))
    oldest_then (b ∷ bs) e g rest d is there slot word near at_slot held = elim (before m q g d there) [
      | inl same ↦ absurd (clash g bs (e ∙ ap (λ x. x ∷ bs) first) same)
      | inr was ↦ marked_stays m after (white_tests m q) (reference_in word) (marks.oldest g bs d (e ∙ ap (λ x. x ∷ bs) first) was slot word near at_slot held)
    ]
      where
        first : b ≡ g
        first = cc

    was_dark : Addr → Type 0
    was_dark a = is_marked_old m a ≡ true

    is_dark : Addr → Type 0
    is_dark a = is_marked_old after a ≡ true

    AreMarked-marked : AreMarked tree has_round p after
    unfolding was_dark is_dark
    AreMarked-marked = record {
      listed = All-push is_dark m.grey q (All-weaker was_dark is_dark (white_tests m q).marked m.grey marks.listed) now_marked;
      black = black_then;
      fresh = fresh_then m.grey refl;
      oldest = oldest_then m.grey refl;
      closed = λ round clean. never (sym clean);
    }

-- of any address
module _ (m : Spaces) (q : Addr) where
  tests_by : (b : Bool) → TestsStay m (marked_if b m q)
  tests_by false = record { old = λ a h. h; marked = λ a h. h; new = λ a h. h }
  tests_by true = white_tests m q

  -- what is old, marked or new stays so
  pub mark_tests : TestsStay m (mark m q).0
  mark_tests = tests_by (is_white (cell_in m.old q))

  all_grey_by : (b : Bool) → ((a : Addr) → is_marked_old m a ≡ true → IsListed m.grey a) → (a : Addr) → is_marked_old (marked_if b m q) a ≡ true → IsListed (marked_if b m q).grey a
  all_grey_by false grey = grey
  all_grey_by true grey = all_grey_then m q grey

  -- where the collector has not begun it still hasn't
  pub HasNotBegun-mark : (posted_phase : Phase) (has_round : Bool) (p : Progress) → HasNotBegun posted_phase has_round p m → HasNotBegun posted_phase has_round p (mark m q).0
  HasNotBegun-mark posted_phase has_round p late = record {
    nothing = late.nothing;
    no_round = late.no_round;
    all_grey = λ now. all_grey_by (is_white (cell_in m.old q)) (late.all_grey now);
  }

module _ (m : Spaces) (spaces : AreSpaces m) (q : Addr) where
  darker_by : (b : Bool) → is_white (cell_in m.old q) ≡ b → AreDarker m (marked_if b m q)
  darker_by false e = AreDarker-same m m refl refl refl
  darker_by true e = let c = count_if_white (cell_in m.old q) e in AreDarker-marked m spaces q c.0 c.1 c.2

  -- a mark changes marks alone
  pub AreDarker-mark : AreDarker m (mark m q).0
  AreDarker-mark = darker_by (is_white (cell_in m.old q)) refl

  marks_by : (b : Bool) → is_white (cell_in m.old q) ≡ b → (tree : Tree) (has_round : Bool) (p : Progress) → AreMarked tree has_round p m
      → AreMarked tree has_round p (marked_if b m q)
  marks_by false e tree has_round p marks = marks
  marks_by true e tree has_round p marks = let c = count_if_white (cell_in m.old q) e in AreMarked-marked m spaces q c.0 c.1 c.2 tree has_round p marks

  -- and keeps what is true of them
  pub AreMarked-mark : (tree : Tree) (has_round : Bool) (p : Progress) → AreMarked tree has_round p m → AreMarked tree has_round p (mark m q).0
  AreMarked-mark = marks_by (is_white (cell_in m.old q)) refl

  -- what is live in Mark is marked then
  pub mark-passes : is_live Mark m q ≡ true → is_marked_address (mark m q).0 q ≡ true
  mark-passes h = elim (or_cases (is_permanent q) (is_old m q) h) [
    | inl permanent ↦ or_left (is_permanent q) (is_marked_old (mark m q).0 q) permanent
    | inr old ↦
        let c = old_cell m q old in
        let d = mark_marks m spaces q c.0 c.1 in
        or_right (is_permanent q) (is_marked_old (mark m q).0 q) (mark_is (mark m q).0 q d.0 d.1 ∙ d.2)
  ]

-- a mark is not forgotten before the next round
pub mark-noted : (m : Spaces) (q : Addr) → m.has_marked ≡ true → (mark m q).0.has_marked ≡ true
mark-noted m q h = by_white (is_white (cell_in m.old q))
  where
    by_white : (b : Bool) → (marked_if b m q).has_marked ≡ true
    by_white false = h
    by_white true = refl

-- a mark keeps what is true of the heap in Mark
pub IsSoundHeap-mark : (tree : Tree) (has_round : Bool) (words : ℕ) (p : Progress) (m : Spaces) → IsSoundHeap tree Mark has_round words p m
    → (q : Addr) → IsSoundHeap tree Mark has_round words p (mark m q).0
IsSoundHeap-mark tree has_round words p m sound q =
    let spaces = sound.blocks.spaces in
    IsSoundHeap-darker tree has_round words p m (mark m q).0 sound (AreDarker-mark m spaces q) has_round p
    (AreMarked-mark m spaces q tree has_round p (sound.marks refl))

-- ---- marks of values

module _ (o : Objects) (spaces : AreSpaces o.spaces) where
  pub AreDarker-with_marked : (v : Value) → AreDarker o.spaces (with_marked o v).spaces
  AreDarker-with_marked (Ref a) = AreDarker-mark o.spaces spaces a
  AreDarker-with_marked _ = AreDarker-same o.spaces o.spaces refl refl refl

  -- a live value passes once it is marked
  pub with_marked-passes : (v : Value) → ValuePasses (is_live Mark o.spaces) v → ValuePasses (is_marked_address (with_marked o v).spaces) v
  with_marked-passes (Ref a) h = mark-passes o.spaces spaces a h
  with_marked-passes _ h = tt

pub HasNotBegun-with_marked : (o : Objects) (v : Value) (posted_phase : Phase) (has_round : Bool) (p : Progress) → HasNotBegun posted_phase has_round p o.spaces → HasNotBegun posted_phase has_round p (with_marked o v).spaces
HasNotBegun-with_marked o (Ref a) posted_phase has_round p late = HasNotBegun-mark o.spaces a posted_phase has_round p late
HasNotBegun-with_marked o _ posted_phase has_round p late = late

pub with_marked-noted : (o : Objects) (v : Value) → o.spaces.has_marked ≡ true → (with_marked o v).spaces.has_marked ≡ true
with_marked-noted o (Ref a) h = mark-noted o.spaces a h
with_marked-noted o _ h = h

pub with_all_marked-noted : (vs : List Value) (o : Objects) → o.spaces.has_marked ≡ true → (with_all_marked o vs).spaces.has_marked ≡ true
with_all_marked-noted [] o h = h
with_all_marked-noted (v ∷ vs) o h = with_all_marked-noted vs (with_marked o v) (with_marked-noted o v h)

-- no monitor of a literal changes
pub with_marked-literals : (o : Objects) (v : Value) → (with_marked o v).literals ≡ o.literals
with_marked-literals o (Ref a) = refl
with_marked-literals o _ = refl

pub with_all_marked-literals : (vs : List Value) (o : Objects) → (with_all_marked o vs).literals ≡ o.literals
with_all_marked-literals [] o = refl
with_all_marked-literals (v ∷ vs) o = with_all_marked-literals vs (with_marked o v) ∙ with_marked-literals o v

pub AreDarker-with_all_marked : (vs : List Value) (o : Objects) → AreSpaces o.spaces → AreDarker o.spaces (with_all_marked o vs).spaces
AreDarker-with_all_marked [] o spaces = AreDarker-same o.spaces o.spaces refl refl refl
AreDarker-with_all_marked (v ∷ vs) o spaces =
    let first = AreDarker-with_marked o spaces v in
    AreDarker-trans o.spaces (with_marked o v).spaces (with_all_marked (with_marked o v) vs).spaces first
    (AreDarker-with_all_marked vs (with_marked o v) (first.spaces spaces))

-- live values pass once all are marked
pub with_all_marked-pass : (vs : List Value) (o : Objects) → AreSpaces o.spaces → All (ValuePasses (is_live Mark o.spaces)) vs
    → All (ValuePasses (is_marked_address (with_all_marked o vs).spaces)) vs
with_all_marked-pass [] o spaces h = All-nil (ValuePasses (is_marked_address o.spaces))
with_all_marked-pass (v ∷ vs) o spaces h =
    let n = with_marked o v in
    let e = with_all_marked n vs in
    let first = AreDarker-with_marked o spaces v in
    let rest = AreDarker-with_all_marked vs n (first.spaces spaces) in
    let was_live = ValuePasses (is_live Mark o.spaces) in
    let still_live = ValuePasses (is_live Mark n.spaces) in
    let weaken = value_weakens (is_live Mark o.spaces) (is_live Mark n.spaces) (λ a. live_stays o.spaces n.spaces (darker_tests o.spaces n.spaces first) a Mark) in
    let keep = value_weakens (is_marked_address n.spaces) (is_marked_address e.spaces) (marked_stays n.spaces e.spaces (darker_tests n.spaces e.spaces rest)) v in
    All-cons (ValuePasses (is_marked_address e.spaces)) v vs
    (keep (with_marked-passes o spaces v (All-head was_live v vs h)))
    (with_all_marked-pass vs n (first.spaces spaces) (All-weaker was_live still_live weaken vs (All-tail was_live v vs h)))

pub HasNotBegun-with_all_marked : (vs : List Value) (o : Objects) → AreSpaces o.spaces → (has_round : Bool) (p : Progress)
    → HasNotBegun Mark has_round p o.spaces → HasNotBegun Mark has_round p (with_all_marked o vs).spaces
HasNotBegun-with_all_marked [] o spaces has_round p late = late
HasNotBegun-with_all_marked (v ∷ vs) o spaces has_round p late =
    HasNotBegun-with_all_marked vs (with_marked o v) ((AreDarker-with_marked o spaces v).spaces spaces) has_round p
    (HasNotBegun-with_marked o v Mark has_round p late)

module _ (tree : Tree) (has_round : Bool) (words : ℕ) (p : Progress) where
  -- marks of values keep what is true of the heap in Mark
  pub IsSoundHeap-with_marked : (o : Objects) → IsSoundHeap tree Mark has_round words p o.spaces → (v : Value)
      → IsSoundHeap tree Mark has_round words p (with_marked o v).spaces
  IsSoundHeap-with_marked o sound (Ref a) = IsSoundHeap-mark tree has_round words p o.spaces sound a
  IsSoundHeap-with_marked o sound _ = sound

  pub IsSoundHeap-with_all_marked : (vs : List Value) (o : Objects) → IsSoundHeap tree Mark has_round words p o.spaces
      → IsSoundHeap tree Mark has_round words p (with_all_marked o vs).spaces
  IsSoundHeap-with_all_marked [] o sound = sound
  IsSoundHeap-with_all_marked (v ∷ vs) o sound = IsSoundHeap-with_all_marked vs (with_marked o v) (IsSoundHeap-with_marked o sound v)
