-- A heap stays sound where one cell of each block changes, if what is stored is right: what all proofs of stores rest on.
use Rattle.std.proofs.Common.{◌≡◌, ◌⊎◌, inl, inr, ℕ, zero, suc, ◌+◌, ◌<◌, Bool, true, false, List, ◌∷◌, refl, sym, ap, ◌∙◌, subst, arith}
use Rattle.std.specs.Prelude.{◌==◌, if◌then◌else◌, is_some, option_map, Option, Some, None, slice_get, slice_index_or, All}
use Rattle.std.proofs.lemmas.Option.{same_Some}
use Rattle.cil_model.specs.declared.phases.Phase.{Phase}
use Rattle.cil_model.specs.declared.phases.Phase.TheVariants.{Idle, Mark, Copy, Reclaim}
use Rattle.cil_model.specs.declared.trees.Tree.{Tree}
use Rattle.cil_model.proofs.Lists.{none_is_some}
use Rattle.object_memory.specs.declared.addresses.Addr.{Addr}
use Rattle.object_memory.specs.Cells.{Cell, cell_in, change_from}
use Rattle.object_memory.specs.Spaces.{Spaces, HasShellRoom, is_noted}
use Rattle.object_memory.proofs.Blocks.{used_in}
use Rattle.object_memory.proofs.Rooms.{HasShellRoom-change}
use Rattle.object_memory.proofs.TwoSpaces.TwoBlocks.{change-is_space}
use Rattle.collector.specs.References.{SlotsPass, Test, holds_reference, reference_in}
use Rattle.collector.specs.Phases.{HasCopied, HasLooked, is_live, is_marked_address, is_marked_cell, is_marked_old, is_new_address, is_read}
use Rattle.collector.specs.Soundness.{AreBlocks, AreCopied, AreCopies, AreMarked, IsCopiedWord, IsInCopy, IsListed, IsLoaded, IsSoundHeap, copied_word}
use Rattle.collector.specs.Holds.{HasNotBegun}
use Rattle.collector.specs.declared.progress.Progress.{Progress}
use Rattle.collector.proofs.BlockWalks.ChangedBlocks.{IsOffset-change}
use Rattle.collector.proofs.BlockWalks.CollectorOffsets.{HasCursor-change}
use Rattle.collector.proofs.Addresses.TagChanges.{AreAlike, KeepsTags, changed_is, keeps_size, live_stays, marked_address_stays, new_address_stays, only_at, only_keeps_tags, same_address, twice, twice_alike}
use Rattle.cil_model.proofs.SameLaws.{never}
use Rattle.collector.proofs.PhaseChanges.LaterPhases.{AreBlocks-kept}

-- ---- slots

-- each reference in a slot of the changed cell was there before, or passes
abbrev pub AreStored : Tree → Test → (before after : Cell) → Type 0
AreStored tree test c d = (slot word : ℕ) → slice_get d.slots slot ≡ Some word → holds_reference tree d.kind slot ≡ true → (slice_get c.slots slot ≡ Some word) ⊎ (test (reference_in word) ≡ true)

pub slots_pass_then : (tree : Tree) (P Q : Test) (c d : Cell) → ((x : Addr) → P x ≡ true → Q x ≡ true) → d.kind ≡ c.kind → AreStored tree P c d → SlotsPass tree P c → SlotsPass tree Q d
slots_pass_then tree P Q c d more kind stored pass slot word is link = elim (stored slot word is link) [
  | inl was ↦ more (reference_in word) (pass slot word was (ap (λ k. holds_reference tree k slot) (sym kind) ∙ link))
  | inr right ↦ more (reference_in word) right
]

-- ---- the change

module _ (tree : Tree) (posted_phase : Phase) (has_round : Bool) (words : ℕ) (p : Progress) (m : Spaces) (f g : Cell → Cell) (keeps : KeepsTags f) (keeps' : KeepsTags g) (a b : Addr) where
  abbrev n : Spaces
  n = twice f g m a b

  abbrev F : Addr → Cell → Cell
  F = only_at f a

  abbrev G : Addr → Cell → Cell
  G = only_at g b

  alike : AreAlike m n
  alike = twice_alike f g keeps keeps' m a b

  old_tags : (x : Addr) → KeepsTags (F x)
  old_tags x = only_keeps_tags f keeps a x

  new_tags : (x : Addr) → KeepsTags (G x)
  new_tags x = only_keeps_tags g keeps' b x

  -- ---- cells before and after

  mapped_back : (h : Cell → Cell) (o : Option Cell) (d : Cell) → option_map h o ≡ Some d → (c : Cell) × (o ≡ Some c) × (h c ≡ d)
  mapped_back h None d e = none_is_some d e
  mapped_back h (Some c) d e = (c, refl, same_Some (h c) d e)

  pub old_before : (x : Addr) (d : Cell) → cell_in n.old x ≡ Some d → (c : Cell) × (cell_in m.old x ≡ Some c) × (F x c ≡ d)
  old_before x d is = mapped_back (F x) (cell_in m.old x) d (sym (changed_is f (keeps_size f keeps) m.old a x) ∙ is)

  pub new_before : (x : Addr) (d : Cell) → cell_in n.new x ≡ Some d → (c : Cell) × (cell_in m.new x ≡ Some c) × (G x c ≡ d)
  new_before x d is = mapped_back (G x) (cell_in m.new x) d (sym (changed_is g (keeps_size g keeps') m.new b x) ∙ is)

  pub old_after : (x : Addr) (c : Cell) → cell_in m.old x ≡ Some c → cell_in n.old x ≡ Some (F x c)
  old_after x c is = changed_is f (keeps_size f keeps) m.old a x ∙ ap (option_map (F x)) is

  pub new_after : (x : Addr) (c : Cell) → cell_in m.new x ≡ Some c → cell_in n.new x ≡ Some (G x c)
  new_after x c is = changed_is g (keeps_size g keeps') m.new b x ∙ ap (option_map (G x)) is

  other_was : (x : Addr) (c d : Cell) → F x c ≡ d → d.other ≡ c.other
  other_was x c d is = ap (λ (y : Cell). y.other) (sym is) ∙ (old_tags x).other c

  marked_was : (x : Addr) (c d : Cell) → F x c ≡ d → d.marked ≡ c.marked
  marked_was x c d is = ap (λ (y : Cell). y.marked) (sym is) ∙ (old_tags x).marked c

  -- ---- how far the collector is

  looked_back : (q : Phase) (x : Addr) → HasLooked q p n x → HasLooked q p m x
  looked_back Idle x h = h
  looked_back _ x h = h

  copied_back : (q : Phase) (x : Addr) (word : ℕ) → HasCopied q p n x word → HasCopied q p m x word
  copied_back Idle x word h = h
  copied_back _ x word h = h

  in_copy_back : (x : Addr) (from : Cell) (word : ℕ) → IsInCopy posted_phase p n x from word → IsInCopy posted_phase p m x from word
  in_copy_back x from word (inl done) = inl (copied_back posted_phase x word done)
  in_copy_back x from word (inr stored) = inr (record { copying = stored.copying; here = stored.here; next = stored.next; stored = stored.stored; same = stored.same })

  read_was : (q : Phase) (c d : Cell) → d.marked ≡ c.marked → is_read q d ≡ is_read q c
  read_was Idle c d e = refl
  read_was Mark c d e = refl
  read_was Reclaim c d e = refl
  read_was _ c d e = e

  -- ---- what is stored

  -- What is stored is right: references from old cells to what is live, from new cells to what is new; both copies of an object have the same words
  -- where they are copied; and while Mark is posted marked cells get references of marked ones, unless the collector has not begun.
  pub record StoresFit : Type 0 where
    pub old : (c : Cell) → cell_in m.old a ≡ Some c → is_read posted_phase c ≡ true → AreStored tree (is_live posted_phase m) c (f c)
    pub new : (d : Cell) → cell_in m.new b ≡ Some d → AreStored tree (is_new_address m) d (g d)
    pub copies : (x y : Addr) (c d : Cell) → cell_in m.old x ≡ Some c → c.other ≡ Some y → cell_in m.new y ≡ Some d → AreCopies tree posted_phase p m x c d → AreCopies tree posted_phase p m x (F x c) (G y d)
    pub marks : posted_phase ≡ Mark → HasNotBegun posted_phase has_round p m ⊎ ((c : Cell) → cell_in m.old a ≡ Some c → AreStored tree (is_marked_address m) c (f c))

  module _ (sound : IsSoundHeap tree posted_phase has_round words p m) (fits : StoresFit) where
    blocks : AreBlocks posted_phase words n
    blocks =
        AreBlocks-kept posted_phase posted_phase words m n sound.blocks refl
        (record {
          old = change-is_space f (keeps_size f keeps) m a m.old sound.blocks.spaces.old;
          new = change-is_space g (keeps_size g keeps') m b m.new sound.blocks.spaces.new;
          apart = sound.blocks.spaces.apart;
        })
        refl refl refl (λ early. ap (λ (cs : List Cell). change_from g m.new.start cs b.number) (sound.blocks.none_new early)) sound.blocks.none_grey

    -- the words of one cell

    stored_at : (test : Test) (x : Addr) (c : Cell) → (a ≡ x → AreStored tree test c (f c)) → AreStored tree test c (F x c)
    stored_at test x c here = by_test (a.number == x.number) refl
      where
        by_test : (t : Bool) → (a.number == x.number) ≡ t → AreStored tree test c (if t then f c else c)
        by_test true is = here (same_address a x is)
        by_test false is = λ slot word there link. inl there

    stored_new : (y : Addr) (d : Cell) → cell_in m.new y ≡ Some d → AreStored tree (is_new_address m) d (G y d)
    stored_new y d lies = by_test (b.number == y.number) refl
      where
        by_test : (t : Bool) → (b.number == y.number) ≡ t → AreStored tree (is_new_address m) d (if t then g d else d)
        by_test true is = fits.new d (ap (cell_in m.new) (same_address b y is) ∙ lies)
        by_test false is = λ slot word there link. inl there

    stored_old : (x : Addr) (c : Cell) → cell_in m.old x ≡ Some c → is_read posted_phase c ≡ true → AreStored tree (is_live posted_phase m) c (F x c)
    stored_old x c lies read = stored_at (is_live posted_phase m) x c (λ same. fits.old c (ap (cell_in m.old) same ∙ lies) read)

    -- both copies

    copied_word_stays : (c : Cell) (slot word : ℕ) → copied_word tree m c slot word ≡ copied_word tree n c slot word
    copied_word_stays c slot word = ap (λ w. if holds_reference tree c.kind slot then w else word) (sym (ap (λ (x : Addr). x.number) (alike.forwards (reference_in word))))

    copies_stay : (x y : Addr) (c d : Cell) → cell_in m.old x ≡ Some c → c.other ≡ Some y → cell_in m.new y ≡ Some d → AreCopies tree posted_phase p m x c d → AreCopies tree posted_phase p n x (F x c) (G y d)
    copies_stay x y c d lies other lies' were =
        record {
          kind = now.kind;
          count = now.count;
          back = now.back;
          words = same_words;
        }
      where
        now : AreCopies tree posted_phase p m x (F x c) (G y d)
        now = fits.copies x y c d lies other lies' were

        same_words : (word : ℕ) → IsInCopy posted_phase p n x (F x c) word → IsCopiedWord tree n (F x c) (G y d) word
        same_words zero is = now.words 0 (in_copy_back x (F x c) 0 is)
        same_words (suc slot) is = λ word there. now.words (suc slot) (in_copy_back x (F x c) (suc slot) is) word there ∙ ap Some (copied_word_stays (F x c) slot word)

    out_stays : (x y : Addr) (c : Cell) → cell_in n.old x ≡ Some c → c.other ≡ Some y → (d : Cell) × (cell_in n.new y ≡ Some d) × AreCopies tree posted_phase p n x c d
    out_stays x y c is other =
        let o = old_before x c is in
        let other' : o.0.other ≡ Some y = sym (other_was x o.0 c o.2) ∙ other in
        let u = sound.copies.out x y o.0 o.1 other' in
        (G y u.0, new_after y u.0 u.1, subst (λ (z : Cell). AreCopies tree posted_phase p n x z (G y u.0)) o.2 (copies_stay x y o.0 u.0 o.1 other' u.1 u.2))

    back_stays : (x y : Addr) (d : Cell) → cell_in n.new y ≡ Some d → d.other ≡ Some x → (c : Cell) × (cell_in n.old x ≡ Some c) × (c.other ≡ Some y)
    back_stays x y d is other =
        let o = new_before y d is in
        let u = sound.copies.back x y o.0 o.1 (sym ((new_tags y).other o.0) ∙ ap (λ (z : Cell). z.other) o.2 ∙ other) in
        (F x u.0, old_after x u.0 u.1, (old_tags x).other u.0 ∙ u.2)

    old_references_stay : (x : Addr) (c : Cell) → cell_in n.old x ≡ Some c → is_read posted_phase c ≡ true → SlotsPass tree (is_live posted_phase n) c
    old_references_stay x c is read =
        let o = old_before x c is in
        let read' : is_read posted_phase o.0 ≡ true = sym (read_was posted_phase o.0 c (marked_was x o.0 c o.2)) ∙ read in
        subst (SlotsPass tree (is_live posted_phase n)) o.2
        (slots_pass_then tree (is_live posted_phase m) (is_live posted_phase n) o.0 (F x o.0) (λ z h. live_stays m n alike posted_phase z ∙ h) ((old_tags x).kind o.0) (stored_old x o.0 o.1 read') (sound.copies.old_references x o.0 o.1 read'))

    new_references_stay : (y : Addr) (d : Cell) → cell_in n.new y ≡ Some d → SlotsPass tree (is_new_address n) d
    new_references_stay y d is =
        let o = new_before y d is in
        subst (SlotsPass tree (is_new_address n)) o.2
        (slots_pass_then tree (is_new_address m) (is_new_address n) o.0 (G y o.0) (λ z h. new_address_stays m n alike z ∙ h) ((new_tags y).kind o.0) (stored_new y o.0 o.1) (sound.copies.new_references y o.0 o.1))

    room_stays : HasShellRoom m → HasShellRoom n
    room_stays room =
        let r = HasShellRoom-change m sound.blocks.spaces room f (keeps_size f keeps) keeps.other a in
        record { words = omega (arith, used_in f (keeps_size f keeps) m.new a, used_in g (keeps_size g keeps') m.new b, r.words); long = room.long }

    copies : AreCopied tree posted_phase p n
    copies = record {
      no_copy = λ x c is early. let o = old_before x c is in other_was x o.0 c o.2 ∙ sound.copies.no_copy x o.0 o.1 early;
      unmarked = λ x c is early. let o = old_before x c is in marked_was x o.0 c o.2 ∙ sound.copies.unmarked x o.0 o.1 early;
      out = out_stays;
      back = back_stays;
      shells = λ x c is marked looked none.
          let o = old_before x c is in
          sound.copies.shells x o.0 o.1 (sym (marked_was x o.0 c o.2) ∙ marked) (looked_back posted_phase x looked) (sym (other_was x o.0 c o.2) ∙ none);
      marked_only = λ x c is some.
          let o = old_before x c is in
          marked_was x o.0 c o.2 ∙ sound.copies.marked_only x o.0 o.1 (λ none. some (other_was x o.0 c o.2 ∙ none));
      old_references = old_references_stay;
      new_references = new_references_stay;
      room = λ early. room_stays (sound.copies.room early);
    }

    -- what is loaded

    loaded_stays : posted_phase ≡ Copy → IsLoaded tree p n
    loaded_stays copying is c lies slot next holds =
        let o = old_before (record { number = m.old.start + p.cursor }) c lies in
        let held : holds_reference tree o.0.kind slot ≡ true = ap (λ k. holds_reference tree k slot) (sym ((old_tags (record { number = m.old.start + p.cursor })).kind o.0) ∙ ap (λ (z : Cell). z.kind) o.2) ∙ holds in
        live_stays m n alike Copy (reference_in p.attempt.word) ∙ sound.loaded copying is o.0 o.1 slot next held

    -- marks

    module _ (is_mark : posted_phase ≡ Mark) where
      marks : AreMarked tree has_round p m
      marks = sound.marks is_mark

      marked_then : (x : Addr) → is_marked_address m x ≡ true → is_marked_address n x ≡ true
      marked_then x h = marked_address_stays m n alike x ∙ h

      listed_stays : All (λ x. is_marked_old n x ≡ true) m.grey
      listed_stays = λ k d inside. alike.marked (slice_index_or m.grey k d) ∙ marks.listed k d inside

      -- where each marked object is grey
      all_listed : HasNotBegun posted_phase has_round p m → AreMarked tree has_round p n
      all_listed late = record {
        listed = listed_stays;
        black = λ x c is marked.
            let o = old_before x c is in
            inl (late.all_grey is_mark x (ap is_marked_cell o.1 ∙ sym (marked_was x o.0 c o.2) ∙ marked));
        fresh = marks.fresh;
        oldest = λ x rest c is lies slot word scanned. let none : p.scanned_slots ≡ 0 = ap (λ (q : Progress). q.scanned_slots) late.nothing in absurd (omega (arith, none, scanned));
        closed = λ round. never (sym (late.no_round is_mark) ∙ round);
      }

      -- where only references of marked objects are stored
      module _ (right : (c : Cell) → cell_in m.old a ≡ Some c → AreStored tree (is_marked_address m) c (f c)) where
        stored_marked : (x : Addr) (c : Cell) → cell_in m.old x ≡ Some c → AreStored tree (is_marked_address m) c (F x c)
        stored_marked x c lies = stored_at (is_marked_address m) x c (λ same. right c (ap (cell_in m.old) same ∙ lies))

        passing : (x : Addr) (c : Cell) → cell_in m.old x ≡ Some c → SlotsPass tree (is_marked_address m) c → SlotsPass tree (is_marked_address n) (F x c)
        passing x c lies pass = slots_pass_then tree (is_marked_address m) (is_marked_address n) c (F x c) marked_then ((old_tags x).kind c) (stored_marked x c lies) pass

        black_stays : (x : Addr) (c : Cell) → cell_in n.old x ≡ Some c → c.marked ≡ true → IsListed m.grey x ⊎ SlotsPass tree (is_marked_address n) c
        black_stays x c is marked =
            let o = old_before x c is in
            elim (marks.black x o.0 o.1 (sym (marked_was x o.0 c o.2) ∙ marked)) [
              | inl grey ↦ inl grey
              | inr pass ↦ inr (subst (SlotsPass tree (is_marked_address n)) o.2 (passing x o.0 o.1 pass))
            ]

        oldest_stays : (x : Addr) (rest : List Addr) (c : Cell) → m.grey ≡ x ∷ rest → cell_in n.old x ≡ Some c →
            (slot word : ℕ) → slot < p.scanned_slots → slice_get c.slots slot ≡ Some word → holds_reference tree c.kind slot ≡ true → is_marked_address n (reference_in word) ≡ true
        oldest_stays x rest c grey is slot word scanned there link =
            let o = old_before x c is in
            let there' : slice_get (F x o.0).slots slot ≡ Some word = ap (λ (y : Cell). slice_get y.slots slot) o.2 ∙ there in
            let link' : holds_reference tree (F x o.0).kind slot ≡ true = ap (λ (y : Cell). holds_reference tree y.kind slot) o.2 ∙ link in
            marked_then (reference_in word) (elim (stored_marked x o.0 o.1 slot word there' link') [
              | inl was ↦ marks.oldest x rest o.0 grey o.1 slot word scanned was (ap (λ k. holds_reference tree k slot) (sym ((old_tags x).kind o.0)) ∙ link')
              | inr passes ↦ passes
            ])

        closed_stays : has_round ≡ true → m.has_marked ≡ false → (x : Addr) (c : Cell) → cell_in n.old x ≡ Some c → c.marked ≡ true → SlotsPass tree (is_marked_address n) c
        closed_stays round clean x c is marked =
            let o = old_before x c is in
            subst (SlotsPass tree (is_marked_address n)) o.2 (passing x o.0 o.1 (marks.closed round clean x o.0 o.1 (sym (marked_was x o.0 c o.2) ∙ marked)))

        all_marked : AreMarked tree has_round p n
        all_marked = record { listed = listed_stays; black = black_stays; fresh = marks.fresh; oldest = oldest_stays; closed = closed_stays }

      marks_stay : AreMarked tree has_round p n
      marks_stay = elim (fits.marks is_mark) [ inl late ↦ all_listed late | inr right ↦ all_marked right ]

    pub heap_stays : IsSoundHeap tree posted_phase has_round words p n
    heap_stays = record {
      blocks = blocks;
      copies = copies;
      cursor = HasCursor-change posted_phase p m n sound.cursor f keeps.count keeps.other a refl;
      loaded = loaded_stays;
      marks = marks_stay;
      cleared = λ last. record {
        offset = IsOffset-change g (keeps_size g keeps') m.new b (m.new.start + p.cursor) (sound.cleared last).offset;
        objects = λ x d lies early. (
            let o = new_before x d lies in
            let same : is_noted d ≡ is_noted o.0 = ap is_noted (sym o.2) ∙ noted_by o.0.marked (G x o.0).marked o.0.other (G x o.0).other ((new_tags x).marked o.0) ((new_tags x).other o.0) in
            same ∙ (sound.cleared last).objects x o.0 o.1 early);
      };
    }
      where
        noted_by : (t t' : Bool) (o o' : Option Addr) → t' ≡ t → o' ≡ o → (if t' then true else is_some o') ≡ (if t then true else is_some o)
        noted_by t t' o o' same others = ap (λ x. if x then true else is_some o') same ∙ ap (λ x. if t then true else is_some x) others
