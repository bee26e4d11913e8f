-- What is true of a heap stays true when an object is born, in each space where it may be.
use Rattle.std.proofs.Common.{◌≡◌, ◌≢◌, ◌⊎◌, inl, inr, ℕ, zero, suc, ◌+◌, ◌<◌, ◌≤◌, Bool, true, false, List, [], ◌∷◌, ◌++◌, replicate, refl, sym, ap, subst, ◌∙◌, arith}
use Rattle.std.specs.Prelude.{if◌then◌else◌, get_or, is_some, Option, Some, None, slice_get, All}
use Rattle.cil_model.proofs.Lists.{no_item}
use Rattle.std.proofs.lemmas.List.{get_or-replicate, length-replicate}
use Rattle.std.proofs.lemmas.List.Elements.{All-append, All-cons, All-nil}
use Rattle.std.proofs.lemmas.Option.{get_or_from_slice_get, none-some, same_Some, slice_get_within}
use Rattle.cil_model.specs.declared.phases.Phase.{Phase}
use Rattle.cil_model.specs.declared.phases.Phase.TheVariants.{Mark, Allocate, Copy, PreFlip, HeapFlip, ThreadFlip, Reclaim}
use Rattle.cil_model.specs.declared.trees.Tree.{Tree}
use Rattle.object_memory.specs.declared.addresses.Addr.{Addr}
use Rattle.object_memory.specs.declared.kinds.Kind.{Kind}
use Rattle.object_memory.specs.Cells.{Cell, cell_in, empty_cell, next_address}
use Rattle.object_memory.specs.Spaces.{AreSpaces, IsOffset, Spaces, address_at, give_birth, forward, forward_word, is_noted, other_of, room_at}
use Rattle.object_memory.specs.declared.birth_spaces.BirthSpace.{BirthSpace}
use Rattle.object_memory.specs.declared.birth_spaces.BirthSpace.TheVariants.{InBoth, InNew, InOld, Listed}
use Rattle.object_memory.proofs.Births.{AreSpaces-born, HasShellRoom-born, born-kept_new, born-kept_old, born-new_last, born-old_last, born-was_new, born-was_old, new_part, old_part}
use Rattle.object_memory.proofs.Offsets.{IsOffset-last}
use Rattle.object_memory.proofs.TwoSpaces.TwoBlocks.{forward_new, forward_null}
use Rattle.collector.specs.References.{SlotsPass, Test, holds_reference, reference_in}
use Rattle.collector.specs.Phases.{HasCopied, HasLooked, is_before_copies, is_live, is_marked_address, is_marked_cell, is_marked_old, is_new_address, is_of_cycle, is_read}
use Rattle.collector.specs.Soundness.{AreBlocks, IsCleared, AreCopied, AreCopies, AreMarked, IsCopiedSlot, IsCopiedWord, IsInCopy, IsListed, IsLoaded, IsSoundHeap, copied_word}
use Rattle.collector.specs.Holds.{HasNotBegun, Hold, passes}
use Rattle.collector.specs.declared.progress.Progress.{Progress}
use Rattle.collector.proofs.BlockWalks.CollectorOffsets.{HasCursor-born}
use Rattle.collector.proofs.Addresses.GrowingBlocks.{IsLying, TestsStay, forward_permanent, in_new, in_old, live_lies, live_stays, marked_stays, new_stays, permanent}
use Rattle.cil_model.proofs.SameLaws.{never}
use Rattle.collector.proofs.Addresses.Tests.{marked_there, same_address, slots_weaken, some_there}
use Rattle.collector.proofs.Marks.MarkedHeaps.{listed-before, listed-last}
use Rattle.collector.proofs.PhaseChanges.LaterPhases.{AreBlocks-kept}

-- ---- offsets

-- an offset of the new block stays one
new_space : (m : Spaces) (k : Kind) (n words : ℕ) (space : BirthSpace) → IsOffset m.new (m.new.start + words) → IsOffset (give_birth space m k n).new ((give_birth space m k n).new.start + words)
new_space m k n words InBoth h = IsOffset-last m.new (empty_cell k n true (Some (next_address m.old))) (m.new.start + words) h
new_space m k n words InNew h = IsOffset-last m.new (empty_cell k n false None) (m.new.start + words) h
new_space m k n words _ h = h

-- ---- empty slots

-- each of them holds 0
zero_word : (n slot word : ℕ) → slice_get (replicate n 0) slot ≡ Some word → word ≡ 0
zero_word n slot word e =
    let within = slice_get_within (replicate n 0) slot word e in
    sym (get_or_from_slice_get (replicate n 0) slot word 0 e) ∙ get_or-replicate n slot 0 0 (omega (arith, within, length-replicate {A = ℕ} n 0))

-- slots that hold null pass each test that null passes
pub zeros_pass : (tree : Tree) (test : Test) → test (reference_in 0) ≡ true → (c : Cell) (n : ℕ) → c.slots ≡ replicate n 0 → SlotsPass tree test c
zeros_pass tree test null c n empty slot word there holds =
    subst (λ w. test (reference_in w) ≡ true) (sym (zero_word n slot word (subst (λ ws. slice_get ws slot ≡ Some word) empty there))) null

-- the forward of null is null
zero_copied : (tree : Tree) (m : Spaces) → AreSpaces m → (from : Cell) (slot : ℕ) → copied_word tree m from slot 0 ≡ 0
zero_copied tree m h from slot = by_test (holds_reference tree from.kind slot)
  where
    by_test : (t : Bool) → (if t then forward_word m 0 else 0) ≡ 0
    by_test true = ap (λ (a : Addr). a.number) (forward_null m h)
    by_test false = refl

-- so empty slots are copied ones of each other
zeros_copied : (tree : Tree) (m : Spaces) → AreSpaces m → (from to : Cell) (n : ℕ) → from.slots ≡ replicate n 0 → to.slots ≡ replicate n 0 → (slot : ℕ) → IsCopiedSlot tree m from to slot
zeros_copied tree m h from to n empty empty' slot word there =
    let zero = zero_word n slot word (subst (λ ws. slice_get ws slot ≡ Some word) empty there) in
    let same : slice_get to.slots slot ≡ Some word = ap (λ (ws : List ℕ). slice_get ws slot) (empty' ∙ sym empty) ∙ there in
    same ∙ ap Some (zero ∙ sym (zero_copied tree m h from slot) ∙ ap (copied_word tree m from slot) (sym zero))

-- ---- what is copied is read

read_by : (posted_phase : Phase) (p : Progress) (m : Spaces) (a : Addr) (word : ℕ) (c : Cell) → HasCopied posted_phase p m a word → c.marked ≡ true → is_read posted_phase c ≡ true
read_by Copy p m a word c h marked = marked
read_by PreFlip p m a word c h marked = marked
read_by HeapFlip p m a word c h marked = marked
read_by ThreadFlip p m a word c h marked = marked
read_by _ p m a word c h marked = elim h [ ]

pub read_once_copied : (posted_phase : Phase) (p : Progress) (m : Spaces) (a : Addr) (word : ℕ) (c : Cell) → IsInCopy posted_phase p m a c word → c.marked ≡ true → is_read posted_phase c ≡ true
read_once_copied posted_phase p m a word c (inl h) marked = read_by posted_phase p m a word c h marked
read_once_copied posted_phase p m a word c (inr h) marked = ap (λ q. is_read q c) h.copying ∙ marked

-- how far the collector is depends on no cells
module _ (p : Progress) (m m' : Spaces) (start : m'.old.start ≡ m.old.start) (a : Addr) where
  pub copied_before : (posted_phase : Phase) (word : ℕ) → HasCopied posted_phase p m' a word → HasCopied posted_phase p m a word
  copied_before Copy word h = subst (λ s. (a.number < s + p.cursor) ⊎ ((a.number ≡ s + p.cursor) × (word < p.copied_words))) start h
  copied_before _ word h = h

  pub in_copy_before : (posted_phase : Phase) (from : Cell) (word : ℕ) → IsInCopy posted_phase p m' a from word → IsInCopy posted_phase p m a from word
  in_copy_before posted_phase from word (inl h) = inl (copied_before posted_phase word h)
  in_copy_before posted_phase from word (inr h) = inr (record { copying = h.copying; here = h.here ∙ ap (λ s. s + p.cursor) start; next = h.next; stored = h.stored; same = h.same })

  pub looked_before : (posted_phase : Phase) → HasLooked posted_phase p m' a → HasLooked posted_phase p m a
  looked_before Allocate h = subst (λ s. a.number < s + p.cursor) start h
  looked_before _ h = h

-- the heads of equal lists
first_is : (x g : Addr) (xs rest : List Addr) → x ∷ xs ≡ g ∷ rest → x ≡ g
first_is x g xs rest e = cc

-- ---- where one may be born while a phase is posted

pub record Suits (hold : Hold) (posted_phase : Phase) (p : Progress) (m : Spaces) (k : Kind) (n : ℕ) (space : BirthSpace) : Type 0 where
  pub early : is_before_copies posted_phase ≡ true → (space ≡ InOld) ⊎ (space ≡ Listed)
  pub between : is_of_cycle posted_phase ≡ false → space ≡ InOld
  pub unlooked : space ≡ Listed → HasLooked posted_phase p m (next_address m.old) → ⊥
  pub room : (posted_phase ≡ Mark) ⊎ (posted_phase ≡ Allocate) → space ≢ InNew
  pub clear : posted_phase ≡ Reclaim → space ≢ InBoth
  pub held : passes hold posted_phase (give_birth space m k n) (address_at space m) ≡ true

module _ (m : Spaces) (k : Kind) (n : ℕ) where
  -- ---- what a birth leaves

  -- both blocks begin where they began, and have the same numbers of words
  born_start : (space : BirthSpace) → (give_birth space m k n).old.start ≡ m.old.start
  born_start InOld = refl
  born_start _ = refl

  born_new_start : (space : BirthSpace) → (give_birth space m k n).new.start ≡ m.new.start
  born_new_start InOld = refl
  born_new_start _ = refl

  born_words : (space : BirthSpace) → ((give_birth space m k n).old.words ≡ m.old.words) × ((give_birth space m k n).new.words ≡ m.new.words)
  born_words InOld = (refl, refl)
  born_words _ = (refl, refl)

  -- the cycle is open or not as before, and the same counts as marked
  pub born_flags : (space : BirthSpace) → ((give_birth space m k n).is_open ≡ m.is_open) × ((give_birth space m k n).has_marked ≡ m.has_marked)
  born_flags InOld = (refl, refl)
  born_flags _ = (refl, refl)

  -- nothing comes in the new block before there are copies
  none_added : (space : BirthSpace) → (space ≡ InOld) ⊎ (space ≡ Listed) → (give_birth space m k n).new.cells ≡ m.new.cells
  none_added space (inl is) = ap (λ x. (give_birth x m k n).new.cells) is
  none_added space (inr is) = ap (λ x. (give_birth x m k n).new.cells) is

  -- what was grey is grey
  grey_before : (space : BirthSpace) (a : Addr) → IsListed m.grey a → IsListed (give_birth space m k n).grey a
  grey_before Listed a h = listed-before m.grey (next_address m.old) a h
  grey_before _ a h = h

  -- ---- the parts

  -- before there are copies what is born has none
  bare_part : (space : BirthSpace) → (space ≡ InOld) ⊎ (space ≡ Listed) → other_of (old_part space m k n) ≡ None
  bare_part space (inl is) = ap (λ x. other_of (old_part x m k n)) is
  bare_part space (inr is) = ap (λ x. other_of (old_part x m k n)) is

  -- a marked one without another copy is listed
  listed_part : (space : BirthSpace) → is_marked_cell (old_part space m k n) ≡ true → other_of (old_part space m k n) ≡ None → space ≡ Listed
  listed_part Listed e none = refl
  listed_part InBoth e none = elim (none-some (next_address m.new) (sym none)) [ ]
  listed_part _ e none = never e

  -- one with another copy is marked
  marked_part : (space : BirthSpace) → other_of (old_part space m k n) ≢ None → is_marked_cell (old_part space m k n) ≡ true
  marked_part Listed some = refl
  marked_part InBoth some = refl
  marked_part _ some = elim (some refl) [ ]

  -- each part has empty slots
  empty_of : (b : Bool) (o : Option Addr) (c : Cell) → Some (empty_cell k n b o) ≡ Some c → c.slots ≡ replicate n 0
  empty_of b o c e = ap (λ (x : Cell). x.slots) (sym (same_Some (empty_cell k n b o) c e))

  old_empty : (space : BirthSpace) (c : Cell) → old_part space m k n ≡ Some c → c.slots ≡ replicate n 0
  old_empty InOld c e = empty_of false None c e
  old_empty Listed c e = empty_of true None c e
  old_empty InBoth c e = empty_of true (Some (next_address m.new)) c e
  old_empty InNew c e = elim (none-some c e) [ ]

  new_empty : (space : BirthSpace) (c : Cell) → new_part space m k n ≡ Some c → c.slots ≡ replicate n 0
  new_empty InBoth c e = empty_of true (Some (next_address m.old)) c e
  new_empty InNew c e = empty_of false None c e
  new_empty _ c e = elim (none-some c e) [ ]

  -- one that is born in the new block alone has neither a mark nor another copy
  clear_part : (space : BirthSpace) (d : Cell) → space ≢ InBoth → new_part space m k n ≡ Some d → is_noted d ≡ false
  clear_part InBoth d ne e = elim (ne refl) [ ]
  clear_part InNew d ne e = ap is_noted (sym (same_Some (empty_cell k n false None) d e))
  clear_part _ d ne e = elim (none-some d e) [ ]

  -- ---- the two parts of one object

  module _ (h : AreSpaces m) (tree : Tree) (posted_phase : Phase) (p : Progress) where
    -- the new part is the copy of the old one
    both_copies : AreSpaces (give_birth InBoth m k n) → AreCopies tree posted_phase p (give_birth InBoth m k n) (next_address m.old) (empty_cell k n true (Some (next_address m.new))) (empty_cell k n true (Some (next_address m.old)))
    both_copies h' = record {
      kind = refl;
      count = refl;
      back = λ e. refl;
      words = words;
    }
      where
        words : (word : ℕ) → IsInCopy posted_phase p (give_birth InBoth m k n) (next_address m.old) (empty_cell k n true (Some (next_address m.new))) word
            → IsCopiedWord tree (give_birth InBoth m k n) (empty_cell k n true (Some (next_address m.new))) (empty_cell k n true (Some (next_address m.old))) word
        words zero e = refl
        words (suc slot) e = zeros_copied tree (give_birth InBoth m k n) h' (empty_cell k n true (Some (next_address m.new))) (empty_cell k n true (Some (next_address m.old))) n refl refl slot

    -- what the old part refers to as its copy is there, and is its copy
    out_part : (space : BirthSpace) → AreSpaces (give_birth space m k n) → (a b : Addr) (c : Cell) → a.number ≡ (next_address m.old).number → old_part space m k n ≡ Some c → c.other ≡ Some b
        → (d : Cell) × (cell_in (give_birth space m k n).new b ≡ Some d) × AreCopies tree posted_phase p (give_birth space m k n) a c d
    out_part InBoth h' a b c at e other =
        let x = empty_cell k n true (Some (next_address m.new)) in
        let d = empty_cell k n true (Some (next_address m.old)) in
        let there : next_address m.new ≡ b = same_Some (next_address m.new) b (ap other_of e ∙ other) in
        let here : next_address m.old ≡ a = sym (same_address a (next_address m.old) at) in
        let are = subst (λ y. AreCopies tree posted_phase p (give_birth InBoth m k n) (next_address m.old) y d) (same_Some x c e) (both_copies h') in
        let lies = subst (λ y. cell_in (give_birth InBoth m k n).new y ≡ Some d) there (born-new_last m h k n InBoth d refl) in
        (d, lies, subst (λ y. AreCopies tree posted_phase p (give_birth InBoth m k n) y c d) here are)
    out_part InNew h' a b c at e other = elim (none-some c e) [ ]
    out_part _ h' a b c at e other = elim (none-some b (ap other_of e ∙ other)) [ ]

    -- and the other way round
    back_part : (space : BirthSpace) (a b : Addr) (d : Cell) → b.number ≡ (next_address m.new).number → new_part space m k n ≡ Some d → d.other ≡ Some a
        → (c : Cell) × (cell_in (give_birth space m k n).old a ≡ Some c) × (c.other ≡ Some b)
    back_part InBoth a b d at e other =
        let c = empty_cell k n true (Some (next_address m.new)) in
        let there : next_address m.old ≡ a = same_Some (next_address m.old) a (ap other_of e ∙ other) in
        let here : next_address m.new ≡ b = sym (same_address b (next_address m.new) at) in
        (c, subst (λ y. cell_in (give_birth InBoth m k n).old y ≡ Some c) there (born-old_last m h k n InBoth c refl), ap Some here)
    back_part InNew a b d at e other = elim (none-some a (ap other_of e ∙ other)) [ ]
    back_part _ a b d at e other = elim (none-some d e) [ ]

-- ---- a heap in which one more is born

module _ (tree : Tree) (hold : Hold) (posted_phase : Phase) (has_round : Bool) (words : ℕ) (p : Progress) (m : Spaces) (k : Kind) (n : ℕ) (space : BirthSpace)
    (sound : IsSoundHeap tree posted_phase has_round words p m) (room : 3 + n ≤ room_at space m) (suits : Suits hold posted_phase p m k n space) where
  abbrev m' : Spaces
  m' = give_birth space m k n

  -- the blocks are spaces before and after
  h : AreSpaces m
  h = sound.blocks.spaces

  h' : AreSpaces m'
  h' = AreSpaces-born m h k n space room

  -- cells stay, and others are parts of what is born
  kept_old : (a : Addr) (c : Cell) → cell_in m.old a ≡ Some c → cell_in m'.old a ≡ Some c
  kept_old a c e = born-kept_old m h k n space a c e

  kept_new : (a : Addr) (c : Cell) → cell_in m.new a ≡ Some c → cell_in m'.new a ≡ Some c
  kept_new a c e = born-kept_new m h k n space a c e

  was_old : (a : Addr) (c : Cell) → cell_in m'.old a ≡ Some c → (cell_in m.old a ≡ Some c) ⊎ ((a.number ≡ (next_address m.old).number) × (old_part space m k n ≡ Some c))
  was_old a c e = born-was_old m h k n space a c e

  was_new : (a : Addr) (c : Cell) → cell_in m'.new a ≡ Some c → (cell_in m.new a ≡ Some c) ⊎ ((a.number ≡ (next_address m.new).number) × (new_part space m k n ≡ Some c))
  was_new a c e = born-was_new m h k n space a c e

  -- ---- what stays

  pub born_stays : TestsStay m m'
  born_stays = record {
    old = λ a e. let c = some_there (cell_in m.old a) e in ap is_some (kept_old a c.0 c.1);
    marked = λ a e. let c = marked_there (cell_in m.old a) e in ap is_marked_cell (kept_old a c.0 c.1) ∙ c.2;
    new = λ a e. let c = some_there (cell_in m.new a) e in ap is_some (kept_new a c.0 c.1);
  }

  -- slots that passed continue to pass
  live_slots : (c : Cell) → SlotsPass tree (is_live posted_phase m) c → SlotsPass tree (is_live posted_phase m') c
  live_slots c s = slots_weaken tree (is_live posted_phase m) (is_live posted_phase m') (λ a e. live_stays m m' born_stays a posted_phase e) c s

  new_slots : (c : Cell) → SlotsPass tree (is_new_address m) c → SlotsPass tree (is_new_address m') c
  new_slots c s = slots_weaken tree (is_new_address m) (is_new_address m') (new_stays m m' born_stays) c s

  marked_slots : (c : Cell) → SlotsPass tree (is_marked_address m) c → SlotsPass tree (is_marked_address m') c
  marked_slots c s = slots_weaken tree (is_marked_address m) (is_marked_address m') (marked_stays m m' born_stays) c s

  -- each live address has the forward that it had
  forward_by : (a : Addr) → IsLying m a → forward m' a ≡ forward m a
  forward_by a (permanent e) = forward_permanent m' h' a e ∙ sym (forward_permanent m h a e)
  forward_by a (in_old c e) = rw (kept_old a c e, e) refl
  forward_by a (in_new c e) = forward_new m' h' a c (kept_new a c e) ∙ sym (forward_new m h a c e)

  pub born_forward : (a : Addr) → is_live posted_phase m a ≡ true → forward m' a ≡ forward m a
  born_forward a e = forward_by a (live_lies m a posted_phase e)

  -- ---- blocks

  -- the blocks are as they should be in the phase
  born_blocks : AreBlocks posted_phase words m'
  born_blocks =
      AreBlocks-kept posted_phase posted_phase words m m' sound.blocks refl h' (born_flags m k n space).0 (born_words m k n space).0 (born_words m k n space).1
      (λ e. none_added m k n space (suits.early e) ∙ sound.blocks.none_new e) (λ e. ap (λ x. (give_birth x m k n).grey) (suits.between e) ∙ sound.blocks.none_grey e)

  -- ---- copies

  -- a word of an object that is read has the copy that it had
  word_stays : (c : Cell) → is_read posted_phase c ≡ true → (a : Addr) → cell_in m.old a ≡ Some c → (slot word : ℕ) → slice_get c.slots slot ≡ Some word
      → copied_word tree m c slot word ≡ copied_word tree m' c slot word
  word_stays c read a lies slot word there = by_kind (holds_reference tree c.kind slot) refl
    where
      by_kind : (t : Bool) → holds_reference tree c.kind slot ≡ t → (if t then forward_word m word else word) ≡ (if t then forward_word m' word else word)
      by_kind true holds = ap (λ (x : Addr). x.number) (sym (born_forward (reference_in word) (sound.copies.old_references a c lies read slot word there holds)))
      by_kind false holds = refl

  -- copies are copies still
  copies_stay : (a : Addr) (c d : Cell) → cell_in m.old a ≡ Some c → c.marked ≡ true → AreCopies tree posted_phase p m a c d → AreCopies tree posted_phase p m' a c d
  copies_stay a c d lies marked are = record {
    kind = are.kind;
    count = are.count;
    back = are.back;
    words = words_stay;
  }
    where
      words_stay : (word : ℕ) → IsInCopy posted_phase p m' a c word → IsCopiedWord tree m' c d word
      words_stay zero e = are.words 0 (in_copy_before p m m' (born_start m k n space) a posted_phase c 0 e)
      words_stay (suc slot) e = λ word there. (
          let before = in_copy_before p m m' (born_start m k n space) a posted_phase c (suc slot) e in
          let read = read_once_copied posted_phase p m a (suc slot) c before marked in
          are.words (suc slot) before word there ∙ ap Some (word_stays c read a lies slot word there))

  -- each old object that refers to a copy has it
  born_out : (a b : Addr) (c : Cell) → cell_in m'.old a ≡ Some c → c.other ≡ Some b → (d : Cell) × (cell_in m'.new b ≡ Some d) × AreCopies tree posted_phase p m' a c d
  born_out a b c e other = elim (was_old a c e) [
    | inl was ↦ by_copy was (sound.copies.out a b c was other)
    | inr here ↦ out_part m k n h tree posted_phase p space h' a b c here.0 here.1 other
  ]
    where
      some_other : c.other ≢ None
      some_other none = none-some b (sym none ∙ other)

      by_copy : cell_in m.old a ≡ Some c → (d : Cell) × (cell_in m.new b ≡ Some d) × AreCopies tree posted_phase p m a c d → (d : Cell) × (cell_in m'.new b ≡ Some d) × AreCopies tree posted_phase p m' a c d
      by_copy was r = (r.0, kept_new b r.0 r.1, copies_stay a c r.0 was (sound.copies.marked_only a c was some_other) r.2)

  -- each new object that refers to an old one is its copy
  born_back : (a b : Addr) (d : Cell) → cell_in m'.new b ≡ Some d → d.other ≡ Some a → (c : Cell) × (cell_in m'.old a ≡ Some c) × (c.other ≡ Some b)
  born_back a b d e other = elim (was_new b d e) [
    | inl was ↦ (let r = sound.copies.back a b d was other in (r.0, kept_old a r.0 r.1, r.2))
    | inr here ↦ back_part m k n h tree posted_phase p space a b d here.0 here.1 other
  ]

  -- each old object that was looked for has its copy
  born_shells : (a : Addr) (c : Cell) → cell_in m'.old a ≡ Some c → c.marked ≡ true → HasLooked posted_phase p m' a → c.other ≢ None
  born_shells a c e marked looked = elim (was_old a c e) [
    | inl was ↦ sound.copies.shells a c was marked before
    | inr here ↦ (λ none. suits.unlooked (listed_part m k n space (ap is_marked_cell here.1 ∙ marked) (ap other_of here.1 ∙ none)) (subst (λ x. HasLooked posted_phase p m x) (same_address a (next_address m.old) here.0) before))
  ]
    where
      before : HasLooked posted_phase p m a
      before = looked_before p m m' (born_start m k n space) a posted_phase looked

  -- only marked objects have copies
  born_marked_only : (a : Addr) (c : Cell) → cell_in m'.old a ≡ Some c → c.other ≢ None → c.marked ≡ true
  born_marked_only a c e some = elim (was_old a c e) [
    | inl was ↦ sound.copies.marked_only a c was some
    | inr here ↦ sym (ap is_marked_cell here.1) ∙ marked_part m k n space (λ none. some (sym (ap other_of here.1) ∙ none))
  ]

  -- what is read of the old block refers to what is live
  born_old_references : (a : Addr) (c : Cell) → cell_in m'.old a ≡ Some c → is_read posted_phase c ≡ true → SlotsPass tree (is_live posted_phase m') c
  born_old_references a c e read = elim (was_old a c e) [
    | inl was ↦ live_slots c (sound.copies.old_references a c was read)
    | inr here ↦ zeros_pass tree (is_live posted_phase m') refl c n (old_empty m k n space c here.1)
  ]

  -- the new block refers to nothing old
  born_new_references : (b : Addr) (d : Cell) → cell_in m'.new b ≡ Some d → SlotsPass tree (is_new_address m') d
  born_new_references b d e = elim (was_new b d e) [
    | inl was ↦ new_slots d (sound.copies.new_references b d was)
    | inr here ↦ zeros_pass tree (is_new_address m') refl d n (new_empty m k n space d here.1)
  ]

  -- all of it together
  born_copied : AreCopied tree posted_phase p m'
  born_copied = record {
    no_copy = λ a c e before. elim (was_old a c e) [
      | inl was ↦ sound.copies.no_copy a c was before
      | inr here ↦ sym (ap other_of here.1) ∙ bare_part m k n space (suits.early before)
    ];
    unmarked = λ a c e between. elim (was_old a c e) [
      | inl was ↦ sound.copies.unmarked a c was between
      | inr here ↦ sym (ap is_marked_cell here.1) ∙ ap (λ x. is_marked_cell (old_part x m k n)) (suits.between between)
    ];
    out = born_out;
    back = born_back;
    shells = born_shells;
    marked_only = born_marked_only;
    old_references = born_old_references;
    new_references = born_new_references;
    room = λ e. HasShellRoom-born m h k n space (suits.room e) (sound.copies.room e);
  }

  -- ---- marks

  -- what is grey stays so
  grey_stays : (a : Addr) → IsListed m.grey a → IsListed m'.grey a
  grey_stays a e = grey_before m k n space a e

  -- marked objects of a list stay so
  listed_stays : (xs : List Addr) → All (λ a. is_marked_old m a ≡ true) xs → All (λ a. is_marked_old m' a ≡ true) xs
  listed_stays xs all i d inside = born_stays.marked (get_or xs i d) (all i d inside)

  -- what is born in Mark is marked where it is listed
  last_marked : space ≡ Listed → is_marked_old m' (next_address m.old) ≡ true
  last_marked is = ap is_marked_cell (born-old_last m h k n space (empty_cell k n true None) (ap (λ x. old_part x m k n) is))

  -- all that is grey is marked
  born_listed : (space ≡ InOld) ⊎ (space ≡ Listed) → All (λ a. is_marked_old m a ≡ true) m.grey → All (λ a. is_marked_old m' a ≡ true) m'.grey
  born_listed (inl is) all = subst (All (λ a. is_marked_old m' a ≡ true)) (sym (ap (λ x. (give_birth x m k n).grey) is)) (listed_stays m.grey all)
  born_listed (inr is) all =
      let last = All-cons (λ a. is_marked_old m' a ≡ true) (next_address m.old) [] (last_marked is) (All-nil (λ a. is_marked_old m' a ≡ true)) in
      let both = All-append (λ a. is_marked_old m' a ≡ true) m.grey (next_address m.old ∷ []) (listed_stays m.grey all) last in
      subst (All (λ a. is_marked_old m' a ≡ true)) (sym (ap (λ x. (give_birth x m k n).grey) is)) both

  -- the oldest grey object is the one that it was, or there was none
  oldest_by : (xs : List Addr) (b g : Addr) (rest : List Addr) → xs ++ b ∷ [] ≡ g ∷ rest → (xs ≡ []) ⊎ ((ys : List Addr) × (xs ≡ g ∷ ys))
  oldest_by [] b g rest e = inl refl
  oldest_by (x ∷ xs) b g rest e = inr (xs, ap (λ y. y ∷ xs) (first_is x g (xs ++ b ∷ []) rest e))

  oldest_was : (space ≡ InOld) ⊎ (space ≡ Listed) → (g : Addr) (rest : List Addr) → m'.grey ≡ g ∷ rest → (m.grey ≡ []) ⊎ ((ys : List Addr) × (m.grey ≡ g ∷ ys))
  oldest_was (inl is) g rest e = inr (rest, sym (ap (λ x. (give_birth x m k n).grey) is) ∙ e)
  oldest_was (inr is) g rest e = oldest_by m.grey (next_address m.old) g rest (sym (ap (λ x. (give_birth x m k n).grey) is) ∙ e)

  -- where nothing is grey nothing was
  none_was : (space ≡ InOld) ⊎ (space ≡ Listed) → m'.grey ≡ [] → m.grey ≡ []
  none_was (inl is) e = sym (ap (λ x. (give_birth x m k n).grey) is) ∙ e
  none_was (inr is) e = none_by m.grey (sym (ap (λ x. (give_birth x m k n).grey) is) ∙ e)
    where
      none_by : (xs : List Addr) → xs ++ next_address m.old ∷ [] ≡ [] → xs ≡ []
      none_by [] g = refl
      none_by (x ∷ xs) g = no_item x (xs ++ next_address m.old ∷ []) g

  module _ (marking : posted_phase ≡ Mark) where
    -- what was true of marks
    marks : AreMarked tree has_round p m
    marks = sound.marks marking

    -- what is born has one copy
    alone : (space ≡ InOld) ⊎ (space ≡ Listed)
    alone = suits.early (ap is_before_copies marking)

    -- it refers to marked objects alone
    born_passes : (a : Addr) (c : Cell) → old_part space m k n ≡ Some c → SlotsPass tree (is_marked_address m') c
    born_passes a c part = zeros_pass tree (is_marked_address m') refl c n (old_empty m k n space c part)

    -- a marked object that is not grey refers to marked ones alone
    born_black : (a : Addr) (c : Cell) → cell_in m'.old a ≡ Some c → c.marked ≡ true → IsListed m'.grey a ⊎ SlotsPass tree (is_marked_address m') c
    born_black a c e marked = elim (was_old a c e) [ inl was ↦ by_black (marks.black a c was marked) | inr here ↦ inr (born_passes a c here.1) ]
      where
        by_black : IsListed m.grey a ⊎ SlotsPass tree (is_marked_address m) c → IsListed m'.grey a ⊎ SlotsPass tree (is_marked_address m') c
        by_black (inl listed) = inl (grey_stays a listed)
        by_black (inr pass) = inr (marked_slots c pass)

    -- so does the oldest grey one as far as it is scanned
    born_oldest : (g : Addr) (rest : List Addr) (c : Cell) → m'.grey ≡ g ∷ rest → cell_in m'.old g ≡ Some c →
        (slot word : ℕ) → slot < p.scanned_slots → slice_get c.slots slot ≡ Some word → holds_reference tree c.kind slot ≡ true → is_marked_address m' (reference_in word) ≡ true
    born_oldest g rest c is e slot word near there holds = elim (was_old g c e) [
      | inl was ↦ by_oldest was (oldest_was alone g rest is)
      | inr here ↦ born_passes g c here.1 slot word there holds
    ]
      where
        by_oldest : cell_in m.old g ≡ Some c → (m.grey ≡ []) ⊎ ((ys : List Addr) × (m.grey ≡ g ∷ ys)) → is_marked_address m' (reference_in word) ≡ true
        by_oldest was (inl none) = absurd (omega (arith, marks.fresh none, near))
        by_oldest was (inr more) = marked_stays m m' born_stays (reference_in word) (marks.oldest g more.0 c more.1 was slot word near there holds)

    -- and each marked one where nothing was marked since the newest round was posted
    born_closed : has_round ≡ true → m'.has_marked ≡ false → (a : Addr) (c : Cell) → cell_in m'.old a ≡ Some c → c.marked ≡ true → SlotsPass tree (is_marked_address m') c
    born_closed round clean a c e marked = elim (was_old a c e) [
      | inl was ↦ marked_slots c (marks.closed round (sym (born_flags m k n space).1 ∙ clean) a c was marked)
      | inr here ↦ born_passes a c here.1
    ]

    -- all of it together
    born_marked : AreMarked tree has_round p m'
    born_marked = record {
      listed = born_listed alone marks.listed;
      black = born_black;
      fresh = λ none. marks.fresh (none_was alone none);
      oldest = born_oldest;
      closed = born_closed;
    }

    -- each marked object is grey still, where each was
    born_all_grey : ((a : Addr) → is_marked_old m a ≡ true → IsListed m.grey a) → (a : Addr) → is_marked_old m' a ≡ true → IsListed m'.grey a
    born_all_grey all a e = by_cell (marked_there (cell_in m'.old a) e)
      where
        by_index : (space ≡ InOld) ⊎ (space ≡ Listed) → (c : Cell) → c.marked ≡ true → a ≡ next_address m.old → old_part space m k n ≡ Some c → IsListed m'.grey a
        by_index (inl is) c marked at part = never (sym (ap (λ x. is_marked_cell (old_part x m k n)) is) ∙ ap is_marked_cell part ∙ marked)
        by_index (inr is) c marked at part = subst (λ xs. IsListed xs a) (sym (ap (λ x. (give_birth x m k n).grey) is)) (subst (IsListed (m.grey ++ next_address m.old ∷ [])) (sym at) (listed-last m.grey (next_address m.old)))

        by_cell : (c : Cell) × (cell_in m'.old a ≡ Some c) × (c.marked ≡ true) → IsListed m'.grey a
        by_cell r = elim (was_old a r.0 r.1) [
          | inl was ↦ grey_stays a (all a (ap is_marked_cell was ∙ r.2))
          | inr here ↦ by_index alone r.0 r.2 (same_address a (next_address m.old) here.0) here.1
        ]

  -- ---- the heap

  -- the new objects before the cursor of the collector are cleared
  born_cleared : posted_phase ≡ Reclaim → IsCleared p m'
  born_cleared last = record {
    offset = new_space m k n p.cursor space (sound.cleared last).offset;
    objects = λ b d e less. elim (was_new b d e) [
      | inl was ↦ (sound.cleared last).objects b d was (subst (λ s. b.number < s + p.cursor) (born_new_start m k n space) less)
      | inr here ↦ clear_part m k n space d (suits.clear last) here.1
    ];
  }

  -- what the collector has loaded is live still
  born_loaded : posted_phase ≡ Copy → IsLoaded tree p m'
  born_loaded copying is c lies slot next holds =
      let one = sound.cursor.words copying (λ none. absurd (omega (arith, next, none))) in
      let there = subst (λ s. cell_in m'.old (record { number = s + p.cursor }) ≡ Some c) (born_start m k n space) lies in
      let same : one.0 ≡ c = same_Some one.0 c (sym (kept_old (record { number = m.old.start + p.cursor }) one.0 one.1) ∙ there) in
      let held = ap (λ (z : Cell). holds_reference tree z.kind slot) same ∙ holds in
      live_stays m m' born_stays (reference_in p.attempt.word) Copy (sound.loaded copying is one.0 one.1 slot next held)

  -- the heap is sound
  pub born_heap : IsSoundHeap tree posted_phase has_round words p m'
  born_heap = record { blocks = born_blocks; copies = born_copied; cursor = HasCursor-born posted_phase p m sound.cursor space k n; loaded = born_loaded; marks = born_marked; cleared = born_cleared }

  -- where the collector has not begun, it has not begun still
  pub born_not_begun : HasNotBegun posted_phase has_round p m → HasNotBegun posted_phase has_round p m'
  born_not_begun before = record { nothing = before.nothing; no_round = before.no_round; all_grey = λ marking. born_all_grey marking (before.all_grey marking) }
