-- The work of Copy keeps the heap sound: a word of an object is copied, and at the end of it each object with two copies has all its words in both.
use Rattle.std.proofs.Common.{◌≡◌, ◌≢◌, ◌⊎◌, inl, inr, ℕ, zero, suc, ◌+◌, ◌-◌, ◌<◌, ◌≤◌, Bool, true, false, length, refl, sym, ap, subst, ◌∙◌, arith}
use Rattle.std.specs.Prelude.{◌==◌, ◌||◌, nat_lt, if◌then◌else◌, is_some, Option, Some, None}
use Rattle.std.proofs.lemmas.Bool.{or_left}
use Rattle.std.proofs.lemmas.Bool.Decides.{nat_tests}
use Rattle.std.proofs.lemmas.Option.{same_Some}
use Rattle.cil_model.specs.declared.phases.Phase.TheVariants.{Copy, PreFlip}
use Rattle.cil_model.specs.declared.trees.Tree.{Tree}
use Rattle.object_memory.specs.declared.addresses.Addr.{Addr}
use Rattle.object_memory.specs.Cells.{Cell, Cells, size, cell_in, change_in}
use Rattle.object_memory.specs.Spaces.{Spaces, AreSpaces, IsOffset, change_at, found_in, has_other}
use Rattle.object_memory.specs.Objects.{Objects, with_cell}
use Rattle.object_memory.proofs.Blocks.{range_in, unchanged_in}
use Rattle.object_memory.proofs.Offsets.{cell, end, at_offset, below_next, found_here}
use Rattle.object_memory.proofs.TwoSpaces.TwoBlocks.{own, still, AreSpaces-change, after_in, before_in, change-new_alone, not_old}
use Rattle.collector.specs.References.{SlotsPass, holds_reference, reference_in, is_permanent}
use Rattle.collector.specs.Attempts.{has_loaded, most_spent, no_attempt, attempt_cost, stage_number, with_loaded}
use Rattle.collector.specs.MarkSteps.{word_of}
use Rattle.collector.specs.Phases.{HasCopied, is_live, is_marked_old, is_new, is_new_address, no_progress}
use Rattle.collector.specs.Soundness.{AreBlocks, AreCopies, AreCopied, HasCursor, IsCopiedWord, IsInCopy, IsLoaded, IsSoundHeap, copied_word}
use Rattle.collector.specs.CopySteps.{before_word, after_word, copy_step_at, next_copy_step, object_copied, word_step, word_stored}
use Rattle.collector.specs.declared.progress.Attempt.{Attempt}
use Rattle.collector.specs.declared.progress.Progress.{Progress}
use Rattle.collector.specs.declared.progress.Stage.{Stage}
use Rattle.collector.specs.declared.progress.Stage.TheVariants.{Begins, Loaded, Stored}
use Rattle.collector.specs.declared.progress.TheConstants.{MOST_FAILED_CHECKS}
use Rattle.collector.proofs.BlockWalks.ChangedBlocks.{IsOffset-cell}
use Rattle.collector.proofs.BlockWalks.FirstCells.{IsFound, found_is, none_found}
use Rattle.collector.proofs.Copies.CopyTests.{new_stays, other_there, some_is_other}
use Rattle.collector.proofs.Copies.CopiedWords.{are_copies, filled, filled_alike, filled_count, filled_keeps, filled_kind, filled_other, filled_own, filled_passes, filled_size, just_loaded, loaded_checks, loaded_stage, word_stored_is}
use Rattle.collector.proofs.Addresses.ObjectsInHeaps.{word_decoded}
use Rattle.collector.proofs.Copies.VisibleCopies.{forward_word_is_new}
use Rattle.collector.proofs.BlockWalks.CollectorOffsets.{HasCursor-begun}
use Rattle.collector.proofs.Addresses.Tests.{same_address, slots_weaken, some_there, same_cell}
use Rattle.collector.proofs.Addresses.Disjunctions.{or_more}
use Rattle.collector.proofs.PhaseChanges.LaterPhases.{AreBlocks-kept, IsSoundHeap-on}

has_some : (c : Cell) → c.other ≢ None → has_other c ≡ true
has_some c ne = let o = other_there c.other ne in ap is_some o.1

module _ (tree : Tree) (has_round : Bool) (words : ℕ) (p : Progress) (m : Spaces) (sound : IsSoundHeap tree Copy has_round words p m) where
  abbrev k : ℕ
  k = p.copied_words

  abbrev from : ℕ
  from = m.old.start + p.cursor

  -- ---- the next word

  -- the next object with another copy
  module _ (at : ℕ) (found : found_in has_other m.old from ≡ Some at) (c : Cell) (lies : cell_in m.old (record { number = at }) ≡ Some c) (b : Addr) (other : c.other ≡ Some b) where
    abbrev a : Addr
    a = record { number = at }

    is : IsFound has_other m.old from at
    is = found_is has_other m.old from at found

    low : m.old.start ≤ at
    low = (range_in m.old a c lies).0

    to : (d : Cell) × (cell_in m.new b ≡ Some d) × AreCopies tree Copy p m a c d
    to = sound.copies.out a b c lies other

    -- an object of which a part is copied, or with whose next word the collector has begun, is the next one
    begun : k + attempt_cost p.attempt ≢ 0 → (at ≡ from) × (k ≤ length c.slots)
    begun ne =
        let r = sound.cursor.words refl ne in
        let first = found_here has_other m.old from r.0 r.1 (has_some r.0 r.2) in
        let here : at ≡ from = same_Some at from (sym found ∙ first) in
        let there : cell_in m.old (record { number = from }) ≡ Some c = subst (λ (n : ℕ). cell_in m.old (record { number = n }) ≡ Some c) here lies in
        let equal : r.0 ≡ c = same_Some r.0 c (sym r.1 ∙ there) in
        (here, subst (λ (x : Cell). k ≤ length x.slots) equal r.3)

    few : k ≤ length c.slots
    few = by_test (k == 0) refl
      where
        by_test : (t : Bool) → (k == 0) ≡ t → k ≤ length c.slots
        by_test true test = let none : k ≡ 0 = grind (arith, nat_tests) in omega (arith, none)
        by_test false test = (let some : k ≢ 0 = (λ e. absurd (grind (arith, nat_tests))) in begun (λ e. some (omega (arith, e)))).1

    some_other : c.other ≢ None
    some_other = some_is_other c.other b other

    -- objects with another copy before this one lie before the cursor
    earlier : (x : Addr) (e : Cell) → cell_in m.old x ≡ Some e → e.other ≢ None → x.number < at → x.number < from
    earlier x e there some before = by_test (nat_lt x.number from) refl
      where
        by_test : (t : Bool) → nat_lt x.number from ≡ t → x.number < from
        by_test true test = grind (arith, nat_tests)
        by_test false test =
            let following : from ≤ x.number = grind (arith, nat_tests) in
            let wrong : true ≡ false = sym (has_some e some) ∙ is.before x e there following before in
            absurd cc

    here_is : m.old.start + (at - m.old.start) ≡ at
    here_is = omega (arith, low)

    -- of the object that is found those words are copied that were
    copied_here : (x : Addr) (word : ℕ) → x.number ≡ at → word < k → HasCopied Copy p m x word
    copied_here x word same less =
        let r = begun (λ e. absurd (omega (arith, e, less))) in
        inr (omega (arith, same, r.0), less)

    -- ---- before the word

    module _ (t : Attempt) where
      abbrev q : Progress
      q = before_word p m.old a t

      -- no word comes
      before_copied : (x : Addr) (e : Cell) (word : ℕ) → cell_in m.old x ≡ Some e → e.other ≢ None → HasCopied Copy q m x word → HasCopied Copy p m x word
      before_copied x e word there some (inl less) = inl (earlier x e there some (omega (arith, less, low)))
      before_copied x e word there some (inr (same, less)) = copied_here x word (omega (arith, same, low)) less

      before_offset : attempt_cost t ≤ most_spent → HasCursor Copy q m
      before_offset most = record {
        offset = λ posted_phase. subst (IsOffset m.old) (sym here_is) (IsOffset-cell m.old a c lies);
        attempts = λ posted_phase. most;
        words = λ posted_phase some. (c, subst (λ (n : ℕ). cell_in m.old (record { number = n }) ≡ Some c) (sym here_is) lies, some_other, few);
      }

      -- the heap is sound there, where nothing is stored
      before_sound : t.stage ≢ Stored → attempt_cost t ≤ most_spent → IsLoaded tree q m → IsSoundHeap tree Copy has_round words q m
      before_sound not_stored most loaded =
          IsSoundHeap-on tree Copy Copy has_round has_round words p q m sound refl refl refl (λ e. absurd cc) was_in sound.copies.shells sound.copies.old_references
          (λ e. absurd cc) (before_offset most) (λ e. loaded) (λ e. absurd cc)
        where
          was_in : (x : Addr) (e : Cell) (word : ℕ) → cell_in m.old x ≡ Some e → e.other ≢ None → word ≤ length e.slots → IsInCopy Copy q m x e word → IsInCopy Copy p m x e word
          was_in x e word there some short (inl done) = inl (before_copied x e word there some done)
          was_in x e word there some short (inr stored) = elim (not_stored stored.stored) [ ]

    -- the word is loaded
    loaded_sound : p.attempt.failed_checks < MOST_FAILED_CHECKS → IsSoundHeap tree Copy has_round words (before_word p m.old a (with_loaded c k p.attempt)) m
    loaded_sound less =
        before_sound (with_loaded c k p.attempt)
        (λ is. (let wrong : Loaded ≡ Stored = sym (loaded_stage c k p.attempt) ∙ is in absurd cc))
        (let stage = ap stage_number (loaded_stage c k p.attempt) in let checks = loaded_checks c k p.attempt in omega (arith, stage, checks, less))
        live
      where
        marked : c.marked ≡ true
        marked = sound.copies.marked_only a c lies some_other

        word_live : (word slot : ℕ) → word ≡ suc slot → word ≤ length c.slots → holds_reference tree c.kind slot ≡ true → is_live Copy m (reference_in (with_loaded c word p.attempt).word) ≡ true
        word_live zero slot next short holds = absurd (omega (arith, next))
        word_live (suc n) slot next short holds =
            let same : n ≡ slot = omega (arith, next) in
            let held = subst (λ i. holds_reference tree c.kind i ≡ true) (sym same) holds in
            sound.copies.old_references a c lies marked n (word_of c n) (word_decoded c n (omega (arith, short))) held

        live : IsLoaded tree (before_word p m.old a (with_loaded c k p.attempt)) m
        live loaded d there slot next holds =
            let here = subst (λ (n : ℕ). cell_in m.old (record { number = n }) ≡ Some d) here_is there in
            let same : d ≡ c = same_Some d c (sym here ∙ lies) in
            word_live k slot next few (ap (λ (z : Cell). holds_reference tree z.kind slot) (sym same) ∙ holds)

    -- the check failed
    failed_sound : p.attempt.stage ≡ Stored → IsSoundHeap tree Copy has_round words (before_word p m.old a (record no_attempt { failed_checks = p.attempt.failed_checks + 1 })) m
    failed_sound stored =
        before_sound (record no_attempt { failed_checks = p.attempt.failed_checks + 1 })
        (λ is. absurd cc)
        (let stage = ap stage_number stored in let most = sound.cursor.attempts refl in omega (arith, stage, most))
        (λ is. absurd cc)

    -- ---- the word is stored

    module _ (loaded : p.attempt.stage ≡ Loaded) where
      abbrev u : Attempt
      u = p.attempt

      abbrev stored_at : Progress
      stored_at = before_word p m.old a (record u { stage = Stored })

      one_spent : k + attempt_cost u ≢ 0
      one_spent e = (let stage = ap stage_number loaded in absurd (omega (arith, e, stage)))

      at_offset_is : at ≡ from
      at_offset_is = (begun one_spent).0

      abbrev f : Cell → Cell
      f = filled tree m c u k

      keeps : (d : Cell) → size (f d) ≡ size d
      keeps d = filled_size tree m c u k d

      abbrev after : Spaces
      after = record m { new = change_in f m.new b }

      -- the other copy of this object alone changes, and gets the word
      data WasNew (y : Addr) (e : Cell) : Type 0 where
        changed : y ≡ b → e ≡ f to.0 → WasNew y e
        kept : b.number ≢ y.number → cell_in m.new y ≡ Some e → WasNew y e

      was_new : (y : Addr) (e : Cell) → cell_in after.new y ≡ Some e → WasNew y e
      was_new y e there =
          let r = after_in f keeps m.new b y e there in
          elim r.2 [
            | own same equal ↦ (
                let here = same_address y b same in
                let old : r.0 ≡ to.0 = same_cell m.new y b r.0 to.0 same r.1 to.1 in
                changed here (equal ∙ ap f old))
            | still ne equal ↦ kept ne (r.1 ∙ ap Some (sym equal))
          ]

      -- no copied word of this object is the one that is stored
      not_next : (word : ℕ) → HasCopied Copy p m a word → word < k
      not_next word (inl less) = absurd (omega (arith, less, at_offset_is))
      not_next word (inr (same, less)) = less

      -- both copies of this object
      own_copies : AreCopies tree Copy stored_at after a c (f to.0)
      own_copies =
          are_copies tree Copy stored_at after a c (f to.0)
          (filled_kind tree m c u k to.0 ∙ to.2.kind)
          (filled_count tree m c u k to.0 ∙ to.2.count)
          (λ posted_phase. filled_other tree m c u k to.0 ∙ to.2.back (inl (λ wrong. absurd cc)))
          own_words
        where
          own_words : (word : ℕ) → word ≤ length c.slots → IsInCopy Copy stored_at after a c word → IsCopiedWord tree m c (f to.0) word
          own_words word short (inl done) =
              let was = before_copied (record u { stage = Stored }) a c word lies some_other done in
              let near = not_next word was in
              filled_keeps tree m c u to.0 to.2.count k word (λ e. absurd (omega (arith, e, near))) (to.2.words word (inl was))
          own_words word short (inr h) =
              subst (IsCopiedWord tree m c (f to.0)) (sym h.next) (filled_own tree m c u to.0 to.2.count k (same_loaded word k h.next h.same))
            where
              same_loaded : (n l : ℕ) → n ≡ l → has_loaded (record u { stage = Stored }) c n ≡ true → has_loaded u c l ≡ true
              same_loaded n l e same = by_word l (subst (λ i. has_loaded (record u { stage = Stored }) c i ≡ true) e same)
                where
                  by_word : (i : ℕ) → has_loaded (record u { stage = Stored }) c i ≡ true → has_loaded u c i ≡ true
                  by_word zero same = same
                  by_word (suc slot) same = same

      -- both copies of another one
      else_copies : (x y : Addr) (e d : Cell) → cell_in m.old x ≡ Some e → e.other ≡ Some y → b.number ≢ y.number → AreCopies tree Copy p m x e d → AreCopies tree Copy stored_at after x e d
      else_copies x y e d there some ne h = are_copies tree Copy stored_at after x e d h.kind h.count (λ posted_phase. h.back (inl (λ wrong. absurd cc))) else_words
        where
          else_words : (word : ℕ) → word ≤ length e.slots → IsInCopy Copy stored_at after x e word → IsCopiedWord tree m e d word
          else_words word short (inl done) = h.words word (inl (before_copied (record u { stage = Stored }) x e word there (some_is_other e.other y some) done))
          else_words word short (inr s) =
              let here : x.number ≡ at = s.here ∙ here_is in
              let equal : e ≡ c = same_cell m.old x a e c here there lies in
              let one : y ≡ b = same_Some y b (sym some ∙ ap (λ (z : Cell). z.other) equal ∙ other) in
              absurd (ne (ap (λ (z : Addr). z.number) (sym one)))

      filled_out : (x y : Addr) (e : Cell) → cell_in m.old x ≡ Some e → e.other ≡ Some y → (d : Cell) × (cell_in after.new y ≡ Some d) × AreCopies tree Copy stored_at after x e d
      filled_out x y e there some =
          let r = sound.copies.out x y e there some in
          let now = before_in f keeps m.new b y r.0 r.1 in
          by_case r now.0 now.1 (was_new y now.0 now.1)
        where
          by_case : (r : (d : Cell) × (cell_in m.new y ≡ Some d) × AreCopies tree Copy p m x e d) (d : Cell) → cell_in after.new y ≡ Some d → WasNew y d
              → (d : Cell) × (cell_in after.new y ≡ Some d) × AreCopies tree Copy stored_at after x e d
          by_case r d now (changed here equal) =
              let same : r.0 ≡ to.0 = same_cell m.new y b r.0 to.0 (ap (λ (z : Addr). z.number) here) r.1 to.1 in
              let mine : r.0.other ≡ Some x = r.2.back (inl (λ wrong. absurd cc)) in
              let this : to.0.other ≡ Some a = to.2.back (inl (λ wrong. absurd cc)) in
              let one : x ≡ a = same_Some x a (sym mine ∙ ap (λ (z : Cell). z.other) same ∙ this) in
              let old : cell_in m.old a ≡ Some e = subst (λ z. cell_in m.old z ≡ Some e) one there in
              let equal_old : e ≡ c = same_Some e c (sym old ∙ lies) in
              (f to.0, now ∙ ap Some equal, subst (λ z. AreCopies tree Copy stored_at after z e (f to.0)) (sym one) (subst (λ z. AreCopies tree Copy stored_at after a z (f to.0)) (sym equal_old) own_copies))
          by_case r d now (kept ne was) =
              let same : r.0 ≡ d = same_Some r.0 d (sym r.1 ∙ was) in
              (d, now, else_copies x y e d there some ne (subst (AreCopies tree Copy p m x e) same r.2))

      filled_back : (x y : Addr) (e : Cell) → cell_in after.new y ≡ Some e → e.other ≡ Some x → (d : Cell) × (cell_in m.old x ≡ Some d) × (d.other ≡ Some y)
      filled_back x y e there some = by_case (was_new y e there)
        where
          by_case : WasNew y e → (d : Cell) × (cell_in m.old x ≡ Some d) × (d.other ≡ Some y)
          by_case (changed here equal) =
              let was : to.0.other ≡ Some x = sym (filled_other tree m c u k to.0) ∙ sym (ap (λ (z : Cell). z.other) equal) ∙ some in
              let at_y : cell_in m.new y ≡ Some to.0 = subst (λ z. cell_in m.new z ≡ Some to.0) (sym here) to.1 in
              sound.copies.back x y to.0 at_y was
          by_case (kept ne was) = sound.copies.back x y e was some

      -- what is new is new still
      stays : (x : Addr) → is_new_address m x ≡ true → is_new_address after x ≡ true
      stays x h = new_stays m after (λ z d there. (let r = before_in f keeps m.new b z d there in (r.0, r.1))) x h

      -- a stored reference is new
      now_new : (slot : ℕ) → k ≡ suc slot → holds_reference tree c.kind slot ≡ true → is_new_address m (reference_in (copied_word tree m c slot u.word)) ≡ true
      now_new slot next holds =
          let there = subst (λ (n : ℕ). cell_in m.old (record { number = n }) ≡ Some c) at_offset_is lies in
          let live = sound.loaded refl loaded c there slot next holds in
          rw holds (forward_word_is_new tree Copy p m sound.blocks.spaces sound.copies refl u.word live)

      filled_new : (y : Addr) (e : Cell) → cell_in after.new y ≡ Some e → SlotsPass tree (is_new_address after) e
      filled_new y e there = slots_weaken tree (is_new_address m) (is_new_address after) stays e (by_case (was_new y e there))
        where
          by_case : WasNew y e → SlotsPass tree (is_new_address m) e
          by_case (changed here equal) =
              subst (SlotsPass tree (is_new_address m)) (sym equal)
              (filled_passes tree m c u to.0 to.2.count (is_new_address m) to.2.kind (sound.copies.new_references b to.0 to.1) k now_new)
          by_case (kept ne was) = sound.copies.new_references y e was

      filled_copied : AreCopied tree Copy stored_at after
      filled_copied = record {
        no_copy = λ x d there early. absurd cc;
        unmarked = λ x d there over. absurd cc;
        out = filled_out;
        back = filled_back;
        shells = sound.copies.shells;
        marked_only = sound.copies.marked_only;
        old_references = sound.copies.old_references;
        new_references = filled_new;
        room = λ posted_phase. elim posted_phase [ inl wrong ↦ absurd cc | inr wrong ↦ absurd cc ];
      }

      filled_blocks : AreBlocks Copy words after
      filled_blocks =
          AreBlocks-kept Copy Copy words m after sound.blocks refl (subst AreSpaces (change-new_alone f m sound.blocks.spaces b to.0 to.1) (AreSpaces-change f keeps m b sound.blocks.spaces)) refl refl refl
          (λ early. absurd cc) (λ over. absurd cc)

      after_sound : IsSoundHeap tree Copy has_round words stored_at after
      after_sound = record {
        blocks = filled_blocks;
        copies = filled_copied;
        cursor = (
            let h = before_offset (record u { stage = Stored }) (let stage = ap stage_number loaded in let most = sound.cursor.attempts refl in omega (arith, stage, most)) in
            record { offset = h.offset; attempts = h.attempts; words = h.words });
        loaded = λ posted_phase is. absurd cc;
        marks = λ posted_phase. absurd cc;
        cleared = λ posted_phase. absurd cc;
      }

      stored_sound : IsSoundHeap tree Copy has_round words stored_at (change_at f m b)
      stored_sound = subst (IsSoundHeap tree Copy has_round words stored_at) (sym (change-new_alone f m sound.blocks.spaces b to.0 to.1)) after_sound

    -- ---- after the word

    abbrev next : Bool → Progress
    next t = if t then record p { cursor = at - m.old.start; copied_words = k + 1; attempt = no_attempt } else record p { cursor = at - m.old.start + size c; copied_words = 0; attempt = no_attempt }

    -- of this object those words are copied that were, and the next one
    here_by : (x : Addr) (word : ℕ) → x.number ≡ at → word ≤ k → HasCopied Copy p m x word ⊎ ((x.number ≡ at) × (word ≡ k))
    here_by x word same upto = by_test (word == k) refl
      where
        by_test : (t : Bool) → (word == k) ≡ t → HasCopied Copy p m x word ⊎ ((x.number ≡ at) × (word ≡ k))
        by_test true test = inr (same, grind (arith, nat_tests))
        by_test false test = let less : word < k = grind (arith, nat_tests) in inl (copied_here x word same less)

    before : (t : Bool) → nat_lt k (length c.slots) ≡ t → (x : Addr) (e : Cell) (word : ℕ) → cell_in m.old x ≡ Some e → e.other ≢ None → word ≤ length e.slots
        → HasCopied Copy (next t) m x word → HasCopied Copy p m x word ⊎ ((x.number ≡ at) × (word ≡ k))
    before true test x e word there some short (inl less) = inl (inl (earlier x e there some (omega (arith, less, low))))
    before true test x e word there some short (inr (same, less)) = here_by x word (omega (arith, same, low)) (omega (arith, less))
    before false test x e word there some short (inl less) = by_case (below_next m.old at c lies x e there (omega (arith, less, low)))
      where
        by_case : (x.number < at) ⊎ (x.number ≡ at) → HasCopied Copy p m x word ⊎ ((x.number ≡ at) × (word ≡ k))
        by_case (inl under) = inl (inl (earlier x e there some under))
        by_case (inr same) =
            let equal : e ≡ c = same_cell m.old x a e c same there lies in
            let long = ap (λ (z : Cell). length z.slots) equal in
            here_by x word same (let all : length c.slots ≤ k = grind (arith, nat_tests) in omega (arith, short, long, all))
    before false test x e word there some short (inr (same, less)) = absurd (omega (arith, less))

    next_stage : (t : Bool) → (next t).attempt.stage ≡ Begins
    next_stage true = refl
    next_stage false = refl

    next_offset : (t : Bool) → IsOffset m.old (m.old.start + (next t).cursor)
    next_offset true = subst (IsOffset m.old) (sym here_is) (IsOffset-cell m.old a c lies)
    next_offset false = elim (at_offset m.old at (IsOffset-cell m.old a c lies)) [
      | cell d there following ↦ (
          let equal : d ≡ c = same_Some d c (sym there ∙ lies) in
          let long = ap size equal in
          let far : at + size d ≡ m.old.start + (at - m.old.start + size c) = omega (arith, low, long) in
          subst (IsOffset m.old) far following)
      | end last ↦ absurd (omega (arith, last, (range_in m.old a c lies).1))
    ]

    next_spent : (t : Bool) → attempt_cost (next t).attempt ≤ most_spent
    next_spent true = omega arith
    next_spent false = omega arith

    next_words : (t : Bool) → nat_lt k (length c.slots) ≡ t → (next t).copied_words + attempt_cost (next t).attempt ≢ 0
        → (d : Cell) × (cell_in m.old (record { number = m.old.start + (next t).cursor }) ≡ Some d) × (d.other ≢ None) × ((next t).copied_words ≤ length d.slots)
    next_words true test ne =
        let there : cell_in m.old (record { number = m.old.start + (at - m.old.start) }) ≡ Some c = subst (λ (n : ℕ). cell_in m.old (record { number = n }) ≡ Some c) (sym here_is) lies in
        let less : k < length c.slots = grind (arith, nat_tests) in
        (c, there, some_other, omega (arith, less))
    next_words false test ne = absurd (ne refl)

    -- where the check finds what was loaded
    module _ (stored : p.attempt.stage ≡ Stored) (found_same : has_loaded p.attempt c k ≡ true) where
      two_spent : k + attempt_cost p.attempt ≢ 0
      two_spent e = (let stage = ap stage_number stored in absurd (omega (arith, e, stage)))

      -- the word is in the copy
      word_is_in : (x : Addr) (e : Cell) (word : ℕ) → cell_in m.old x ≡ Some e → x.number ≡ at → word ≡ k → IsInCopy Copy p m x e word
      word_is_in x e word there same next =
          let equal : e ≡ c = same_cell m.old x a e c same there lies in
          inr (record {
            copying = refl;
            here = same ∙ (begun two_spent).0;
            next = next;
            stored = stored;
            same = subst (λ (z : Cell). has_loaded p.attempt z word ≡ true) (sym equal) (subst (λ i. has_loaded p.attempt c i ≡ true) (sym next) found_same);
          })

      module _ (t : Bool) (test : nat_lt k (length c.slots) ≡ t) where
        was_in : (x : Addr) (e : Cell) (word : ℕ) → cell_in m.old x ≡ Some e → e.other ≢ None → word ≤ length e.slots → IsInCopy Copy (next t) m x e word → IsInCopy Copy p m x e word
        was_in x e word there some short (inl done) = elim (before t test x e word there some short done) [ inl was ↦ inl was | inr now ↦ word_is_in x e word there now.0 now.1 ]
        was_in x e word there some short (inr h) = (let wrong : Begins ≡ Stored = sym (next_stage t) ∙ h.stored in absurd cc)

        passed_by : IsSoundHeap tree Copy has_round words (next t) m
        passed_by =
            IsSoundHeap-on tree Copy Copy has_round has_round words p (next t) m sound refl refl refl (λ e. absurd cc) was_in sound.copies.shells sound.copies.old_references (λ e. absurd cc)
            (record { offset = λ posted_phase. next_offset t; attempts = λ posted_phase. next_spent t; words = λ posted_phase. next_words t test })
            (λ posted_phase is. (let wrong : Begins ≡ Loaded = sym (next_stage t) ∙ is in absurd cc)) (λ e. absurd cc)

      passed_sound : IsSoundHeap tree Copy has_round words (after_word p m.old a c k) m
      passed_sound = passed_by (nat_lt k (length c.slots)) refl

-- ---- a step

-- what is found has another copy
pub found_other : (s : Cells) (p at : ℕ) → IsFound has_other s p at → (c : Cell) × (b : Addr) × (cell_in s (record { number = at }) ≡ Some c) × (c.other ≡ Some b)
found_other s p at is = let b = some_there is.cell.other is.holds in (is.cell, b.0, is.lies, b.1)

-- fewer failed checks leave the heap sound
unfailed : (tree : Tree) (has_round : Bool) (words : ℕ) (p : Progress) (m : Spaces) → IsSoundHeap tree Copy has_round words p m → IsSoundHeap tree Copy has_round words (record p { attempt = record p.attempt { failed_checks = 0 } }) m
unfailed tree has_round words p m sound =
    IsSoundHeap-on tree Copy Copy has_round has_round words p q m sound refl refl refl (λ e. absurd cc) was_in sound.copies.shells sound.copies.old_references (λ e. absurd cc)
    (record {
      offset = sound.cursor.offset;
      attempts = λ posted_phase. (let most = sound.cursor.attempts refl in omega (arith, most));
      words = λ posted_phase some. sound.cursor.words refl (λ none. some (omega (arith, none)));
    }) (λ e. sound.loaded refl) (λ e. absurd cc)
  where
    q : Progress
    q = record p { attempt = record p.attempt { failed_checks = 0 } }

    same_loaded : (e : Cell) (word : ℕ) → has_loaded q.attempt e word ≡ true → has_loaded p.attempt e word ≡ true
    same_loaded e zero same = same
    same_loaded e (suc slot) same = same

    was_in : (x : Addr) (e : Cell) (word : ℕ) → cell_in m.old x ≡ Some e → e.other ≢ None → word ≤ length e.slots → IsInCopy Copy q m x e word → IsInCopy Copy p m x e word
    was_in x e word there some short (inl done) = inl done
    was_in x e word there some short (inr h) = inr (record { copying = h.copying; here = h.here; next = h.next; stored = h.stored; same = same_loaded e word h.same })

module _ (tree : Tree) (has_round : Bool) (words : ℕ) (p : Progress) (m : Spaces) (sound : IsSoundHeap tree Copy has_round words p m) (at : ℕ) (found : found_in has_other m.old (m.old.start + p.cursor) ≡ Some at)
    (c : Cell) (lies : cell_in m.old (record { number = at }) ≡ Some c) (b : Addr) (other : c.other ≡ Some b) where
  abbrev here : Addr
  here = record { number = at }

  abbrev word : ℕ
  word = p.copied_words

  -- a word that is loaded and stored at once is as if it were loaded, stored and checked
  abbrev p0 : Progress
  p0 = record p { attempt = record p.attempt { failed_checks = 0 } }

  abbrev p1 : Progress
  p1 = before_word p0 m.old here (with_loaded c word p0.attempt)

  abbrev stored_cell : Cell → Cell
  stored_cell = filled tree m c p1.attempt word

  abbrev n : Spaces
  n = change_at stored_cell m b

  abbrev p2 : Progress
  p2 = before_word p1 m.old here (record p1.attempt { stage = Stored })

  sound1 : IsSoundHeap tree Copy has_round words p1 m
  sound1 = loaded_sound tree has_round words p0 m (unfailed tree has_round words p m sound) at found c lies b other (omega arith)

  low_enough : m.old.start + (at - m.old.start) ≡ at
  low_enough = omega (arith, (range_in m.old here c lies).0)

  found_again : (s : Cells) → cell_in s (record { number = at }) ≡ Some c → found_in has_other s (m.old.start + (at - m.old.start)) ≡ Some at
  found_again s there = subst (λ i. found_in has_other s i ≡ Some at) (sym low_enough) (found_here has_other s at c there (ap is_some other))

  sound2 : IsSoundHeap tree Copy has_round words p2 n
  sound2 = stored_sound tree has_round words p1 m sound1 at (found_again m.old lies) c lies b other (loaded_stage c word p0.attempt)

  old_stays : n.old ≡ m.old
  old_stays =
      let d = sound.copies.out here b c lies other in
      unchanged_in stored_cell m.old b (not_old m sound.blocks.spaces b d.0 d.1)

  lies_still : cell_in n.old here ≡ Some c
  lies_still = ap (λ (s : Cells). cell_in s here) old_stays ∙ lies

  sound3 : IsSoundHeap tree Copy has_round words (after_word p2 n.old here c word) n
  sound3 = passed_sound tree has_round words p2 n sound2 at (found_again n.old lies_still) c lies_still b other refl (just_loaded c word p0.attempt Stored)

  pub at_once_sound : IsSoundHeap tree Copy has_round words (after_word p m.old here c word) (change_at (filled tree m c (with_loaded c word p.attempt) word) m b)
  at_once_sound =
      subst (λ (g : Cell → Cell). IsSoundHeap tree Copy has_round words (after_word p m.old here c word) (change_at g m b)) (filled_alike tree m c p0.attempt p.attempt word)
      (subst (λ z. IsSoundHeap tree Copy has_round words z n) (after_same (nat_lt word (length c.slots))) sound3)
    where
      after_same : (t : Bool) → (if t then record p2 { cursor = at - m.old.start; copied_words = word + 1; attempt = no_attempt } else record p2 { cursor = at - m.old.start + size c; copied_words = 0; attempt = no_attempt })
          ≡ (if t then record p { cursor = at - m.old.start; copied_words = word + 1; attempt = no_attempt } else record p { cursor = at - m.old.start + size c; copied_words = 0; attempt = no_attempt })
      after_same true = refl
      after_same false = refl

module _ (tree : Tree) (p : Progress) (o : Objects) where
  -- a step at the object that is found
  copied_is : (at : ℕ) (c : Cell) (b : Addr) → cell_in o.spaces.old (record { number = at }) ≡ Some c → c.other ≡ Some b
      → copy_step_at tree p o (Some at) ≡ object_copied tree p o (record { number = at }) c b
  copied_is at c b lies other = rw (lies, other) refl

  -- the objects after a step: they stay, or what was loaded of a word is stored
  pub data IsStep (o' : Objects) : Type 0 where
    none_stored : o' ≡ o → IsStep o'
    one_stored : (at : ℕ) (c : Cell) (b : Addr) (t : Attempt) → cell_in o.spaces.old (record { number = at }) ≡ Some c → c.other ≡ Some b → o' ≡ with_cell (filled tree o.spaces c t p.copied_words) o b → IsStep o'

  module _ (at : ℕ) (c : Cell) (b : Addr) (lies : cell_in o.spaces.old (record { number = at }) ≡ Some c) (other : c.other ≡ Some b) where
    begun_by : (t : Bool) → IsStep (if◌then◌else◌ {A = Progress × Objects} t (before_word p o.spaces.old (record { number = at }) (with_loaded c p.copied_words p.attempt), o)
        (after_word p o.spaces.old (record { number = at }) c p.copied_words, word_stored tree o (with_loaded c p.copied_words p.attempt) c b p.copied_words)).1
    begun_by true = none_stored refl
    begun_by false = one_stored at c b (with_loaded c p.copied_words p.attempt) lies other (word_stored_is tree o (with_loaded c p.copied_words p.attempt) c b p.copied_words)

    stage_by : (stage : Stage) → IsStep (word_step stage tree p o (record { number = at }) c b).1
    stage_by Begins = begun_by (nat_lt p.attempt.failed_checks MOST_FAILED_CHECKS)
    stage_by Loaded = one_stored at c b p.attempt lies other (word_stored_is tree o p.attempt c b p.copied_words)
    stage_by Stored = none_stored refl

  cases_by : (r : Option ℕ) → found_in has_other o.spaces.old (o.spaces.old.start + p.cursor) ≡ r → IsStep (copy_step_at tree p o r).1
  cases_by None found = none_stored refl
  cases_by (Some at) found =
      let x = found_other o.spaces.old (o.spaces.old.start + p.cursor) at (found_is has_other o.spaces.old (o.spaces.old.start + p.cursor) at found) in
      subst (λ (z : Progress × Objects × Bool). IsStep z.1) (sym (copied_is at x.0 x.1 x.2 x.3)) (stage_by at x.0 x.1 x.2 x.3 p.attempt.stage)

  pub copied_cases : IsStep (next_copy_step tree p o).1
  copied_cases = cases_by (found_in has_other o.spaces.old (o.spaces.old.start + p.cursor)) refl

  -- where there was no step nothing is found
  none_by : (r : Option ℕ) → found_in has_other o.spaces.old (o.spaces.old.start + p.cursor) ≡ r → (copy_step_at tree p o r).2 ≡ false → r ≡ None
  none_by None found over = refl
  none_by (Some at) found over =
      let x = found_other o.spaces.old (o.spaces.old.start + p.cursor) at (found_is has_other o.spaces.old (o.spaces.old.start + p.cursor) at found) in
      let wrong : true ≡ false = sym (ap (λ (z : Progress × Objects × Bool). z.2) (copied_is at x.0 x.1 x.2 x.3)) ∙ over in
      absurd cc

module _ (tree : Tree) (has_round : Bool) (words : ℕ) (p : Progress) (o : Objects) (sound : IsSoundHeap tree Copy has_round words p o.spaces) where
  abbrev IsSoundAfter : Progress × Objects → Type 0
  IsSoundAfter z = IsSoundHeap tree Copy has_round words z.0 z.1.spaces

  module _ (at : ℕ) (found : found_in has_other o.spaces.old (o.spaces.old.start + p.cursor) ≡ Some at) (c : Cell) (b : Addr) (lies : cell_in o.spaces.old (record { number = at }) ≡ Some c) (other : c.other ≡ Some b) where
    abbrev object : Addr
    object = record { number = at }

    -- what is stored is the cell with the word
    in_cell : (q : Progress) (t : Attempt) → IsSoundHeap tree Copy has_round words q (change_at (filled tree o.spaces c t p.copied_words) o.spaces b) → IsSoundAfter (q, word_stored tree o t c b p.copied_words)
    in_cell q t h = subst (λ (x : Objects). IsSoundHeap tree Copy has_round words q x.spaces) (sym (word_stored_is tree o t c b p.copied_words)) h

    begun_sound : (t : Bool) → nat_lt p.attempt.failed_checks MOST_FAILED_CHECKS ≡ t
        → IsSoundAfter (if◌then◌else◌ {A = Progress × Objects} t (before_word p o.spaces.old object (with_loaded c p.copied_words p.attempt), o)
        (after_word p o.spaces.old object c p.copied_words, word_stored tree o (with_loaded c p.copied_words p.attempt) c b p.copied_words))
    begun_sound true test = loaded_sound tree has_round words p o.spaces sound at found c lies b other (grind (arith, nat_tests))
    begun_sound false test = in_cell (after_word p o.spaces.old object c p.copied_words) (with_loaded c p.copied_words p.attempt) (at_once_sound tree has_round words p o.spaces sound at found c lies b other)

    checked_sound : p.attempt.stage ≡ Stored → (t : Bool) → has_loaded p.attempt c p.copied_words ≡ t
        → IsSoundHeap tree Copy has_round words (if t then after_word p o.spaces.old object c p.copied_words else before_word p o.spaces.old object (record no_attempt { failed_checks = p.attempt.failed_checks + 1 })) o.spaces
    checked_sound done true same = passed_sound tree has_round words p o.spaces sound at found c lies b other done same
    checked_sound done false same = failed_sound tree has_round words p o.spaces sound at found c lies b other done

    stage_sound : (stage : Stage) → p.attempt.stage ≡ stage → IsSoundAfter (word_step stage tree p o object c b)
    stage_sound Begins _ = begun_sound (nat_lt p.attempt.failed_checks MOST_FAILED_CHECKS) refl
    stage_sound Loaded is = in_cell (before_word p o.spaces.old object (record p.attempt { stage = Stored })) p.attempt (stored_sound tree has_round words p o.spaces sound at found c lies b other is)
    stage_sound Stored is = checked_sound is (has_loaded p.attempt c p.copied_words) refl

  step_by : (r : Option ℕ) → found_in has_other o.spaces.old (o.spaces.old.start + p.cursor) ≡ r → IsSoundHeap tree Copy has_round words (copy_step_at tree p o r).0 (copy_step_at tree p o r).1.spaces
  step_by None found = sound
  step_by (Some at) found =
      let x = found_other o.spaces.old (o.spaces.old.start + p.cursor) at (found_is has_other o.spaces.old (o.spaces.old.start + p.cursor) at found) in
      subst (λ (z : Progress × Objects × Bool). IsSoundHeap tree Copy has_round words z.0 z.1.spaces)
      (sym (copied_is tree p o at x.0 x.1 x.2 x.3))
      (stage_sound at found x.0 x.1 x.2 x.3 p.attempt.stage refl)

  -- a step of Copy keeps the heap sound
  pub copied_sound : IsSoundHeap tree Copy has_round words (next_copy_step tree p o).0 (next_copy_step tree p o).1.spaces
  copied_sound = step_by (found_in has_other o.spaces.old (o.spaces.old.start + p.cursor)) refl

  -- ---- the end

  -- what is live while Copy is posted is so while PreFlip is
  pub pre_flip_live : (x : Addr) → is_live Copy o.spaces x ≡ true → is_live PreFlip o.spaces x ≡ true
  pre_flip_live x h = or_more (is_permanent x) (is_marked_old o.spaces x) (is_marked_old o.spaces x || is_new o.spaces x) (or_left (is_marked_old o.spaces x) (is_new o.spaces x)) h

  module _ (over : (next_copy_step tree p o).2 ≡ false) where
    none_left : found_in has_other o.spaces.old (o.spaces.old.start + p.cursor) ≡ None
    none_left = none_by tree p o (found_in has_other o.spaces.old (o.spaces.old.start + p.cursor)) refl over

    -- each object with another copy lies before the cursor
    all_before : (x : Addr) (e : Cell) → cell_in o.spaces.old x ≡ Some e → e.other ≢ None → x.number < o.spaces.old.start + p.cursor
    all_before x e there some = by_test (nat_lt x.number (o.spaces.old.start + p.cursor)) refl
      where
        by_test : (t : Bool) → nat_lt x.number (o.spaces.old.start + p.cursor) ≡ t → x.number < o.spaces.old.start + p.cursor
        by_test true test = grind (arith, nat_tests)
        by_test false test =
            let following : o.spaces.old.start + p.cursor ≤ x.number = grind (arith, nat_tests) in
            let wrong : true ≡ false = sym (has_some e some) ∙ none_found has_other o.spaces.old (o.spaces.old.start + p.cursor) none_left x e there following in
            absurd cc

    -- where no step of Copy is left, PreFlip can be posted
    pub pre_flip_posted : IsSoundHeap tree PreFlip has_round words no_progress o.spaces
    pre_flip_posted =
        IsSoundHeap-on tree Copy PreFlip has_round has_round words p no_progress o.spaces sound refl refl refl (λ e. absurd cc)
        (λ x e word there some short is. inl (inl (all_before x e there some))) sound.copies.shells
        (λ x e there dark. slots_weaken tree (is_live Copy o.spaces) (is_live PreFlip o.spaces) pre_flip_live e (sound.copies.old_references x e there dark))
        (λ e. absurd cc) (HasCursor-begun PreFlip o.spaces) (λ e. absurd cc) (λ e. absurd cc)
