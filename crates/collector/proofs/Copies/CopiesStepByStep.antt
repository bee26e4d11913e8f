-- Copying, step by step: room for shells, and which word is copied next.
use Rattle.std.proofs.Common.{◌≡◌, ◌≢◌, ℕ, zero, suc, ◌+◌, ◌-◌, ◌<◌, ◌≤◌, ◌==◌, ◌&&◌, Bool, true, false, length, refl, sym, ap, subst, ◌∙◌, arith}
use Rattle.std.specs.Prelude.{if◌then◌else◌, is_none, is_some, nat_lt, Option, Some, None, option_map}
use Rattle.std.proofs.lemmas.Bool.{eqb-true, eq-eqb, le-ltb, lt-ltb}
use Rattle.cil_model.specs.declared.trees.Tree.{Tree}
use Rattle.cil_model.proofs.SameLaws.{never}
use Rattle.object_memory.specs.declared.addresses.Addr.{Addr}
use Rattle.object_memory.specs.Cells.{Cell, cell_in, slots_in, free_words}
use Rattle.object_memory.specs.Spaces.{Spaces, AreSpaces, HasShellRoom, found_in, has_other}
use Rattle.object_memory.specs.Objects.{Objects, with_slot}
use Rattle.object_memory.proofs.Offsets.{found_here}
use Rattle.object_memory.proofs.Rooms.{shell_fits, size-shell}
use Rattle.collector.specs.Conditions.{found_at}
use Rattle.collector.specs.MarkSteps.{word_of}
use Rattle.collector.specs.Attempts.{attempt_cost, with_loaded}
use Rattle.collector.specs.CopySteps.{before_word, after_word, copy_step_at, next_copy_step, needs_copy, word_begun, word_step, word_stored}
use Rattle.collector.specs.Soundness.{copied_word}
use Rattle.collector.specs.declared.progress.Attempt.{Attempt}
use Rattle.collector.specs.declared.progress.Progress.{Progress}
use Rattle.collector.specs.declared.progress.Stage.TheVariants.{Loaded}
use Rattle.collector.specs.declared.progress.TheConstants.{MOST_FAILED_CHECKS}
use Rattle.collector.specs.declared.walks.FoundObject.{FoundObject}
use Rattle.collector.proofs.Copies.CopiedWords.{loaded_checks}

-- ---- shells

no_copy_by : (marked : Bool) (other : Option Addr) → (marked && is_none other) ≡ true → other ≡ None
no_copy_by true None e = refl
no_copy_by _ _ e = absurd cc

-- an object that needs a copy has none
pub no_copy : (c : Cell) → needs_copy c ≡ true → c.other ≡ None
no_copy c e = no_copy_by c.marked c.other e

-- and there is room for its shell
pub room_for_shell : (m : Spaces) → AreSpaces m → HasShellRoom m → (a : Addr) (c : Cell) → cell_in m.old a ≡ Some c → needs_copy c ≡ true → 3 + length (slots_in m.old a) ≤ free_words m.new
room_for_shell m h room a c at needs =
    let fits = shell_fits m h room a c at (no_copy c needs) in
    let long = size-shell a c in
    rw at (omega (arith, fits, long))

-- ---- words

-- a word after the first is that of a slot
pub slot_stored : (tree : Tree) (o : Objects) (t : Attempt) (c : Cell) (b : Addr) (word : ℕ) → word ≢ 0 → with_slot o b (word - 1) (copied_word tree o.spaces c (word - 1) t.word) ≡ word_stored tree o t c b word
slot_stored tree o t c b zero some = absurd (some refl)
slot_stored tree o t c b (suc slot) some =
    let one : suc slot - 1 ≡ slot = omega arith in
    rw one refl

pub slot_loaded : (c : Cell) (word : ℕ) (t : Attempt) → word ≢ 0 → with_loaded c word t ≡ record t { stage = Loaded; word = word_of c (word - 1) }
slot_loaded c zero t some = absurd (some refl)
slot_loaded c (suc slot) t some =
    let one : suc slot - 1 ≡ slot = omega arith in
    rw one refl

-- the word that is loaded of a slot
pub loaded_word : (c : Cell) (word : ℕ) (t loaded : Attempt) → loaded ≡ with_loaded c word t → 0 < word → loaded.word ≡ word_of c (word - 1)
loaded_word c word t loaded is some = ap (λ (x : Attempt). x.word) (is ∙ slot_loaded c word t (λ none. absurd (omega (arith, none, some))))

pub other_some : (c : Cell) (b : Addr) → c.other ≡ Some b → c.other ≢ None
other_some c b e none = absurd cc

has_some : (o : Option Addr) → o ≢ None → is_some o ≡ true
has_some None some = absurd (some refl)
has_some (Some b) some = refl

-- what of an object with two copies is under way: words that are copied, and an attempt at the next one
abbrev pub IsUnderWay : Progress → Spaces → Type 0
IsUnderWay p m = (c : Cell) × (cell_in m.old (record { number = m.old.start + p.cursor }) ≡ Some c) × (c.other ≢ None) × (p.copied_words ≤ length c.slots)

-- an object whose words are copied next has one to come, and where an attempt is under way it is the one at the cursor
module _ (p : Progress) (m : Spaces) (f : FoundObject) (c : Cell) (found : ◌≡◌ {A = Option FoundObject} (Some f) (option_map (found_at m.old) (found_in has_other m.old (m.old.start + p.cursor)))) (at : cell_in m.old f.object ≡ Some c) where
  pub at_offset_is : IsUnderWay p m → (cell_in m.old (record { number = m.old.start + p.cursor }) ≡ Some c) × (p.copied_words ≤ length c.slots)
  at_offset_is within =
      let here = found_here has_other m.old (m.old.start + p.cursor) within.0 within.1 (has_some within.0.other within.2) in
      let both : ◌≡◌ {A = Option FoundObject} (Some f) (Some (found_at m.old (m.old.start + p.cursor))) = found ∙ ap (option_map (found_at m.old)) here in
      let same : f ≡ found_at m.old (m.old.start + p.cursor) = cc in
      let there : cell_in m.old (record { number = m.old.start + p.cursor }) ≡ Some c = sym (ap (λ (x : FoundObject). cell_in m.old x.object) same) ∙ at in
      let cells : Some c ≡ Some within.0 = sym there ∙ within.1 in
      let one : c ≡ within.0 = cc in
      (there, subst (λ (x : Cell). p.copied_words ≤ length x.slots) (sym one) within.3)

  pub words_left : (p.copied_words + attempt_cost p.attempt ≢ 0 → IsUnderWay p m) → p.copied_words ≤ length c.slots
  words_left words = by_test (p.copied_words == 0) refl
    where
      by_test : (t : Bool) → (p.copied_words == 0) ≡ t → p.copied_words ≤ length c.slots
      by_test true e = (let none = eqb-true p.copied_words 0 e in omega (arith, none))
      by_test false e =
          let some : p.copied_words ≢ 0 = λ none. never (sym e ∙ eq-eqb p.copied_words 0 none) in
          (at_offset_is (words (λ none. some (omega (arith, none))))).1

-- ---- a step of Copy

abbrev Outcome : Type 0
Outcome = Progress × Objects × Bool

module _ (tree : Tree) (p : Progress) (o : Objects) (f : FoundObject) (c : Cell) (b : Addr) where
  abbrev done : Addr → Outcome
  done a = ((word_step p.attempt.stage tree p o a c b).0, (word_step p.attempt.stage tree p o a c b).1, true)

  pub word_done : ◌≡◌ {A = Option FoundObject} (Some f) (option_map (found_at o.spaces.old) (found_in has_other o.spaces.old (o.spaces.old.start + p.cursor))) → cell_in o.spaces.old f.object ≡ Some c
      → c.other ≡ Some b → ◌≡◌ {A = Outcome} (done f.object) (next_copy_step tree p o)
  word_done found at other = by_found (found_in has_other o.spaces.old (o.spaces.old.start + p.cursor)) found
    where
      step_is : (n : ℕ) → cell_in o.spaces.old (record { number = n }) ≡ Some c → ◌≡◌ {A = Outcome} (copy_step_at tree p o (Some n)) (done (record { number = n }))
      step_is n there = rw (there, other) refl

      by_found : (x : Option ℕ) → ◌≡◌ {A = Option FoundObject} (Some f) (option_map (found_at o.spaces.old) x) → ◌≡◌ {A = Outcome} (done f.object) (copy_step_at tree p o x)
      by_found None e = absurd cc
      by_found (Some n) e =
          let same : f ≡ found_at o.spaces.old n = cc in
          let object : f.object ≡ record { number = n } = ap (λ (x : FoundObject). x.object) same in
          let there : cell_in o.spaces.old (record { number = n }) ≡ Some c = subst (λ a. cell_in o.spaces.old a ≡ Some c) object at in
          ap done object ∙ sym (step_is n there)

-- ---- a word begins

module _ (tree : Tree) (p : Progress) (o : Objects) (a : Addr) (c : Cell) (b : Addr) (t : Attempt) (is : t ≡ with_loaded c p.copied_words p.attempt) where
  checks : t.failed_checks ≡ p.attempt.failed_checks
  checks = ap (λ (x : Attempt). x.failed_checks) is ∙ loaded_checks c p.copied_words p.attempt

  abbrev begun : Bool → Progress × Objects
  begun u =
      if◌then◌else◌ {A = Progress × Objects} u (before_word p o.spaces.old a (with_loaded c p.copied_words p.attempt), o)
      (after_word p o.spaces.old a c p.copied_words, word_stored tree o (with_loaded c p.copied_words p.attempt) c b p.copied_words)

  -- it is loaded alone
  pub begun_loads : t.failed_checks < MOST_FAILED_CHECKS → ◌≡◌ {A = Progress × Objects} (before_word p o.spaces.old a t, o) (word_begun tree p o a c b)
  begun_loads less =
      let same = checks in
      let test : nat_lt p.attempt.failed_checks MOST_FAILED_CHECKS ≡ true = lt-ltb p.attempt.failed_checks MOST_FAILED_CHECKS (omega (arith, same, less)) in
      ap (λ (x : Attempt). (before_word p o.spaces.old a x, o)) is ∙ ap begun (sym test)

  -- or stored at once
  pub begun_stores : MOST_FAILED_CHECKS ≤ t.failed_checks → ◌≡◌ {A = Progress × Objects} (after_word p o.spaces.old a c p.copied_words, word_stored tree o t c b p.copied_words) (word_begun tree p o a c b)
  begun_stores more =
      let same = checks in
      let test : nat_lt p.attempt.failed_checks MOST_FAILED_CHECKS ≡ false = le-ltb p.attempt.failed_checks MOST_FAILED_CHECKS (omega (arith, same, more)) in
      ap (λ (x : Attempt). (after_word p o.spaces.old a c p.copied_words, word_stored tree o x c b p.copied_words)) is ∙ ap begun (sym test)
