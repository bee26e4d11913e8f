-- Which words of an object are in its other copy after one more was copied.
use Rattle.std.proofs.Common.{◌≡◌, ◌≢◌, ◌⊎◌, ℕ, zero, suc, ◌<◌, ◌≤◌, Bool, true, false, List, ◌∷◌, length, refl, sym, ap, subst, ◌∙◌, arith}
use Rattle.std.specs.Prelude.{◌==◌, Some, None, slice_get, slice_set, unwrap_or}
use Rattle.std.proofs.Math.ListN.{length-set}
use Rattle.std.proofs.lemmas.Bool.{and_parts, eqb-true, eq-eqb}
use Rattle.std.proofs.lemmas.Bool.Decides.{nat_tests}
use Rattle.std.proofs.lemmas.Option.{same_Some, slice_get-get_or, slice_get_within}
use Rattle.cil_model.proofs.Lists.{set_is_there}
use Rattle.cil_model.specs.declared.phases.Phase.{Phase}
use Rattle.cil_model.specs.declared.phases.Phase.TheVariants.{Reclaim}
use Rattle.cil_model.specs.declared.trees.Tree.{Tree}
use Rattle.object_memory.specs.declared.addresses.Addr.{Addr}
use Rattle.object_memory.specs.declared.monitors.Monitor.{Monitor}
use Rattle.object_memory.specs.declared.monitors.Monitor.TheVariants.{Free, Held}
use Rattle.object_memory.specs.Cells.{Cell, size, store_monitor, store_slot}
use Rattle.object_memory.specs.Spaces.{Spaces}
use Rattle.object_memory.specs.Objects.{Objects, with_cell}
use Rattle.object_memory.proofs.TwoSpaces.TwoBlocks.{slot_keeps}
use Rattle.collector.specs.References.{Test, SlotsPass, holds_reference, reference_in}
use Rattle.collector.specs.Attempts.{has_loaded, is_same_monitor, with_loaded}
use Rattle.collector.specs.Soundness.{AreCopies, IsCopiedWord, IsInCopy, copied_word}
use Rattle.collector.specs.MarkSteps.{word_of}
use Rattle.collector.specs.CopySteps.{word_stored}
use Rattle.collector.specs.declared.progress.Attempt.{Attempt}
use Rattle.collector.specs.declared.progress.Progress.{Progress}
use Rattle.collector.specs.declared.progress.Stage.{Stage}
use Rattle.collector.specs.declared.progress.Stage.TheVariants.{Loaded}

-- ---- lists

-- what is at another index stays
set_elsewhere : {X : Type 0} (xs : List X) (n k : ℕ) (y : X) → n ≢ k → slice_get (slice_set xs n y) k ≡ slice_get xs k
set_elsewhere (x ∷ xs) zero zero y ne = absurd (ne refl)
set_elsewhere (x ∷ xs) (suc n) (suc k) y ne = set_elsewhere xs n k y (λ e. ne (ap (λ (i : ℕ). suc i) e))
set_elsewhere _ _ _ y ne = refl

-- ---- a word is stored

-- the other copy of a cell with what was loaded of a word
abbrev pub filled : Tree → Spaces → (from : Cell) → Attempt → ℕ → Cell → Cell
filled tree m from t zero to = store_monitor t.monitor to
filled tree m from t (suc slot) to = store_slot slot (copied_word tree m from slot t.word) to

pub word_stored_is : (tree : Tree) (o : Objects) (t : Attempt) (from : Cell) (to : Addr) (word : ℕ) → word_stored tree o t from to word ≡ with_cell (filled tree o.spaces from t word) o to
word_stored_is tree o t from to zero = refl
word_stored_is tree o t from to (suc slot) = refl

-- what is loaded is what the cell has, whatever was loaded before
pub filled_alike : (tree : Tree) (m : Spaces) (from : Cell) (t u : Attempt) (word : ℕ) → filled tree m from (with_loaded from word t) word ≡ filled tree m from (with_loaded from word u) word
filled_alike tree m from t u zero = refl
filled_alike tree m from t u (suc slot) = refl

-- ---- what was loaded

pub loaded_stage : (c : Cell) (word : ℕ) (t : Attempt) → (with_loaded c word t).stage ≡ Loaded
loaded_stage c zero t = refl
loaded_stage c (suc slot) t = refl

pub loaded_checks : (c : Cell) (word : ℕ) (t : Attempt) → (with_loaded c word t).failed_checks ≡ t.failed_checks
loaded_checks c zero t = refl
loaded_checks c (suc slot) t = refl

pub is_same_monitor-same : (x y : Monitor) → is_same_monitor x y ≡ true → x ≡ y
is_same_monitor-same Free Free e = refl
is_same_monitor-same (Held owner count) (Held owner' count') e =
    let both = and_parts (owner == owner') (count == count') e in
    ap (λ n. Held n count) (eqb-true owner owner' both.0) ∙ ap (Held owner') (eqb-true count count' both.1)
is_same_monitor-same _ _ e = absurd cc

is_same_monitor-self : (x : Monitor) → is_same_monitor x x ≡ true
is_same_monitor-self Free = refl
is_same_monitor-self (Held owner count) = rw (eq-eqb owner owner refl, eq-eqb count count refl) refl

-- a cell has the word that was just loaded
pub just_loaded : (c : Cell) (word : ℕ) (t : Attempt) (stage : Stage) → has_loaded (record (with_loaded c word t) { stage = stage }) c word ≡ true
just_loaded c zero t stage = is_same_monitor-self c.monitor
just_loaded c (suc slot) t stage = eq-eqb (word_of c slot) (word_of c slot) refl

module _ (tree : Tree) (m : Spaces) (from : Cell) (t : Attempt) where
  pub filled_size : (word : ℕ) (to : Cell) → size (filled tree m from t word to) ≡ size to
  filled_size zero to = refl
  filled_size (suc slot) to = slot_keeps slot (copied_word tree m from slot t.word) to

  pub filled_kind : (word : ℕ) (to : Cell) → (filled tree m from t word to).kind ≡ to.kind
  filled_kind zero to = refl
  filled_kind (suc slot) to = refl

  pub filled_other : (word : ℕ) (to : Cell) → (filled tree m from t word to).other ≡ to.other
  filled_other zero to = refl
  filled_other (suc slot) to = refl

  pub filled_count : (word : ℕ) (to : Cell) → length (filled tree m from t word to).slots ≡ length to.slots
  filled_count zero to = refl
  filled_count (suc slot) to = length-set to.slots slot (copied_word tree m from slot t.word)

  module _ (to : Cell) (count : length to.slots ≡ length from.slots) where
    -- the word is there, where the old copy has what was loaded still
    pub filled_own : (word : ℕ) → has_loaded t from word ≡ true → IsCopiedWord tree m from (filled tree m from t word to) word
    filled_own zero same = sym (is_same_monitor-same from.monitor t.monitor same)
    filled_own (suc slot) same = λ word there.
        (let inside : slot < length to.slots = (let within = slice_get_within from.slots slot word there in omega (arith, within, count)) in
        let is : t.word ≡ word = sym (eqb-true (word_of from slot) t.word same) ∙ ap (λ o. unwrap_or o 0) there in
        subst
        (λ w. slice_get (slice_set to.slots slot (copied_word tree m from slot w)) slot ≡ Some (copied_word tree m from slot word))
        (sym is)
        (set_is_there to.slots slot (copied_word tree m from slot word) _ (slice_get-get_or to.slots slot 0 inside)))

    -- and each other one that was
    pub filled_keeps : (word other : ℕ) → word ≢ other → IsCopiedWord tree m from to other → IsCopiedWord tree m from (filled tree m from t word to) other
    filled_keeps zero zero ne h = absurd (ne refl)
    filled_keeps (suc slot) (suc other) ne h = λ word there. set_elsewhere to.slots slot other (copied_word tree m from slot t.word) (λ e. ne (ap (λ (i : ℕ). suc i) e)) ∙ h word there
    filled_keeps _ _ ne h = h

    -- references that pass a test pass it still, where the stored one does
    module _ (test : Test) (kind : to.kind ≡ from.kind) (passes : SlotsPass tree test to) where
      slot_passes : (slot : ℕ) → (holds_reference tree from.kind slot ≡ true → test (reference_in (copied_word tree m from slot t.word)) ≡ true)
          → (other word : ℕ) (b : Bool) → (slot == other) ≡ b → slice_get (slice_set to.slots slot (copied_word tree m from slot t.word)) other ≡ Some word → holds_reference tree to.kind other ≡ true
          → test (reference_in word) ≡ true
      slot_passes slot now other word true same there holds =
          let here : slot ≡ other = grind (arith, nat_tests) in
          let within = slice_get_within (slice_set to.slots slot (copied_word tree m from slot t.word)) other word there in
          let inside : slot < length to.slots = omega (arith, here, within, length-set to.slots slot (copied_word tree m from slot t.word)) in
          let set = set_is_there to.slots slot (copied_word tree m from slot t.word) _ (slice_get-get_or to.slots slot 0 inside) in
          let equal : copied_word tree m from slot t.word ≡ word = same_Some _ word (sym set ∙ subst (λ i. slice_get (slice_set to.slots slot (copied_word tree m from slot t.word)) i ≡ Some word) (sym here) there) in
          let refers : holds_reference tree from.kind slot ≡ true = subst (λ i. holds_reference tree from.kind i ≡ true) (sym here) (ap (λ k. holds_reference tree k other) (sym kind) ∙ holds) in
          subst (λ w. test (reference_in w) ≡ true) equal (now refers)
      slot_passes slot now other word false ne there holds =
          passes other word (sym (set_elsewhere to.slots slot other (copied_word tree m from slot t.word) (λ e. absurd (grind (arith, nat_tests)))) ∙ there) holds

      pub filled_passes : (word : ℕ)
          → ((slot : ℕ) → word ≡ suc slot → holds_reference tree from.kind slot ≡ true → test (reference_in (copied_word tree m from slot t.word)) ≡ true)
          → SlotsPass tree test (filled tree m from t word to)
      filled_passes zero now = passes
      filled_passes (suc slot) now = λ other word there holds. slot_passes slot (now slot refl) other word (slot == other) refl there holds

-- ---- two copies

module _ (tree : Tree) (posted_phase : Phase) (p : Progress) (m : Spaces) (a : Addr) (c d : Cell) where
  -- where they agree in each of their words, they are two copies
  pub are_copies : d.kind ≡ c.kind → length d.slots ≡ length c.slots → ((posted_phase ≢ Reclaim) ⊎ (d.other ≢ None) → d.other ≡ Some a)
      → ((word : ℕ) → word ≤ length c.slots → IsInCopy posted_phase p m a c word → IsCopiedWord tree m c d word) → AreCopies tree posted_phase p m a c d
  are_copies kind count back words = record { kind = kind; count = count; back = back; words = each }
    where
      each : (word : ℕ) → IsInCopy posted_phase p m a c word → IsCopiedWord tree m c d word
      each zero is = words 0 (omega arith) is
      each (suc slot) is = λ word there. (let within = slice_get_within c.slots slot word there in words (suc slot) (omega (arith, within)) is word there)
