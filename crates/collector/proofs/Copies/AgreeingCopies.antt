-- Which stores of words and monitors are right in one cell, and which leave the two copies of an object alike.
use Rattle.std.proofs.Common.{◌≡◌, ◌≢◌, ◌⊎◌, inl, inr, ℕ, zero, suc, ◌<◌, Bool, true, false, List, [], ◌∷◌, length, refl, sym, ap, ◌∙◌, subst, arith}
use Rattle.std.specs.Prelude.{◌==◌, Option, Some, slice_get, slice_set, unwrap_or}
use Rattle.std.proofs.Math.ListN.{length-set}
use Rattle.std.proofs.lemmas.Bool.Decides.{nat_tests}
use Rattle.std.proofs.lemmas.Option.{same_Some, slice_get_within}
use Rattle.cil_model.specs.declared.phases.Phase.{Phase}
use Rattle.cil_model.specs.declared.trees.Tree.{Tree}
use Rattle.cil_model.proofs.Lists.{none_is_some}
use Rattle.object_memory.specs.declared.addresses.Addr.{Addr}
use Rattle.object_memory.specs.declared.monitors.Monitor.{Monitor}
use Rattle.object_memory.specs.Cells.{Cell, store_monitor, store_slot}
use Rattle.object_memory.specs.Spaces.{Spaces}
use Rattle.collector.specs.References.{Test, holds_reference, reference_in}
use Rattle.collector.specs.Attempts.{has_loaded}
use Rattle.collector.specs.Soundness.{AreCopies, IsCopiedSlot, IsCopiedWord, IsInCopy, copied_word}
use Rattle.collector.specs.declared.progress.Progress.{Progress}
use Rattle.collector.proofs.Addresses.TagChanges.{KeepsTags, monitor_keeps_tags, slot_keeps_tags}
use Rattle.collector.proofs.HeapStores.CellChanges.{AreStored}

-- ---- lists

set_own : (xs : List ℕ) (i w : ℕ) → i < length xs → slice_get (slice_set xs i w) i ≡ Some w
set_own [] i w inside = absurd (omega (arith, inside))
set_own (x ∷ xs) zero w inside = refl
set_own (x ∷ xs) (suc i) w inside = set_own xs i w (omega (arith, inside))

set_there : (xs : List ℕ) (i w x : ℕ) → slice_get (slice_set xs i w) i ≡ Some x → w ≡ x
set_there [] i w x e = none_is_some x e
set_there (y ∷ xs) zero w x e = same_Some w x e
set_there (y ∷ xs) (suc i) w x e = set_there xs i w x e

set_other : (xs : List ℕ) (i j w : ℕ) → i ≢ j → slice_get (slice_set xs i w) j ≡ slice_get xs j
set_other (x ∷ xs) zero zero w ne = absurd (ne refl)
set_other (x ∷ xs) (suc i) (suc j) w ne = set_other xs i j w (λ e. ne (ap suc e))
set_other _ _ _ w ne = refl

-- ---- one cell

-- a word in a slot, which passes where the slot holds a reference
pub word_stored : (tree : Tree) (test : Test) (c : Cell) (slot w : ℕ) → (holds_reference tree c.kind slot ≡ true → test (reference_in w) ≡ true) → AreStored tree test c (store_slot slot w c)
word_stored tree test c slot w right j x is link = by_test (slot == j) refl
  where
    by_test : (t : Bool) → (slot == j) ≡ t → (slice_get c.slots j ≡ Some x) ⊎ (test (reference_in x) ≡ true)
    by_test true e =
        let same : slot ≡ j = grind (arith, nat_tests) in
        let word : w ≡ x = set_there c.slots slot w x (subst (λ k. slice_get (slice_set c.slots slot w) k ≡ Some x) (sym same) is) in
        inr (subst (λ y. test (reference_in y) ≡ true) word (right (subst (λ k. holds_reference tree c.kind k ≡ true) (sym same) link)))
    by_test false e =
        let ne : slot ≢ j = λ h. absurd (grind (arith, nat_tests)) in
        inl (sym (set_other c.slots slot j w ne) ∙ is)

-- a monitor is no reference
pub monitor_stored : (tree : Tree) (test : Test) (c : Cell) (m : Monitor) → AreStored tree test c (store_monitor m c)
monitor_stored tree test c m j x is link = inl is

-- ---- two copies

module _ (tree : Tree) (posted_phase : Phase) (p : Progress) (m : Spaces) where
  -- copies that a change leaves alike in each word
  pub copies_by : (f g : Cell → Cell) → KeepsTags f → KeepsTags g → (x : Addr) (c d : Cell) → AreCopies tree posted_phase p m x c d
      → ((word : ℕ) → IsInCopy posted_phase p m x (f c) word → IsCopiedWord tree m (f c) (g d) word)
      → AreCopies tree posted_phase p m x (f c) (g d)
  copies_by f g keeps keeps' x c d were words = record {
    kind = keeps'.kind d ∙ were.kind ∙ sym (keeps.kind c);
    count = keeps'.count d ∙ were.count ∙ sym (keeps.count c);
    back = λ h. keeps'.other d ∙ were.back (elim h [ inl e ↦ inl e | inr e ↦ inr (λ k. e (keeps'.other d ∙ k)) ]);
    words = words;
  }

  -- what is in the copy was so before, where the old copy has the word that it had
  was_in_copy : (x : Addr) (c c' : Cell) (word : ℕ) → has_loaded p.attempt c' word ≡ has_loaded p.attempt c word → IsInCopy posted_phase p m x c' word → IsInCopy posted_phase p m x c word
  was_in_copy x c c' word same (inl done) = inl done
  was_in_copy x c c' word same (inr stored) = inr (record { copying = stored.copying; here = stored.here; next = stored.next; stored = stored.stored; same = sym same ∙ stored.same })

  -- a word in a slot of the old copy, and its copy in the new one
  module _ (slot w w' : ℕ) (x : Addr) (c d : Cell) (were : AreCopies tree posted_phase p m x c d) (copied : w' ≡ copied_word tree m c slot w) where
    copy_step_at : (j : ℕ) → (slot ≢ j → IsCopiedSlot tree m c d j) → IsCopiedSlot tree m (store_slot slot w c) (store_slot slot w' d) j
    copy_step_at j was word is = by_test (slot == j) refl
      where
        by_test : (t : Bool) → (slot == j) ≡ t → slice_get (slice_set d.slots slot w') j ≡ Some (copied_word tree m c j word)
        by_test true e =
            let same : slot ≡ j = grind (arith, nat_tests) in
            let there : slice_get (slice_set c.slots slot w) slot ≡ Some word = subst (λ k. slice_get (slice_set c.slots slot w) k ≡ Some word) (sym same) is in
            let value : w ≡ word = set_there c.slots slot w word there in
            let inside : slot < length (slice_set c.slots slot w) = slice_get_within (slice_set c.slots slot w) slot word there in
            let inside' : slot < length d.slots = omega (arith, inside, length-set c.slots slot w, were.count) in
            subst (λ k. slice_get (slice_set d.slots slot w') k ≡ Some (copied_word tree m c k word)) same
            (set_own d.slots slot w' inside' ∙ ap Some (copied ∙ ap (copied_word tree m c slot) value))
        by_test false e =
            let ne : slot ≢ j = λ h. absurd (grind (arith, nat_tests)) in
            set_other d.slots slot j w' ne ∙ was ne word (sym (set_other c.slots slot j w ne) ∙ is)

    words_alike : (word : ℕ) → IsInCopy posted_phase p m x (store_slot slot w c) word → IsCopiedWord tree m (store_slot slot w c) (store_slot slot w' d) word
    words_alike zero is = were.words 0 (was_in_copy x c (store_slot slot w c) 0 refl is)
    words_alike (suc j) is =
        copy_step_at j (λ ne. were.words (suc j) (was_in_copy x c (store_slot slot w c) (suc j) (ap (λ (o : Option ℕ). unwrap_or o 0 == p.attempt.word) (set_other c.slots slot j w ne)) is))

    -- the copies are alike
    pub slots_alike : AreCopies tree posted_phase p m x (store_slot slot w c) (store_slot slot w' d)
    slots_alike = copies_by (store_slot slot w) (store_slot slot w') (slot_keeps_tags slot w) (slot_keeps_tags slot w') x c d were words_alike

  -- one monitor in both
  pub monitors_alike : (monitor : Monitor) (x : Addr) (c d : Cell) → AreCopies tree posted_phase p m x c d → AreCopies tree posted_phase p m x (store_monitor monitor c) (store_monitor monitor d)
  monitors_alike monitor x c d were = copies_by (store_monitor monitor) (store_monitor monitor) (monitor_keeps_tags monitor) (monitor_keeps_tags monitor) x c d were each
    where
      each : (word : ℕ) → IsInCopy posted_phase p m x (store_monitor monitor c) word → IsCopiedWord tree m (store_monitor monitor c) (store_monitor monitor d) word
      each zero is = refl
      each (suc j) is = were.words (suc j) (was_in_copy x c (store_monitor monitor c) (suc j) refl is)
