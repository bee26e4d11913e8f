-- What a cycle keeps has a name after each event of the collector and each acknowledgement, where it has one before.
use Rattle.std.proofs.Common.{◌≡◌, ◌⊎◌, ◌+◌, ◌-◌, ◌==◌, ℕ, Bool, true, false, if◌then◌else◌, List, [], ◌∷◌, Option, Some, None, is_some, slice_get, refl, inl, inr, sym, ap, ◌∙◌, subst}
use Rattle.std.specs.Prelude.{◌||◌, nat_lt, length, unwrap_or, All}
use Rattle.std.specs.List.{AllByRecursion}
use Rattle.std.specs.Option.{option_map_or}
use Rattle.std.proofs.lemmas.Bool.{or_cases, or_left, or_right}
use Rattle.std.proofs.lemmas.List.Elements.{All-head}
use Rattle.std.proofs.lemmas.Option.{same_Some}
use Rattle.interpreter.specs.cil_model.declared.phases.Phase.{Phase}
use Rattle.interpreter.specs.cil_model.declared.phases.Phase.TheVariants.{Allocate, Copy, PreFlip, Reclaim}
use Rattle.interpreter.specs.cil_model.declared.reports.End.{End}
use Rattle.interpreter.specs.cil_model.declared.reports.Report.{Report}
use Rattle.interpreter.specs.cil_model.declared.reports.Report.TheVariants.{Waiting}
use Rattle.interpreter.specs.cil_model.declared.trees.Tree.{Tree}
use Rattle.interpreter.specs.cil_model.Fields.{FieldKey}
use Rattle.interpreter.specs.cil_model.Legality.{IsLegal}
use Rattle.interpreter.proofs.cil_model.Lists.{none_is_some}
use Rattle.interpreter.specs.reference_machine.Values.{Born, Literal, ObjectName, Value as StateValue}
use Rattle.interpreter.specs.reference_machine.States.{Frame as StateFrame, State}
use Rattle.interpreter.specs.object_memory.declared.addresses.Addr.{Addr}
use Rattle.interpreter.specs.object_memory.declared.values.Value.{Value}
use Rattle.interpreter.specs.object_memory.declared.values.Value.TheVariants.{Ref}
use Rattle.interpreter.specs.object_memory.Cells.{Cell, cell_in, literal_number, size, store_copies}
use Rattle.interpreter.specs.object_memory.Objects.{Objects}
use Rattle.interpreter.specs.object_memory.Spaces.{AreSpaces, Spaces, clear, found_in, is_noted, other_of}
use Rattle.interpreter.proofs.object_memory.TwoSpaces.TwoBlocks.{after_in, apart, no_literal, old_is_cell}
use Rattle.interpreter.specs.instructions.barriers.Barriers.{with_marked}
use Rattle.interpreter.specs.threads_monitors.Roots.{roots}
use Rattle.interpreter.specs.threads_monitors.declared.threads.ThreadStatus.{ThreadStatus}
use Rattle.interpreter.specs.threads_monitors.declared.threads.ThreadStatus.TheVariants.{Ended, Live}
use Rattle.interpreter.specs.threads_monitors.declared.threads.Thread.{Thread}
use Rattle.reference_machine.specs.TypedStates.{IsTyped}
use Rattle.collector.specs.phase_handshake.Handshakes.{Handshakes}
use Rattle.collector.specs.CopySteps.{address_after_cell, next_copy_step, next_shell_step}
use Rattle.collector.specs.Flips.{clear_step_at}
use Rattle.collector.specs.MarkSteps.{mark_step, object_scanned, oldest_cell, slot_scanned, with_all_marked, without_oldest, word_of}
use Rattle.collector.specs.Phases.{is_live, is_marked_cell, is_marked_old, is_new}
use Rattle.collector.specs.References.{Test, ValuePasses, holds_reference, is_permanent, reference_in}
use Rattle.collector.specs.Soundness.{IsSoundHeap}
use Rattle.collector.specs.declared.progress.Progress.{Progress}
use Rattle.collector.proofs.Copies.UnchangedReads.{copied_forward, copied_old, copied_was_new, looked_was_new, looked_was_old}
use Rattle.collector.proofs.Marks.MarkChanges.{AreDarker}
use Rattle.collector.proofs.ThreadReferences.LiveValues.{reference_again}
use Rattle.collector.proofs.Marks.MarkedHeaps.{AreDarker-with_all_marked}
use Rattle.collector.proofs.Copies.AllocateWork.{looked_sound}
use Rattle.collector.proofs.Addresses.Tests.{mark_is, marked_cell, never, new_cell, new_is, none_is_new, permanent_not_old}
use Rattle.simulation.specs.Agreement.{Agree}
use Rattle.simulation.specs.CollectorSteps.{collect, next_posted, with_acknowledgement}
use Rattle.simulation.specs.MachineStates.{MachineState}
use Rattle.simulation.specs.Sound.{IsSound}
use Rattle.simulation.specs.Refines.{IsHeap, IsThread, IsValue, Names, StatusRefines, RefinesUnder}
use Rattle.simulation.proofs.CollectorEvents.AcknowledgementCases.{after_acknowledgement, posts_after}
use Rattle.simulation.proofs.ListLaws.AgreeingLists.{agree_at}
use Rattle.simulation.proofs.CollectedHeap.RewrittenCells.{IsNamedWord, contents_named}
use Rattle.simulation.proofs.RetainedWords.CycleNames.{AreCopiesOfMarked, IsCopyOfMarked, IsNamed, copies_darker, is_kept, kept_darker, kept_is_live, value_mark_adds}
use Rattle.simulation.proofs.Representation.NormalNames.{IsNormal, other_cell}
use Rattle.simulation.proofs.Memory.ReferenceSlots.{typed_is_linked}
use Rattle.simulation.proofs.Representation.RootReferences.{roots_pass, each_of_agree, value_passes}
use Rattle.simulation.proofs.CollectorEvents.RootMarks.{status_values, thread_marked, thread_values}
use Rattle.simulation.proofs.CollectorEvents.EventCases.{IsWork, allocates_copy, by_cases, clears_object, copies_word, ends_allocation, ends_copying, ends_cycle, ends_marking, marks_object, opens_cycle, posting, scans_statics, marked}
use Rattle.simulation.proofs.Representation.FrameReferences.{all_referenced}

-- What is kept has a name; and while objects get their copies, each new one is the copy of a marked one.
pub record HasNames (name : Names) (c : MachineState) : Type 0 where
  pub kept : (a : Addr) → is_kept c.posts.posted_phase c.objects.spaces a ≡ true → IsNamed name a
  pub copies : AreCopiesOfMarked c.posts.posted_phase c.objects.spaces

-- normal names that what is live keeps
pub record Renames (name : Names) (c : MachineState) (names : Names) : Type 0 where
  pub live : (a : ℕ) (n : ObjectName) → is_live c.posts.posted_phase c.objects.spaces (record { number = a }) ≡ true → name a ≡ Some n → names a ≡ Some n
  pub normal : IsNormal c.posts.posted_phase c.objects.spaces names

-- what is kept keeps its name
pub renamed : (name : Names) (c : MachineState) (names : Names) → Renames name c names → HasNames name c → HasNames names c
renamed name c names renames has = record {
  kept = λ a kept. let n = has.kept a kept in (n.0, renames.live a.number n.0 (kept_is_live c.posts.posted_phase c.objects.spaces a kept) n.1);
  copies = has.copies;
}

-- ---- null, or what has a name

module _ (name : Names) where
  abbrev is_null_or_named : Test
  is_null_or_named a = (a.number == 0) || is_some (name a.number)

  is_named : (a : ℕ) (n : ObjectName) → name a ≡ Some n → is_null_or_named (record { number = a }) ≡ true
  is_named a n is = or_right (a == 0) (is_some (name a)) (ap is_some is)

  entries_are : (vs : List Value) (es : List (FieldKey × StateValue)) → Agree (λ v (e : FieldKey × StateValue). IsValue name v e.1) vs es → AllByRecursion (ValuePasses is_null_or_named) vs
  entries_are = each_of_agree (ValuePasses is_null_or_named) (λ v (e : FieldKey × StateValue). IsValue name v e.1) (λ v e. value_passes name is_null_or_named refl is_named v e.1)

  -- an object that is there isn't null
  old_is_named : (m : Spaces) → AreSpaces m → (a : Addr) (c : Cell) → cell_in m.old a ≡ Some c → is_null_or_named a ≡ true → IsNamed name a
  old_is_named m spaces a c lies h = elim (or_cases (a.number == 0) (is_some (name a.number)) h) [
    | inl null ↦ none_is_some c (sym (permanent_not_old m spaces a (or_left (a.number == 0) (is_some (literal_number a)) null)) ∙ lies)
    | inr some ↦ by_name (name a.number) refl some
  ]
    where
      by_name : (o : Option ObjectName) → name a.number ≡ o → is_some o ≡ true → IsNamed name a
      by_name None is e = never e
      by_name (Some n) is e = (n, is)

  marked_is_named : (m : Spaces) → AreSpaces m → (a : Addr) → is_marked_old m a ≡ true → is_null_or_named a ≡ true → IsNamed name a
  marked_is_named m spaces a h is = let c = marked_cell m a h in old_is_named m spaces a c.0 c.1 is

  -- marks of such values are of what has a name
  all_adds : (vs : List Value) (o : Objects) → AllByRecursion (ValuePasses is_null_or_named) vs → (a : Addr) → is_marked_old (with_all_marked o vs).spaces a ≡ true → (is_marked_old o.spaces a ≡ true) ⊎ (is_null_or_named a ≡ true)
  all_adds [] o each a h = inl h
  all_adds (v ∷ vs) o each a h = elim (all_adds vs (with_marked o v) each.1 a h) [
    | inl before ↦ elim (value_mark_adds o v a before) [ inl was ↦ inl was | inr here ↦ inr (subst (ValuePasses is_null_or_named) here.0 each.0) ]
    | inr is ↦ inr is
  ]

  all_named : (vs : List Value) (o : Objects) → AreSpaces o.spaces → AllByRecursion (ValuePasses is_null_or_named) vs → ((a : Addr) → is_marked_old o.spaces a ≡ true → IsNamed name a) →
      (a : Addr) → is_marked_old (with_all_marked o vs).spaces a ≡ true → IsNamed name a
  all_named vs o spaces each kept a h = elim (all_adds vs o each a h) [
    | inl was ↦ kept a was
    | inr is ↦ marked_is_named (with_all_marked o vs).spaces ((AreDarker-with_all_marked vs o spaces).spaces spaces) a h is
  ]

-- ---- a slot is scanned

module _ (tree : Tree) (legal : IsLegal tree) (s : State) (typed : IsTyped tree s) (name : Names) (o : Objects) (spaces : AreSpaces o.spaces) (heap : IsHeap tree name o s) (kept : (a : Addr) → is_marked_old o.spaces a ≡ true → IsNamed name a) where
  -- the slots of a named object refer to null, or to what has a name
  words_named : (g : Addr) (c : Cell) (n : ObjectName) → cell_in o.spaces.old g ≡ Some c → name g.number ≡ Some n → (slot w : ℕ) → slice_get c.slots slot ≡ Some w → holds_reference tree c.kind slot ≡ true → IsNamedWord name w
  words_named g c (Born n) lies is slot w there holds =
      let b = heap.born g.number n is in
      let same : b.cell ≡ c = same_Some b.cell c (sym b.lies ∙ old_is_cell o.spaces g c lies) in
      let linked = typed_is_linked tree legal s name b.cell.kind b.cell.slots b.object.contents b.object.thread (typed.objects n b.object b.is) b.refines.contents in
      contents_named tree name b.cell.kind b.cell.slots b.object.contents b.object.thread linked b.refines.contents slot w
      (ap (λ (x : Cell). slice_get x.slots slot) same ∙ there) (ap (λ (x : Cell). holds_reference tree x.kind slot) same ∙ holds)
  words_named g c (Literal characters) lies is slot w there holds =
      let l = heap.literals g.number characters is in none_is_some l.number (sym (no_literal o.spaces spaces g c (old_is_cell o.spaces g c lies)) ∙ l.has_id)

  word_is : (w : ℕ) → IsNamedWord name w → is_null_or_named name (reference_in w) ≡ true
  word_is w (inl zero) = ap (λ x. is_null_or_named name (reference_in x)) zero
  word_is w (inr n) = subst (λ (a : Addr). is_null_or_named name a ≡ true) (sym (reference_again (record { number = w }) (heap.small w n.0 n.1))) (is_named name w n.0 n.1)

  reference_is : (g : Addr) (c : Cell) (n : ObjectName) → cell_in o.spaces.old g ≡ Some c → name g.number ≡ Some n → (slot : ℕ) → holds_reference tree c.kind slot ≡ true → is_null_or_named name (reference_in (word_of c slot)) ≡ true
  reference_is g c n lies is slot holds = by_word (slice_get c.slots slot) refl
    where
      by_word : (x : Option ℕ) → slice_get c.slots slot ≡ x → is_null_or_named name (reference_in (unwrap_or x 0)) ≡ true
      by_word None there = refl
      by_word (Some w) there = word_is w (words_named g c n lies is slot w there holds)

  slot_named : (g : Addr) (c : Cell) (n : ObjectName) → cell_in o.spaces.old g ≡ Some c → name g.number ≡ Some n → (slot : ℕ) → (a : Addr) → is_marked_old (slot_scanned tree o c slot).spaces a ≡ true → IsNamed name a
  slot_named g c n lies is slot a h = by_holds (holds_reference tree c.kind slot) refl h
    where
      v : Value
      v = Ref (reference_in (word_of c slot))

      by_holds : (t : Bool) → holds_reference tree c.kind slot ≡ t → is_marked_old (if t then with_marked o (Ref (reference_in (word_of c slot))) else o).spaces a ≡ true → IsNamed name a
      by_holds false holds k = kept a k
      by_holds true holds k = all_named name (Ref (reference_in (word_of c slot)) ∷ []) o spaces (reference_is g c n lies is slot holds, tt) kept a k

  scanned_named : (p : Progress) (g : Addr) (rest : List Addr) (c : Cell) (n : ObjectName) → cell_in o.spaces.old g ≡ Some c → name g.number ≡ Some n → (a : Addr) → is_marked_old (object_scanned tree p o rest c).1.spaces a ≡ true → IsNamed name a
  scanned_named p g rest c n lies is a h = by_left (nat_lt p.scanned_slots (length c.slots)) h
    where
      by_left : (t : Bool) → is_marked_old (if◌then◌else◌ {A = Progress × Objects} t (record p { scanned_slots = p.scanned_slots + 1 }, slot_scanned tree o c p.scanned_slots) (record p { scanned_slots = 0 }, without_oldest o rest)).1.spaces a ≡ true → IsNamed name a
      by_left true k = slot_named g c n lies is p.scanned_slots a k
      by_left false k = kept a k

  -- so is what is marked after a step of Mark
  step_named : (p : Progress) (grey : List Addr) → All (λ a. is_marked_old o.spaces a ≡ true) grey → (x : Option Cell) → oldest_cell o grey ≡ x → (a : Addr) → is_marked_old (mark_step tree p o grey x).1.spaces a ≡ true → IsNamed name a
  step_named p (g ∷ rest) listed (Some c) is a h =
      let n = kept g (All-head (λ (b : Addr). is_marked_old o.spaces b ≡ true) g rest listed) in
      scanned_named p g rest c n.0 is n.1 a h
  step_named p _ listed _ is a h = kept a h

-- ---- copies

module _ (m : Spaces) (spaces : AreSpaces m) (y : Addr) (new : is_new m y ≡ true) where
  -- the copy is the other one of its object
  copy_other : (x : IsCopyOfMarked m y) → other_of (cell_in m.old x.old) ≡ Some y
  copy_other x = by_other (other_of (cell_in m.old x.old)) refl
    where
      by_other : (o : Option Addr) → other_of (cell_in m.old x.old) ≡ o → o ≡ Some y
      by_other None is =
          let same : x.old ≡ y = sym (ap (λ (o : Option Addr). unwrap_or o x.old) is) ∙ x.copy in
          let c = marked_cell m x.old x.marked in
          let d = new_cell m y new in
          absurd (apart m spaces x.old y c.0 d.0 c.1 d.1 (ap (λ (a : Addr). a.number) same))
      by_other (Some z) is = ap Some (sym (ap (λ (o : Option Addr). unwrap_or o x.old) is) ∙ x.copy)

module _ (tree : Tree) (posted_phase : Phase) (has_round : Bool) (words : ℕ) (p : Progress) (m : Spaces) (sound : IsSoundHeap tree posted_phase has_round words p m) (y : Addr) (d : Cell) (lies : cell_in m.new y ≡ Some d) where
  -- it identifies the one that it is a copy of
  copy_back : (posted_phase ≡ Reclaim → ⊥) → (x : IsCopyOfMarked m y) → d.other ≡ Some x.old
  copy_back early x =
      let out = copy_other m sound.blocks.spaces y (new_is m y d lies) x in
      let c = other_cell (cell_in m.old x.old) y out in
      let e = sound.copies.out x.old y c.0 c.1 c.2 in
      ap (λ (z : Cell). z.other) (same_Some d e.0 (sym lies ∙ e.1)) ∙ e.2.back (inl early)

  -- and what identifies another one is a copy
  back_copy : (x : Addr) → d.other ≡ Some x → IsCopyOfMarked m y
  back_copy x other =
      let c = sound.copies.back x y d lies other in
      record {
        old = x;
        marked = mark_is m x c.0 c.1 ∙ sound.copies.marked_only x c.0 c.1 (λ none. none_is_some y (sym none ∙ c.2));
        copy = ap (λ (o : Option Addr). unwrap_or o x) (ap other_of c.1 ∙ c.2);
      }

-- ---- each phase

module _ (c : MachineState) (s : State) (legal : IsLegal c.tree) (typed : IsTyped c.tree s) (name names : Names) (refines : RefinesUnder name c s) where
  -- what is kept after a transition has a name, under names that are normal then
  abbrev Then : MachineState × Report → Type 0
  Then x = Renames name x.0 names → HasNames names x.0

  -- it is so where it had a name
  by_old : (x : MachineState × Report) → ((a : Addr) → is_kept x.0.posts.posted_phase x.0.objects.spaces a ≡ true → IsNamed name a) → AreCopiesOfMarked x.0.posts.posted_phase x.0.objects.spaces → Then x
  by_old x kept copies renames = renamed name x.0 names renames (record { kept = kept; copies = copies })

  -- ---- Allocate

  module _ (sound : IsSound (posting Allocate c)) (has : HasNames name (posting Allocate c)) where
    abbrev looked : Progress × Objects × Bool
    looked = next_shell_step c.progress c.objects

    looked_kept : (a : Addr) → is_marked_old looked.1.spaces a ≡ true → IsNamed name a
    looked_kept a h =
        let d = marked_cell looked.1.spaces a h in
        let was = looked_was_old c.progress c.objects a d.0 d.1 in
        has.kept a (mark_is c.objects.spaces a was.0 was.1 ∙ (sym was.2.marked ∙ d.2))

    looked_copies : (y : Addr) → is_new looked.1.spaces y ≡ true → IsCopyOfMarked looked.1.spaces y
    looked_copies y new =
        let d = new_cell looked.1.spaces y new in
        let after = looked_sound c.tree c.posts.has_round c.limits.max_words c.progress c.objects sound.heap in
        elim (looked_was_new c.progress c.objects c.tree c.posts.has_round c.limits.max_words sound.heap y d.0 d.1) [
          | inl was ↦
              (let x = has.copies refl y (new_is c.objects.spaces y d.0 was) in
              back_copy c.tree Allocate c.posts.has_round c.limits.max_words looked.0 looked.1.spaces after y d.0 d.1 x.old
              (copy_back c.tree Allocate c.posts.has_round c.limits.max_words c.progress c.objects.spaces sound.heap y d.0 was (λ e. absurd cc) x))
          | inr h ↦ back_copy c.tree Allocate c.posts.has_round c.limits.max_words looked.0 looked.1.spaces after y d.0 d.1 (address_after_cell c.objects.spaces.old c.progress.cursor) (ap (λ (z : Cell). z.other) h.5)
        ]

  -- ---- Copy

  module _ (sound : IsSound (posting Copy c)) (has : HasNames name (posting Copy c)) where
    abbrev filled : Progress × Objects × Bool
    filled = next_copy_step c.tree c.progress c.objects

    marks_same : (a : Addr) → is_marked_old filled.1.spaces a ≡ is_marked_old c.objects.spaces a
    marks_same a = ap (λ b. is_marked_cell (cell_in b a)) (copied_old c.tree c.progress c.objects c.posts.has_round c.limits.max_words sound.heap)

    filled_copies : (y : Addr) → is_new filled.1.spaces y ≡ true → IsCopyOfMarked filled.1.spaces y
    filled_copies y new =
        let e = new_cell filled.1.spaces y new in
        let was = copied_was_new c.tree c.progress c.objects y e.0 e.1 in
        let x = has.copies refl y (new_is c.objects.spaces y was.0 was.1) in
        record { old = x.old; marked = marks_same x.old ∙ x.marked; copy = copied_forward c.tree c.progress c.objects c.posts.has_round c.limits.max_words sound.heap x.old ∙ x.copy }

    -- once PreFlip is posted each copy has the name of its object
    posts_then : Then (next_posted (posting Copy c))
    posts_then renames = record { kept = named_then; copies = λ copying. never copying }
      where
        named_then : (y : Addr) → is_new c.objects.spaces y ≡ true → IsNamed names y
        named_then y new =
            let x = has.copies refl y new in
            let n = has.kept x.old x.marked in
            let live : is_live PreFlip c.objects.spaces x.old ≡ true = or_right (is_permanent x.old) (is_marked_old c.objects.spaces x.old || is_new c.objects.spaces x.old) (or_left (is_marked_old c.objects.spaces x.old) (is_new c.objects.spaces x.old) x.marked) in (
              n.0,
              renames.normal.filled x.old.number y.number n.0 (renames.live x.old.number n.0 live n.1) (copy_other c.objects.spaces sound.heap.blocks.spaces y new x) (kept_is_live PreFlip c.objects.spaces y new),
            )

  -- ---- Reclaim

  -- a cleared object was there before
  cleared_new : (x : Option ℕ) (a : Addr) → is_new (clear_step_at c.progress c.objects x).1.spaces a ≡ true → is_new c.objects.spaces a ≡ true
  cleared_new None a h = h
  cleared_new (Some at) a h = by_cell (cell_in c.objects.spaces.new (record { number = at })) h
    where
      by_cell : (o : Option Cell) →
          is_new (option_map_or {U = Progress × Objects × Bool} (λ (d : Cell). (record c.progress { cursor = at - c.objects.spaces.new.start + size d }, record c.objects { spaces = clear c.objects.spaces (record { number = at }) }, true)) o (c.progress, c.objects, false)).1.spaces a ≡ true →
          is_new c.objects.spaces a ≡ true
      by_cell None k = k
      by_cell (Some d) k =
          let e = new_cell (clear c.objects.spaces (record { number = at })) a k in
          let was = after_in (store_copies false None) (λ z. refl) c.objects.spaces.new (record { number = at }) a e.0 e.1 in
          new_is c.objects.spaces a was.0 was.1

  -- ---- all

  work_then : (x : Phase) (after : MachineState × Report) → IsWork c x after → IsSound (posting x c) → HasNames name (posting x c) → Then after
  work_then _ after opens_cycle sound has = by_old after (λ a h. (let d = marked_cell c.objects.spaces a h in never (sym (sound.heap.copies.unmarked a d.0 d.1 refl) ∙ d.2))) (λ copying. never copying)
  work_then _ after (scans_statics early) sound has =
      by_old after (all_named name c.statics c.objects sound.heap.blocks.spaces (entries_are name c.statics s.statics refines.memory.static_values) has.kept) (λ copying. never copying)
  work_then _ after (marks_object scanned step) sound has =
      by_old after (step_named c.tree legal s typed name c.objects sound.heap.blocks.spaces refines.memory.heap has.kept c.progress c.objects.spaces.grey (sound.heap.marks refl).listed (oldest_cell c.objects c.objects.spaces.grey) refl) (λ copying. never copying)
  work_then _ after (ends_marking scanned over closed) sound has =
      by_old after has.kept (λ copying y new. (let d = new_cell c.objects.spaces y new in none_is_some d.0 (sym (none_is_new c.objects.spaces y (sound.heap.blocks.none_new refl)) ∙ d.1)))
  work_then _ after (allocates_copy step) sound has = by_old after (looked_kept sound has) (λ copying. looked_copies sound has)
  work_then _ after (ends_allocation over) sound has = by_old after has.kept (λ copying. has.copies refl)
  work_then _ after (copies_word step) sound has = by_old after (λ a h. has.kept a (sym (marks_same sound has a) ∙ h)) (λ copying. filled_copies sound has)
  work_then _ after (ends_copying over) sound has = posts_then sound has
  work_then _ after (clears_object step) sound has = by_old after (λ a h. has.kept a (cleared_new (found_in is_noted c.objects.spaces.new (c.objects.spaces.new.start + c.progress.cursor)) a h)) (λ copying. never copying)
  work_then _ after (ends_cycle over) sound has = by_old after (λ a h. never h) (λ copying. never copying)
  work_then _ after _ sound has = by_old after has.kept (λ copying. never copying)

  -- after an event of the collector what is kept has a name
  pub collected_has : IsSound c → HasNames name c → Renames name (collect c).0 names → HasNames names (collect c).0
  collected_has sound has = by_cases c Then (λ seen after is. work_then c.posts.posted_phase after is sound has) (λ late. by_old (c, Waiting) has.kept has.copies)

-- ---- acknowledgements

module _ (c : MachineState) (s : State) (name : Names) (refines : RefinesUnder name c s) (spaces : AreSpaces c.objects.spaces) (has : HasNames name c) (t : ℕ) where
  -- a thread refers to null, or to what has a name
  status_is : (x : ThreadStatus) (gs : List StateFrame) (e : Option End) → StatusRefines c.tree c.limits name x gs e → AllByRecursion (ValuePasses (is_null_or_named name)) (status_values x)
  status_is (Live m) gs None h = all_referenced (is_null_or_named name) (roots m) (roots_pass name (is_null_or_named name) refl (is_named name) c.tree m gs h.frames)
  status_is (Ended x) gs e h = tt
  status_is (Live m) gs (Some e) h = elim h [ ]

  thread_is : (x : Option Thread) → slice_get c.threads t ≡ x → AllByRecursion (ValuePasses (is_null_or_named name)) (thread_values x)
  thread_is None is = tt
  thread_is (Some x) is = let u = agree_at (IsThread c.tree c.limits name) c.threads s.threads refines.threads t x is in status_is x.thread_status u.0.frames u.0.ended u.2.thread_status

  abbrev vs : List Value
  vs = thread_values (slice_get c.threads t)

  abbrev after : Objects
  after = with_all_marked c.objects vs

  darker : AreDarker c.objects.spaces after.spaces
  darker = AreDarker-with_all_marked vs c.objects spaces

  kept_then : (a : Addr) → is_kept c.posts.posted_phase after.spaces a ≡ true → IsNamed name a
  kept_then a h = elim (kept_darker c.objects.spaces after.spaces darker c.posts.posted_phase a h) [
    | inl was ↦ has.kept a was
    | inr new ↦ elim (all_adds name vs c.objects (thread_is (slice_get c.threads t) refl) a new.0) [
      | inl was ↦ has.kept a (new.1 was)
      | inr is ↦ marked_is_named name after.spaces (darker.spaces spaces) a new.0 is
    ]
  ]

  marked_has : (posts : Handshakes) → posts.posted_phase ≡ c.posts.posted_phase → HasNames name (record c { posts = posts; objects = with_all_marked c.objects (thread_values (slice_get c.threads t)) })
  marked_has posts same = record {
    kept = λ a h. kept_then a (subst (λ x. is_kept x after.spaces a ≡ true) same h);
    copies = subst (λ x. AreCopiesOfMarked x after.spaces) (sym same) (copies_darker c.objects.spaces after.spaces darker c.posts.posted_phase has.copies);
  }

  -- what is kept has a name after an acknowledgement
  pub acknowledged_has : HasNames name (with_acknowledgement c t).0
  acknowledged_has = after_acknowledgement c t (HasNames name) (record {
    nothing = has;
    marks = λ seat here opened seen marking. subst (λ (o : Objects). HasNames name (record c { posts = posts_after c t seat; objects = o })) (sym (thread_marked c.objects (slice_get c.threads t))) (marked_has (posts_after c t seat) refl);
    answers = λ seat here opened seen other. record { kept = has.kept; copies = has.copies };
    continues = λ seat here opened late later. record { kept = has.kept; copies = has.copies };
    flips = λ seat here opened late flip. record { kept = has.kept; copies = has.copies };
  })
