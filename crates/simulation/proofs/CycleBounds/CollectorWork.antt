-- Each working event of the collector leaves one less at least of those that its cycle may still have.
use Rattle.std.proofs.Common.{◌≡◌, ◌≢◌, inl, ◌+◌, ◌-◌, ◌<◌, ◌≤◌, ℕ, zero, suc, max, Bool, true, false, not, ◌&&◌, if◌then◌else◌, List, [], ◌∷◌, length, Option, Some, None, slice_get, refl, sym, ap, ◌∙◌, subst, arith}
use Rattle.std.specs.Prelude.{is_some, nat_lt}
use Rattle.std.specs.Option.{option_map_or}
use Rattle.std.proofs.lemmas.Bool.Decides.{nat_tests}
use Rattle.std.proofs.lemmas.Option.{same_Some, slice_get_within}
use Rattle.std.proofs.Math.Nat.{le-max_left, le-max_right, max-le}
use Rattle.interpreter.specs.cil_model.declared.events.Event.TheVariants.{Gc}
use Rattle.interpreter.specs.cil_model.declared.phases.Phase.{Phase}
use Rattle.interpreter.specs.cil_model.declared.phases.Phase.TheVariants.{Idle, Mark, Allocate, Copy, PreFlip, HeapFlip, ThreadFlip, Reclaim}
use Rattle.interpreter.specs.cil_model.declared.reports.Report.{Report}
use Rattle.interpreter.specs.cil_model.declared.reports.Report.TheVariants.{CycleDone, Waiting, Worked}
use Rattle.interpreter.specs.object_memory.declared.addresses.Addr.{Addr}
use Rattle.interpreter.specs.object_memory.declared.values.Value.{Value}
use Rattle.interpreter.specs.object_memory.declared.values.Value.TheVariants.{Ref}
use Rattle.interpreter.specs.object_memory.Cells.{Cell, address_after_cell, cell_in, size, used_words}
use Rattle.interpreter.specs.object_memory.Objects.{Objects}
use Rattle.interpreter.specs.object_memory.Spaces.{Spaces, clear, found_in, has_other, is_noted, open_cycle, with_shell}
use Rattle.interpreter.specs.instructions.barriers.Barriers.{with_marked}
use Rattle.interpreter.proofs.object_memory.Blocks.{range_in}
use Rattle.interpreter.proofs.object_memory.Offsets.{found_here}
use Rattle.collector.specs.References.{holds_reference, reference_in}
use Rattle.collector.specs.MarkSteps.{is_closed, is_none_grey, mark_step, object_scanned, oldest_cell, slot_scanned, statics_scanned, with_all_marked, without_oldest, word_of}
use Rattle.collector.specs.Attempts.{has_loaded, most_spent, no_attempt, attempt_cost, stage_number, with_loaded}
use Rattle.collector.specs.CopySteps.{before_word, after_word, copy_step_at, needs_copy, object_copied, shell_step, word_step, word_stored}
use Rattle.collector.specs.Flips.{clear_step_at, flip_step}
use Rattle.collector.specs.declared.progress.Attempt.{Attempt}
use Rattle.collector.specs.declared.progress.Progress.{Progress}
use Rattle.collector.specs.declared.progress.Stage.{Stage}
use Rattle.collector.specs.declared.progress.Stage.TheVariants.{Begins, Loaded, Stored}
use Rattle.collector.specs.declared.progress.TheConstants.{MOST_FAILED_CHECKS}
use Rattle.collector.specs.phase_handshake.Handshakes.{all_answered}
use Rattle.collector.proofs.Copies.CopyWork.{IsStep, copied_cases, none_stored, one_stored}
use Rattle.collector.proofs.Copies.CopiedWords.{loaded_checks, loaded_stage}
use Rattle.collector.proofs.BlockWalks.FirstCells.{found_is}
use Rattle.simulation.specs.CollectorSteps.{cycle_ended, collect, cycle_opened, next_posted, initial_words, round_posted, work}
use Rattle.simulation.specs.MachineStates.{MachineState}
use Rattle.simulation.specs.Sound.{IsSound}
use Rattle.simulation.proofs.CycleBounds.MarkingWork.{AreGreyThere, LeavesNoMore, black_lessens, leaves_itself, most_left, round_left, slot_lessens}
use Rattle.simulation.proofs.CycleBounds.MarkingByThreads.{all_marks_stay, value_mark_leaves}
use Rattle.simulation.proofs.CollectorEvents.NextBlockSize.{next_grows}
use Rattle.simulation.proofs.CollectedHeap.UsedWords.{AreAsLarge, all_marked_uses, as_large, marked_uses}
use Rattle.simulation.proofs.CycleBounds.WorkLeft.{TakesWork, grey_there, larger, larger_same, static_count, statics_left, takes_nothing, work_left}
use Rattle.simulation.proofs.CollectorEvents.EventCases.{IsWork, allocates_copy, by_cases, clears_object, copies_word, ends_allocation, ends_copying, ends_cycle, ends_heap_flip, ends_marking, flips_static, marks_object, opens_cycle, posting, posts_heap_flip, posts_reclaim, posts_round, scans_statics, waits_for_round, allocated, copied, marked, with_flips, with_scan, with_work}
use Rattle.std.proofs.lemmas.Bool.{not-false}
use Rattle.collector.proofs.Marks.MarkWork.{next_mark_step-works}

-- an event that waits takes nothing
waits : (c : MachineState) → TakesWork c Gc (c, Waiting)
waits c = takes_nothing c Gc c Waiting refl refl (λ is. is) (omega arith) (record { old = refl; new = refl })

-- one that works in a cycle and leaves less, and continues the cycle
works : (c d : MachineState) → c.posts.posted_phase ≢ Idle → d.posts.posted_phase ≢ Idle → AreAsLarge c.objects.spaces d.objects.spaces → 1 + work_left d ≤ work_left c → TakesWork c Gc (d, Worked)
works c d going continues large less = record {
  less = λ is. less;
  anew = λ is. absurd (going is);
  between = λ is. absurd (continues is);
  ended = λ e. absurd cc;
  larger_stays = larger_same c.objects.spaces d.objects.spaces large;
}

-- nothing is larger or smaller than itself
itself_large : (m : Spaces) → AreAsLarge m m
itself_large m = record { old = refl; new = refl }

-- ---- Idle

-- a cycle opens
initial_takes : (c : MachineState) → IsSound (posting Idle c) → TakesWork (posting Idle c) Gc (work Idle (posting Idle c))
initial_takes c sound = record {
  less = λ going. absurd (going refl);
  anew = λ is. (
      let fits = sound.heap.blocks.spaces.old.fits in
      let most = most_left (open_cycle c.objects.spaces (initial_words c)) fits refl false 0 in
      let right = le-max_right c.objects.spaces.old.words (initial_words c) in
      omega (arith, grows, most, right));
  between = λ is. absurd cc;
  ended = λ e. absurd cc;
  larger_stays = (
      let none : c.objects.spaces.new.words ≡ 0 = (let few = sound.heap.blocks.new_words in omega (arith, few)) in
      let left = le-max_left c.objects.spaces.old.words (initial_words c) in
      max-le {a = c.objects.spaces.old.words} {b = c.objects.spaces.new.words} {k = larger (cycle_opened (posting Idle c)).objects.spaces} left (omega (arith, none)));
}
  where
    grows : c.objects.spaces.old.words ≤ initial_words c
    grows = next_grows c.objects.spaces.old.words (used_words c.objects.spaces.old.cells) c.limits.max_words sound.heap.blocks.old_words

-- ---- Mark

module _ (c : MachineState) (sound : IsSound (posting Mark c)) where
  abbrev marking : MachineState
  marking = posting Mark c

  there : AreGreyThere c.objects.spaces
  there = grey_there marking sound refl

  scan_large : AreAsLarge c.objects.spaces (with_all_marked c.objects c.statics).spaces
  scan_large = as_large c.objects.spaces (with_all_marked c.objects c.statics).spaces (all_marked_uses c.statics c.objects)

  -- the static fields are scanned
  scan_takes : c.progress.scanned_statics ≡ false →
      1 + work_left (record marking { progress = (statics_scanned c.progress c.objects c.statics).0; objects = (statics_scanned c.progress c.objects c.statics).1 }) ≤ work_left marking
  scan_takes early =
      let one : statics_left c.progress.scanned_statics ≡ 1 = ap statics_left early in
      let less = (all_marks_stay c.statics c.objects).less there c.posts.has_round c.progress.scanned_slots in
      omega (arith, one, less, scan_large.new)

  -- a slot of a grey object is scanned, or all of them are
  module _ (g : Addr) (rest : List Addr) (cell : Cell) (grey : c.objects.spaces.grey ≡ g ∷ rest) (lies : cell_in c.objects.spaces.old g ≡ Some cell) where
    slot_leaves : (slot : ℕ) → LeavesNoMore c.objects.spaces (slot_scanned c.tree c.objects cell slot).spaces
    slot_leaves slot = by_kind (holds_reference c.tree cell.kind slot)
      where
        by_kind : (b : Bool) → LeavesNoMore c.objects.spaces (if◌then◌else◌ {A = Objects} b (with_marked c.objects (Ref (reference_in (word_of cell slot)))) c.objects).spaces
        by_kind true = value_mark_leaves c.objects (Ref (reference_in (word_of cell slot)))
        by_kind false = leaves_itself c.objects.spaces

    slot_large : (slot : ℕ) → AreAsLarge c.objects.spaces (slot_scanned c.tree c.objects cell slot).spaces
    slot_large slot = by_kind (holds_reference c.tree cell.kind slot)
      where
        by_kind : (b : Bool) → AreAsLarge c.objects.spaces (if◌then◌else◌ {A = Objects} b (with_marked c.objects (Ref (reference_in (word_of cell slot)))) c.objects).spaces
        by_kind true = as_large c.objects.spaces (with_marked c.objects (Ref (reference_in (word_of cell slot)))).spaces (marked_uses c.objects (Ref (reference_in (word_of cell slot))))
        by_kind false = itself_large c.objects.spaces

    abbrev after_scan : Bool → Progress × Objects
    after_scan b = if◌then◌else◌ {A = Progress × Objects} b (record c.progress { scanned_slots = c.progress.scanned_slots + 1 }, slot_scanned c.tree c.objects cell c.progress.scanned_slots) (record c.progress { scanned_slots = 0 }, without_oldest c.objects rest)

    object_takes : 1 + work_left (record marking { progress = (object_scanned c.tree c.progress c.objects rest cell).0; objects = (object_scanned c.tree c.progress c.objects rest cell).1 }) ≤ work_left marking
    object_takes = by_test (nat_lt c.progress.scanned_slots (length cell.slots)) refl
      where
        by_test : (b : Bool) → nat_lt c.progress.scanned_slots (length cell.slots) ≡ b → 1 + work_left (record marking { progress = (after_scan b).0; objects = (after_scan b).1 }) ≤ work_left marking
        by_test true test =
            let near : c.progress.scanned_slots < length cell.slots = grind (arith, nat_tests) in
            let one = slot_lessens c.objects.spaces g rest grey c.posts.has_round c.progress.scanned_slots cell lies near in
            let less = (slot_leaves c.progress.scanned_slots).less there c.posts.has_round (c.progress.scanned_slots + 1) in
            let large = slot_large c.progress.scanned_slots in
            omega (arith, one, less, large.new)
        by_test false test = (let one = black_lessens c.objects.spaces g rest grey c.posts.has_round c.progress.scanned_slots in omega (arith, one))

    object_large : AreAsLarge c.objects.spaces (object_scanned c.tree c.progress c.objects rest cell).1.spaces
    object_large = by_test (nat_lt c.progress.scanned_slots (length cell.slots))
      where
        by_test : (b : Bool) → AreAsLarge c.objects.spaces (after_scan b).1.spaces
        by_test true = slot_large c.progress.scanned_slots
        by_test false = record { old = refl; new = refl }

  -- a round is posted where none was, or where something was marked since
  round_required : (scanned none has_round answered has_marked : Bool) → scanned ≡ true → none ≡ true → (scanned && (none && (has_round && (answered && not has_marked)))) ≡ false → (has_round && not answered) ≡ false →
      round_left has_marked has_round ≡ 1
  round_required scanned none has_round answered true a b open_still done = refl
  round_required scanned none false answered false a b open_still done = refl
  round_required scanned none true false false a b open_still done = absurd cc
  round_required true true true true false a b open_still done = absurd cc
  round_required false none true true false a b open_still done = absurd cc
  round_required true false true true false a b open_still done = absurd cc

  round_takes : c.progress.scanned_statics ≡ true → (marked c).2 ≡ false → is_closed c.progress c.objects marking.posts ≡ false → (c.posts.has_round && not (all_answered marking.posts)) ≡ false →
      1 + work_left (round_posted marking) ≤ work_left marking
  round_takes scanned over more answered =
      let none = not-false (is_none_grey c.objects.spaces.grey) (sym (next_mark_step-works c.tree c.posts.has_round c.limits.max_words c.progress c.objects sound.heap) ∙ over) in
      let one = round_required c.progress.scanned_statics (is_none_grey c.objects.spaces.grey) c.posts.has_round (all_answered marking.posts) c.objects.spaces.has_marked scanned none more answered in
      let then_left : round_left false true ≡ 0 = refl in
      omega (arith, one, then_left)

  -- a step of Mark takes work where there was an object to mark
  abbrev MarkTakes : Progress × Objects × Bool → Type 0
  MarkTakes x = x.2 ≡ true → TakesWork marking Gc (with_work marking x, Worked)

  -- the oldest grey object is there
  marks_take : (marked c).2 ≡ true → TakesWork marking Gc (with_work marking (marked c), Worked)
  marks_take step = by_grey c.objects.spaces.grey refl step
    where
      by_cell : (g : Addr) (rest : List Addr) → c.objects.spaces.grey ≡ g ∷ rest → (o : Option Cell) → cell_in c.objects.spaces.old g ≡ o → MarkTakes (mark_step c.tree c.progress c.objects (g ∷ rest) o)
      by_cell g rest grey None none some = absurd cc
      by_cell g rest grey (Some cell) lies some = works marking (with_work marking (mark_step c.tree c.progress c.objects (g ∷ rest) (Some cell))) (λ e. absurd cc) (λ e. absurd cc) (object_large g rest cell grey lies) (object_takes g rest cell grey lies)

      by_grey : (grey : List Addr) → c.objects.spaces.grey ≡ grey → MarkTakes (mark_step c.tree c.progress c.objects grey (oldest_cell c.objects grey))
      by_grey [] none some = absurd cc
      by_grey (g ∷ rest) grey some = by_cell g rest grey (cell_in c.objects.spaces.old g) refl some

-- ---- Allocate

module _ (c : MachineState) (sound : IsSound (posting Allocate c)) where
  abbrev allocating : MachineState
  allocating = posting Allocate c

  -- a shell or none leaves each block as large
  look_large : (o : Option Cell) → AreAsLarge c.objects.spaces (shell_step c.progress c.objects o).1.spaces
  look_large None = itself_large c.objects.spaces
  look_large (Some cell) = by_test (needs_copy cell)
    where
      by_test : (t : Bool) → AreAsLarge c.objects.spaces (if◌then◌else◌ {A = Objects} t (record c.objects { spaces = with_shell c.objects.spaces (address_after_cell c.objects.spaces.old c.progress.cursor) cell }) c.objects).spaces
      by_test true = record { old = refl; new = refl }
      by_test false = itself_large c.objects.spaces

  -- the cursor advances past an object
  look_takes : (o : Option Cell) → cell_in c.objects.spaces.old (address_after_cell c.objects.spaces.old c.progress.cursor) ≡ o → (shell_step c.progress c.objects o).2 ≡ true →
      1 + work_left (record allocating { progress = (shell_step c.progress c.objects o).0; objects = (shell_step c.progress c.objects o).1 }) ≤ work_left allocating
  look_takes None none some = absurd cc
  look_takes (Some cell) lies some =
      let within = (range_in c.objects.spaces.old (address_after_cell c.objects.spaces.old c.progress.cursor) cell lies).1 in
      let fits = sound.heap.blocks.spaces.old.fits in
      let long = sound.heap.blocks.grows refl in
      let large = (look_large (Some cell)).new in
      omega (arith, within, fits, long, large)

-- ---- Copy

module _ (c : MachineState) (sound : IsSound (posting Copy c)) where
  abbrev copying : MachineState
  copying = posting Copy c

  abbrev start : ℕ
  start = c.objects.spaces.old.start

  -- a stored word leaves each block as large
  stored_large : (t : Attempt) (from : Cell) (to : Addr) (word : ℕ) → AreAsLarge c.objects.spaces (word_stored c.tree c.objects t from to word).spaces
  stored_large t from to zero = record { old = refl; new = refl }
  stored_large t from to (suc slot) = record { old = refl; new = refl }

  -- what is copied of the object at the cursor is a part of the one that is found
  module _ (at : ℕ) (found : found_in has_other c.objects.spaces.old (start + c.progress.cursor) ≡ Some at) (cell : Cell) (lies : cell_in c.objects.spaces.old (record { number = at }) ≡ Some cell) where
    following : start + c.progress.cursor ≤ at
    following = (found_is has_other c.objects.spaces.old (start + c.progress.cursor) at found).following

    few : c.progress.copied_words ≤ length cell.slots
    few = by_words c.progress.copied_words refl
      where
        by_words : (n : ℕ) → c.progress.copied_words ≡ n → c.progress.copied_words ≤ length cell.slots
        by_words zero none = omega (arith, none)
        by_words (suc n) some =
            let one = sound.heap.cursor.words refl (λ none. absurd (omega (arith, none, some))) in
            let other : has_other one.0 ≡ true = has_copy one.0.other one.2 in
            let same : at ≡ start + c.progress.cursor = same_Some at (start + c.progress.cursor) (sym found ∙ found_here has_other c.objects.spaces.old (start + c.progress.cursor) one.0 one.1 other) in
            let itself : one.0 ≡ cell = same_Some one.0 cell (sym one.1 ∙ subst (λ (n : ℕ). cell_in c.objects.spaces.old (record { number = n }) ≡ Some cell) same lies) in
            let slots : length one.0.slots ≡ length cell.slots = ap (λ (x : Cell). length x.slots) itself in
            omega (arith, slots, one.3)
          where
            has_copy : (o : Option Addr) → o ≢ None → is_some o ≡ true
            has_copy None some = absurd (some refl)
            has_copy (Some b) some = refl

    within : at + size cell ≤ start + used_words c.objects.spaces.old.cells
    within = (range_in c.objects.spaces.old (record { number = at }) cell lies).1

    most : attempt_cost c.progress.attempt ≤ most_spent
    most = sound.heap.cursor.attempts refl

    -- a step of an attempt
    attempt_takes : (o : Objects) → AreAsLarge c.objects.spaces o.spaces → (t : Attempt) → attempt_cost t ≡ 1 + attempt_cost c.progress.attempt
        → 1 + work_left (record copying { progress = before_word c.progress c.objects.spaces.old (record { number = at }) t; objects = o }) ≤ work_left copying
    attempt_takes o large t one =
        let fits = sound.heap.blocks.spaces.old.fits in
        let long = sound.heap.blocks.grows refl in
        omega (arith, one, within, fits, long, large.new, following, few, most)

    -- the word is done
    word_takes : (o : Objects) → AreAsLarge c.objects.spaces o.spaces → 1 + work_left (record copying { progress = after_word c.progress c.objects.spaces.old (record { number = at }) cell c.progress.copied_words; objects = o }) ≤ work_left copying
    word_takes o large = by_test (nat_lt c.progress.copied_words (length cell.slots)) refl
      where
        by_test : (b : Bool) → nat_lt c.progress.copied_words (length cell.slots) ≡ b →
            1 + work_left (record copying {
              progress = if◌then◌else◌ {A = Progress} b (record c.progress { cursor = at - start; copied_words = c.progress.copied_words + 1; attempt = no_attempt }) (record c.progress { cursor = at - start + size cell; copied_words = 0; attempt = no_attempt });
              objects = o;
            }) ≤ work_left copying
        by_test true test =
            let near : c.progress.copied_words < length cell.slots = grind (arith, nat_tests) in
            let fits = sound.heap.blocks.spaces.old.fits in
            let long = sound.heap.blocks.grows refl in
            omega (arith, near, within, fits, long, large.new, following, most)
        by_test false test =
            let fits = sound.heap.blocks.spaces.old.fits in
            let long = sound.heap.blocks.grows refl in
            omega (arith, within, fits, long, large.new, following, few, most)

    -- each step at a word
    module _ (b : Addr) where
      abbrev LeavesLess : Progress × Objects → Type 0
      LeavesLess x = 1 + work_left (record copying { progress = x.0; objects = x.1 }) ≤ work_left copying

      begun_takes : c.progress.attempt.stage ≡ Begins → (t : Bool)
          → LeavesLess (if◌then◌else◌ {A = Progress × Objects} t (before_word c.progress c.objects.spaces.old (record { number = at }) (with_loaded cell c.progress.copied_words c.progress.attempt), c.objects)
          (after_word c.progress c.objects.spaces.old (record { number = at }) cell c.progress.copied_words, word_stored c.tree c.objects (with_loaded cell c.progress.copied_words c.progress.attempt) cell b c.progress.copied_words))
      begun_takes begins true =
          let checks = loaded_checks cell c.progress.copied_words c.progress.attempt in
          let stage = ap stage_number (loaded_stage cell c.progress.copied_words c.progress.attempt) in
          let before = ap stage_number begins in
          attempt_takes c.objects (itself_large c.objects.spaces) (with_loaded cell c.progress.copied_words c.progress.attempt) (omega (arith, checks, stage, before))
      begun_takes begins false =
          word_takes (word_stored c.tree c.objects (with_loaded cell c.progress.copied_words c.progress.attempt) cell b c.progress.copied_words) (stored_large (with_loaded cell c.progress.copied_words c.progress.attempt) cell b c.progress.copied_words)

      checked_takes : c.progress.attempt.stage ≡ Stored → (t : Bool)
          → LeavesLess (
            if t then after_word c.progress c.objects.spaces.old (record { number = at }) cell c.progress.copied_words
                else before_word c.progress c.objects.spaces.old (record { number = at }) (record no_attempt { failed_checks = c.progress.attempt.failed_checks + 1 }),
            c.objects,
          )
      checked_takes stored true = word_takes c.objects (itself_large c.objects.spaces)
      checked_takes stored false = (let before = ap stage_number stored in attempt_takes c.objects (itself_large c.objects.spaces) (record no_attempt { failed_checks = c.progress.attempt.failed_checks + 1 }) (omega (arith, before)))

      stage_takes : (stage : Stage) → c.progress.attempt.stage ≡ stage → LeavesLess (word_step stage c.tree c.progress c.objects (record { number = at }) cell b)
      stage_takes Begins is = begun_takes is (nat_lt c.progress.attempt.failed_checks MOST_FAILED_CHECKS)
      stage_takes Loaded is =
          (let before = ap stage_number is in
          attempt_takes (word_stored c.tree c.objects c.progress.attempt cell b c.progress.copied_words) (stored_large c.progress.attempt cell b c.progress.copied_words) (record c.progress.attempt { stage = Stored }) (omega (arith, before)))
      stage_takes Stored is = checked_takes is (has_loaded c.progress.attempt cell c.progress.copied_words)

  abbrev nothing : Progress × Objects × Bool
  nothing = (c.progress, c.objects, false)

  abbrev copied_cell : ℕ → Cell → Option Addr → Progress × Objects × Bool
  copied_cell at cell other = option_map_or (object_copied c.tree c.progress c.objects (record { number = at }) cell) other nothing

  abbrev copied_there : ℕ → Option Cell → Progress × Objects × Bool
  copied_there at o = option_map_or (λ (x : Cell). copied_cell at x x.other) o nothing

  -- where there was a word to copy
  abbrev Leaves : Progress × Objects × Bool → Type 0
  Leaves x = x.2 ≡ true → 1 + work_left (record copying { progress = x.0; objects = x.1 }) ≤ work_left copying

  module _ (at : ℕ) (found : found_in has_other c.objects.spaces.old (start + c.progress.cursor) ≡ Some at) where
    by_other : (cell : Cell) → cell_in c.objects.spaces.old (record { number = at }) ≡ Some cell → (other : Option Addr) → Leaves (copied_cell at cell other)
    by_other cell lies None some = absurd cc
    by_other cell lies (Some b) some = stage_takes at found cell lies b c.progress.attempt.stage refl

    by_cell : (o : Option Cell) → cell_in c.objects.spaces.old (record { number = at }) ≡ o → Leaves (copied_there at o)
    by_cell None none some = absurd cc
    by_cell (Some cell) lies some = by_other cell lies cell.other some

  copy_takes : (found : Option ℕ) → found_in has_other c.objects.spaces.old (start + c.progress.cursor) ≡ found → Leaves (copy_step_at c.tree c.progress c.objects found)
  copy_takes None none some = absurd cc
  copy_takes (Some at) found some = by_cell at found (cell_in c.objects.spaces.old (record { number = at })) refl some

  step_large : (o : Objects) → IsStep c.tree c.progress c.objects o → AreAsLarge c.objects.spaces o.spaces
  step_large o (none_stored same) = subst (λ (x : Objects). AreAsLarge c.objects.spaces x.spaces) (sym same) (itself_large c.objects.spaces)
  step_large o (one_stored at cell b t lies other same) = subst (λ (x : Objects). AreAsLarge c.objects.spaces x.spaces) (sym same) (record { old = refl; new = refl })

-- ---- HeapFlip

module _ (c : MachineState) (statics : length c.statics ≡ static_count c) where
  abbrev flipping : MachineState
  flipping = posting HeapFlip c

  -- the next static field is flipped
  flip_takes : (o : Option Value) → slice_get c.statics c.progress.flipped_statics ≡ o → (flip_step c.progress c.objects c.statics o).2 ≡ true → TakesWork flipping Gc (with_flips flipping (flip_step c.progress c.objects c.statics o), Worked)
  flip_takes None none some = absurd cc
  flip_takes (Some v) there some =
      let near = slice_get_within c.statics c.progress.flipped_statics v there in
      works flipping (with_flips flipping (flip_step c.progress c.objects c.statics (Some v))) (λ e. absurd cc) (λ e. absurd cc) (itself_large c.objects.spaces) (omega (arith, near, statics))

-- ---- Reclaim

module _ (c : MachineState) (sound : IsSound (posting Reclaim c)) where
  abbrev clearing : MachineState
  clearing = posting Reclaim c

  abbrev new_start : ℕ
  new_start = c.objects.spaces.new.start

  -- the last event of a cycle
  ends : TakesWork clearing Gc (cycle_ended clearing, CycleDone)
  ends = record {
    less = λ going. omega arith;
    anew = λ is. absurd cc;
    between = λ is. inl refl;
    ended = λ e. refl;
    larger_stays = (
        let long = sound.heap.blocks.grows refl in
        let right = le-max_left c.objects.spaces.new.words 0 in
        max-le {a = c.objects.spaces.old.words} {b = c.objects.spaces.new.words} {k = max c.objects.spaces.new.words 0} (omega (arith, long, right)) right);
  }

  abbrev cleared_cell : ℕ → Option Cell → Progress × Objects × Bool
  cleared_cell at o =
      option_map_or {U = Progress × Objects × Bool} (λ (x : Cell). (record c.progress { cursor = at - new_start + size x }, record c.objects { spaces = clear c.objects.spaces (record { number = at }) }, true)) o (c.progress, c.objects, false)

  -- the cursor advances past an object
  cell_takes : (at : ℕ) → found_in is_noted c.objects.spaces.new (new_start + c.progress.cursor) ≡ Some at → (o : Option Cell) → cell_in c.objects.spaces.new (record { number = at }) ≡ o → (cleared_cell at o).2 ≡ true → TakesWork clearing Gc (with_work clearing (cleared_cell at o), Worked)
  cell_takes at found None none some = absurd cc
  cell_takes at found (Some cell) lies some =
      let following : new_start + c.progress.cursor ≤ at = (found_is is_noted c.objects.spaces.new (new_start + c.progress.cursor) at found).following in
      let within : at + size cell ≤ new_start + used_words c.objects.spaces.new.cells = (range_in c.objects.spaces.new (record { number = at }) cell lies).1 in
      let fits = sound.heap.blocks.spaces.new.fits in
      works clearing (with_work clearing (cleared_cell at (Some cell))) (λ e. absurd cc) (λ e. absurd cc) (record { old = refl; new = refl }) (omega (arith, following, within, fits))

  clear_takes : (found : Option ℕ) → found_in is_noted c.objects.spaces.new (new_start + c.progress.cursor) ≡ found → (clear_step_at c.progress c.objects found).2 ≡ true → TakesWork clearing Gc (with_work clearing (clear_step_at c.progress c.objects found), Worked)
  clear_takes None none some = absurd cc
  clear_takes (Some at) found some = cell_takes at found (cell_in c.objects.spaces.new (record { number = at })) refl some

-- ---- each phase

module _ (c : MachineState) (statics : length c.statics ≡ static_count c) where
  work_takes : (x : Phase) (after : MachineState × Report) → IsWork c x after → IsSound (posting x c) → TakesWork (posting x c) Gc after
  work_takes _ _ opens_cycle sound = initial_takes c sound
  work_takes _ _ (scans_statics early) sound = works (posting Mark c) (with_scan (posting Mark c)) (λ e. absurd cc) (λ e. absurd cc) (scan_large c sound) (scan_takes c sound early)
  work_takes _ _ (marks_object scanned step) sound = marks_take c sound step
  work_takes _ _ (ends_marking scanned over closed) sound = works (posting Mark c) (next_posted (posting Mark c)).0 (λ e. absurd cc) (λ e. absurd cc) (itself_large c.objects.spaces) (omega arith)
  work_takes _ _ (waits_for_round late) sound = waits (posting Mark c)
  work_takes _ _ (posts_round scanned over more answered) sound = works (posting Mark c) (round_posted (posting Mark c)) (λ e. absurd cc) (λ e. absurd cc) (record { old = refl; new = refl }) (round_takes c sound scanned over more answered)
  work_takes _ _ (allocates_copy step) sound =
      let cell : Option Cell = cell_in c.objects.spaces.old (address_after_cell c.objects.spaces.old c.progress.cursor) in
      works (posting Allocate c) (with_work (posting Allocate c) (allocated c)) (λ e. absurd cc) (λ e. absurd cc) (look_large c sound cell) (look_takes c sound cell refl step)
  work_takes _ _ (ends_allocation over) sound = works (posting Allocate c) (next_posted (posting Allocate c)).0 (λ e. absurd cc) (λ e. absurd cc) (itself_large c.objects.spaces) (omega arith)
  work_takes _ _ (copies_word step) sound =
      works (posting Copy c) (with_work (posting Copy c) (copied c)) (λ e. absurd cc) (λ e. absurd cc) (step_large c sound (copied c).1 (copied_cases c.tree c.progress c.objects))
      (copy_takes c sound (found_in has_other c.objects.spaces.old (c.objects.spaces.old.start + c.progress.cursor)) refl step)
  work_takes _ _ (ends_copying over) sound = works (posting Copy c) (next_posted (posting Copy c)).0 (λ e. absurd cc) (λ e. absurd cc) (itself_large c.objects.spaces) (omega arith)
  work_takes _ _ posts_heap_flip sound = works (posting PreFlip c) (next_posted (posting PreFlip c)).0 (λ e. absurd cc) (λ e. absurd cc) (itself_large c.objects.spaces) (omega arith)
  work_takes _ _ (flips_static step) sound = flip_takes c statics (slice_get c.statics c.progress.flipped_statics) refl step
  work_takes _ _ (ends_heap_flip over) sound = works (posting HeapFlip c) (next_posted (posting HeapFlip c)).0 (λ e. absurd cc) (λ e. absurd cc) (itself_large c.objects.spaces) (omega arith)
  work_takes _ _ posts_reclaim sound = works (posting ThreadFlip c) (next_posted (posting ThreadFlip c)).0 (λ e. absurd cc) (λ e. absurd cc) (itself_large c.objects.spaces) (omega arith)
  work_takes _ _ (clears_object step) sound = clear_takes c sound (found_in is_noted c.objects.spaces.new (c.objects.spaces.new.start + c.progress.cursor)) refl step
  work_takes _ _ (ends_cycle over) sound = ends c sound

  -- so does each event of the collector
  pub collector_takes : IsSound c → TakesWork c Gc (collect c)
  collector_takes sound = by_cases c (TakesWork c Gc) (λ seen after is. work_takes c.posts.posted_phase after is sound) (λ late. waits c)
