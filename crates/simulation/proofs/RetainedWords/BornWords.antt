-- No space of a machine has more words in use than all objects that were born so far, whatever events of the collector there were: so a machine with
-- a collector refuses no birth for which one space without a collector has room.
use Rattle.std.proofs.Common.{◌≡◌, ◌≤◌, ◌<◌, ◌+◌, ◌-◌, ◌&&◌, ℕ, zero, suc, Bool, true, false, if◌then◌else◌, is_none, List, [], ◌∷◌, length, Option, Some, None, slice_get, refl, inr, sym, ap, ◌∙◌, subst, arith}
use Rattle.std.specs.Prelude.{nat_lt}
use Rattle.std.specs.Option.{option_map_or}
use Rattle.interpreter.specs.cil_model.declared.events.Event.TheVariants.{Step, Ack, Gc}
use Rattle.interpreter.specs.cil_model.declared.limits.Limits.{Limits}
use Rattle.interpreter.specs.cil_model.declared.phases.Phase.{Phase}
use Rattle.interpreter.specs.cil_model.declared.phases.Phase.TheVariants.{Idle, Mark, ThreadFlip, Reclaim}
use Rattle.interpreter.specs.cil_model.declared.reports.Report.{Report}
use Rattle.interpreter.specs.cil_model.declared.reports.Report.TheVariants.{Absent, Acked, NothingPosted}
use Rattle.interpreter.specs.cil_model.declared.trees.Tree.{Tree}
use Rattle.interpreter.specs.reference_machine.Cycles.{SpaceSizes as SeenSpaces, new_room, room, space_room}
use Rattle.interpreter.specs.reference_machine.Rooms.{ExceedsRoom, cell_words, spaces, words_of_all}
use Rattle.interpreter.specs.reference_machine.Runs.{is_refusal}
use Rattle.interpreter.specs.reference_machine.States.{State}
use Rattle.interpreter.specs.reference_machine.Steps.{Answers, step}
use Rattle.interpreter.specs.object_memory.declared.addresses.Addr.{Addr}
use Rattle.interpreter.specs.object_memory.declared.values.Value.TheVariants.{Ref}
use Rattle.interpreter.specs.object_memory.Cells.{Cell, cell_in, free_words, next_address, size, store_copies, store_monitor, store_slot, used_words}
use Rattle.interpreter.specs.object_memory.Objects.{Objects}
use Rattle.interpreter.specs.object_memory.Spaces.{AreSpaces, HasShellRoom, Spaces, clear, found_in, has_other, is_noted, set_other, with_shell}
use Rattle.interpreter.specs.instructions.barriers.Barriers.{with_marked}
use Rattle.interpreter.specs.threads_monitors.Roots.{roots}
use Rattle.interpreter.specs.threads_monitors.Threads.{is_live_at}
use Rattle.interpreter.specs.threads_monitors.declared.threads.ThreadStatus.{ThreadStatus}
use Rattle.interpreter.specs.threads_monitors.declared.threads.ThreadStatus.TheVariants.{Live, Ended}
use Rattle.interpreter.specs.threads_monitors.declared.threads.Thread.{Thread}
use Rattle.interpreter.proofs.object_memory.Blocks.{used_in}
use Rattle.interpreter.proofs.object_memory.Rooms.{HasShellRoom-shell}
use Rattle.interpreter.proofs.object_memory.TwoSpaces.TwoBlocks.{slot_keeps}
use Rattle.collector.specs.CopySteps.{address_after_cell, copy_step_at, object_copied, shell_made, shell_step, word_step, word_stored, after_word, before_word}
use Rattle.collector.specs.Attempts.{with_loaded}
use Rattle.collector.specs.Flips.{clear_step_at}
use Rattle.collector.specs.MarkSteps.{mark_step, object_scanned, oldest_cell, slot_scanned, without_oldest, word_of}
use Rattle.collector.specs.References.{holds_reference, reference_in}
use Rattle.collector.specs.Soundness.{copied_word}
use Rattle.collector.specs.declared.progress.Attempt.{Attempt}
use Rattle.collector.specs.declared.progress.Progress.{Progress}
use Rattle.collector.specs.declared.progress.Stage.{Stage}
use Rattle.collector.specs.declared.progress.Stage.TheVariants.{Begins, Loaded, Stored}
use Rattle.collector.specs.declared.progress.TheConstants.{MOST_FAILED_CHECKS}
use Rattle.collector.specs.phase_handshake.Handshakes.{is_open, own_phase}
use Rattle.simulation.specs.CollectorSteps.{answers_round, collect, mark_object, objects_after, with_acknowledgement, with_roots_marked, with_status_marked, with_thread_marked}
use Rattle.simulation.specs.MachineStates.{MachineState}
use Rattle.simulation.specs.Rooms.{HasNoRoom, spaces_of}
use Rattle.simulation.specs.Sound.{IsSound}
use Rattle.simulation.specs.Refines.{Represents}
use Rattle.simulation.specs.Transitions.{IsTransition, initial_machine_state}
use Rattle.simulation.proofs.CollectorEvents.Reports.{IsCollected, waits}
use Rattle.simulation.proofs.Instructions.Correspondence.{InstructionsAreAlike}
use Rattle.simulation.proofs.CycleBounds.OpenCycles.{gc_is}
use Rattle.simulation.proofs.Threads.Steps.{beyond, is_beyond, step_follows}
use Rattle.simulation.proofs.CollectedHeap.MemoryWithRoom.{closed_room, open_room}
use Rattle.simulation.proofs.CollectedHeap.UsedWords.{UsesAsMuch, all_marked_uses, change_uses, marked_uses, uses_itself, uses_then}
use Rattle.simulation.proofs.CollectorEvents.EventCases.{IsWork, allocates_copy, by_cases, clears_object, copies_word, ends_cycle, marks_object, opens_cycle, posting, posts_round, scans_statics}
use Rattle.simulation.proofs.Representation.InitialContents.{initially}

-- The old space has these words at least, and neither has more in use than all that are given.
pub record AreWithin (least all : ℕ) (m : Spaces) : Type 0 where
  pub words : least ≤ m.old.words
  pub old : used_words m.old.cells ≤ all
  pub new : used_words m.new.cells ≤ all

-- the old space is as large as the limit at least, and neither has more words in use than all objects that were born
abbrev pub IsWithinBirths : MachineState → State → Type 0
IsWithinBirths c s = AreWithin c.limits.words (words_of_all c.tree s.objects) c.objects.spaces

-- one of two, by a test
either : {A : Type 0} (P : A → Type 0) (b : Bool) (x y : A) → P x → P y → P (if b then x else y)
either P true x y p q = p
either P false x y p q = q

-- ---- work that takes no words

-- marks
roots_use : (list : List Addr) (o : Objects) → UsesAsMuch o.spaces (with_roots_marked o list).spaces
roots_use [] o = uses_itself o.spaces
roots_use (a ∷ rest) o = uses_then o.spaces (with_marked o (Ref a)).spaces (with_roots_marked (with_marked o (Ref a)) rest).spaces (marked_uses o (Ref a)) (roots_use rest (with_marked o (Ref a)))

status_uses : (thread_status : ThreadStatus) (o : Objects) → UsesAsMuch o.spaces (with_status_marked o thread_status).spaces
status_uses (Live m) o = roots_use (roots m) o
status_uses (Ended e) o = uses_itself o.spaces

thread_uses : (thread : Option Thread) (o : Objects) → UsesAsMuch o.spaces (with_thread_marked o thread).spaces
thread_uses None o = uses_itself o.spaces
thread_uses (Some x) o = status_uses x.thread_status o

acknowledgement_uses : (c : MachineState) (t : ℕ) → UsesAsMuch c.objects.spaces (objects_after c t).spaces
acknowledgement_uses c t =
    either (λ (o : Objects). UsesAsMuch c.objects.spaces o.spaces) (answers_round c t) (with_thread_marked c.objects (slice_get c.threads t)) c.objects (thread_uses (slice_get c.threads t) c.objects) (uses_itself c.objects.spaces)

slot_uses : (tree : Tree) (o : Objects) (c : Cell) (slot : ℕ) → UsesAsMuch o.spaces (slot_scanned tree o c slot).spaces
slot_uses tree o c slot =
    let value = Ref (reference_in (word_of c slot)) in
    either (λ (x : Objects). UsesAsMuch o.spaces x.spaces) (holds_reference tree c.kind slot) (with_marked o value) o (marked_uses o value) (uses_itself o.spaces)

object_uses : (tree : Tree) (p : Progress) (o : Objects) (rest : List Addr) (c : Cell) → UsesAsMuch o.spaces (object_scanned tree p o rest c).1.spaces
object_uses tree p o rest c =
    either (λ (x : Progress × Objects). UsesAsMuch o.spaces x.1.spaces) (nat_lt p.scanned_slots (length c.slots)) (record p { scanned_slots = p.scanned_slots + 1 }, slot_scanned tree o c p.scanned_slots) (record p { scanned_slots = 0 }, without_oldest o rest)
    (slot_uses tree o c p.scanned_slots) (record { old = refl; new = refl; old_words = refl; new_words = refl; held = refl })

mark_uses : (tree : Tree) (p : Progress) (o : Objects) (grey : List Addr) (c : Option Cell) → UsesAsMuch o.spaces (mark_step tree p o grey c).1.spaces
mark_uses tree p o (g ∷ rest) (Some c) = object_uses tree p o rest c
mark_uses tree p o _ _ = uses_itself o.spaces

-- copies of words
stored_uses : (tree : Tree) (o : Objects) (t : Attempt) (from : Cell) (to : Addr) (word : ℕ) → UsesAsMuch o.spaces (word_stored tree o t from to word).spaces
stored_uses tree o t from to zero = change_uses (store_monitor t.monitor) (λ c. refl) o.spaces to
stored_uses tree o t from to (suc slot) = let word = copied_word tree o.spaces from slot t.word in change_uses (store_slot slot word) (slot_keeps slot word) o.spaces to

step_uses : (stage : Stage) (tree : Tree) (p : Progress) (o : Objects) (a : Addr) (c : Cell) (b : Addr) → UsesAsMuch o.spaces (word_step stage tree p o a c b).1.spaces
step_uses Begins tree p o a c b =
    let loaded = with_loaded c p.copied_words p.attempt in
    either (λ (x : Progress × Objects). UsesAsMuch o.spaces x.1.spaces) (nat_lt p.attempt.failed_checks MOST_FAILED_CHECKS) (before_word p o.spaces.old a loaded, o) (after_word p o.spaces.old a c p.copied_words, word_stored tree o loaded c b p.copied_words)
    (uses_itself o.spaces) (stored_uses tree o loaded c b p.copied_words)
step_uses Loaded tree p o a c b = stored_uses tree o p.attempt c b p.copied_words
step_uses Stored tree p o a c b = uses_itself o.spaces

copy_uses : (tree : Tree) (p : Progress) (o : Objects) (found : Option ℕ) → UsesAsMuch o.spaces (copy_step_at tree p o found).1.spaces
copy_uses tree p o None = uses_itself o.spaces
copy_uses tree p o (Some at) = by_cell (cell_in o.spaces.old (record { number = at }))
  where
    by_other : (c : Cell) (other : Option Addr) → UsesAsMuch o.spaces (option_map_or (object_copied tree p o (record { number = at }) c) other (p, o, false)).1.spaces
    by_other c None = uses_itself o.spaces
    by_other c (Some b) = step_uses p.attempt.stage tree p o (record { number = at }) c b

    by_cell : (cell : Option Cell) → UsesAsMuch o.spaces (option_map_or (λ (c : Cell). option_map_or (object_copied tree p o (record { number = at }) c) c.other (p, o, false)) cell (p, o, false)).1.spaces
    by_cell None = uses_itself o.spaces
    by_cell (Some c) = by_other c c.other

-- and what is cleared
clear_uses : (p : Progress) (o : Objects) (found : Option ℕ) → UsesAsMuch o.spaces (clear_step_at p o found).1.spaces
clear_uses p o None = uses_itself o.spaces
clear_uses p o (Some at) = by_cell (cell_in o.spaces.new (record { number = at }))
  where
    by_cell : (cell : Option Cell) → UsesAsMuch o.spaces (option_map_or {U = Progress × Objects × Bool} (λ (c : Cell). (record p { cursor = at - o.spaces.new.start + size c }, record o { spaces = clear o.spaces (record { number = at }) }, true)) cell (p, o, false)).1.spaces
    by_cell None = uses_itself o.spaces
    by_cell (Some c) = change_uses (store_copies false None) (λ x. refl) o.spaces (record { number = at })

-- ---- the spaces after each event

module _ (least all : ℕ) where
  uses_within : (m n : Spaces) → UsesAsMuch m n → AreWithin least all m → AreWithin least all n
  uses_within m n same h = record { words = omega (arith, same.old_words, h.words); old = omega (arith, same.old, h.old); new = omega (arith, same.new, h.new) }

  -- a copy in the new space, whose words in use are still no more than those of the old one
  shell_within : (o : Objects) (a : Addr) (c : Cell) → AreSpaces o.spaces → HasShellRoom o.spaces → cell_in o.spaces.old a ≡ Some c → AreWithin least all o.spaces → AreWithin least all (shell_made o a c).spaces
  shell_within o a c are room lies h = by_need c.marked c.other refl
    where
      by_need : (mark_object : Bool) (other : Option Addr) → c.other ≡ other → AreWithin least all (if◌then◌else◌ {A = Objects} (mark_object && is_none other) (record o { spaces = with_shell o.spaces a c }) o).spaces
      by_need true None no_copy =
          let more = HasShellRoom-shell o.spaces are room a c lies no_copy in
          let kept = used_in (set_other (next_address o.spaces.new)) (λ x. refl) o.spaces.old a in
          record { words = h.words; old = omega (arith, kept, h.old); new = omega (arith, kept, more.words, h.old) }
      by_need _ _ other = h

  look_within : (p : Progress) (o : Objects) (cell : Option Cell) → AreSpaces o.spaces → HasShellRoom o.spaces → cell_in o.spaces.old (address_after_cell o.spaces.old p.cursor) ≡ cell → AreWithin least all o.spaces → AreWithin least all (shell_step p o cell).1.spaces
  look_within p o None are room lies h = h
  look_within p o (Some c) are room lies h = shell_within o (address_after_cell o.spaces.old p.cursor) c are room lies h

  -- ---- the collector

  module _ (c : MachineState) (h : AreWithin least all c.objects.spaces) where
    work_within : (x : Phase) (after : MachineState × Report) → IsWork c x after → IsSound (posting x c) → AreWithin least all after.0.objects.spaces
    work_within _ _ opens_cycle sound = record { words = h.words; old = h.old; new = omega arith }
    work_within _ _ (scans_statics early) sound = uses_within c.objects.spaces _ (all_marked_uses c.statics c.objects) h
    work_within _ _ (marks_object scanned step) sound = uses_within c.objects.spaces _ (mark_uses c.tree c.progress c.objects c.objects.spaces.grey (oldest_cell c.objects c.objects.spaces.grey)) h
    work_within _ _ (posts_round scanned over more answered) sound = record { words = h.words; old = h.old; new = h.new }
    work_within _ _ (allocates_copy step) sound =
        look_within c.progress c.objects (cell_in c.objects.spaces.old (address_after_cell c.objects.spaces.old c.progress.cursor)) sound.heap.blocks.spaces (sound.heap.copies.room (inr refl)) refl h
    work_within _ _ (copies_word step) sound = uses_within c.objects.spaces _ (copy_uses c.tree c.progress c.objects (found_in has_other c.objects.spaces.old (c.objects.spaces.old.start + c.progress.cursor))) h
    work_within _ _ (clears_object step) sound = uses_within c.objects.spaces _ (clear_uses c.progress c.objects (found_in is_noted c.objects.spaces.new (c.objects.spaces.new.start + c.progress.cursor))) h
    work_within _ _ (ends_cycle over) sound = record { words = omega (arith, h.words, sound.heap.blocks.grows refl); old = h.new; new = omega arith }
    work_within _ _ _ sound = h

    collected_within : IsSound c → AreWithin least all (collect c).0.objects.spaces
    collected_within sound = by_cases c (λ x. AreWithin least all x.0.objects.spaces) (λ seen after is. work_within c.posts.posted_phase after is sound) (λ late. h)

-- what is no step keeps within births
pub collection_within : (c : MachineState) (s : State) → Represents c s → IsWithinBirths c s → (after : MachineState × Report) → IsTransition c Gc after → AreWithin c.limits.words (words_of_all c.tree s.objects) after.0.objects.spaces
collection_within c s r h after transition =
    subst (λ (x : MachineState × Report). AreWithin c.limits.words (words_of_all c.tree s.objects) x.0.objects.spaces) (sym transition) (collected_within c.limits.words (words_of_all c.tree s.objects) c h r.sound)

pub acknowledgement_within : (c : MachineState) (s : State) (t : ℕ) → IsWithinBirths c s → (after : MachineState × Report) → IsTransition c (Ack t) after → AreWithin c.limits.words (words_of_all c.tree s.objects) after.0.objects.spaces
acknowledgement_within c s t h after transition =
    subst (λ (x : MachineState × Report). AreWithin c.limits.words (words_of_all c.tree s.objects) x.0.objects.spaces) (sym transition)
    (uses_within c.limits.words (words_of_all c.tree s.objects) c.objects.spaces (with_acknowledgement c t).0.objects.spaces (acknowledgement_uses c t) h)

-- and is refused no memory
pub collection_granted : (c : MachineState) (after : MachineState × Report) → IsTransition c Gc after → is_refusal after.1 ≡ false
collection_granted c after transition = by_kind after (gc_is c after transition)
  where
    by_kind : (x : MachineState × Report) → IsCollected c x → is_refusal x.1 ≡ false
    by_kind _ waits = refl
    by_kind _ _ = refl

pub acknowledgement_granted : (c : MachineState) (t : ℕ) (after : MachineState × Report) → IsTransition c (Ack t) after → is_refusal after.1 ≡ false
acknowledgement_granted c t after transition = ap (λ (x : MachineState × Report). is_refusal x.1) transition ∙ by_tests (is_open c.posts t) (is_live_at c.threads t)
  where
    by_tests : (opened live : Bool) → is_refusal (if opened then Acked else if live then NothingPosted else Absent) ≡ false
    by_tests true live = refl
    by_tests false true = refl
    by_tests false false = refl

-- a step adds no more words than it adds to those of all objects
module _ (each : InstructionsAreAlike) (c : MachineState) (s : State) (r : Represents c s) (t : ℕ) (after : MachineState × Report) (transition : IsTransition c (Step t) after) where
  pub step_within : IsWithinBirths c s → (s' : State) × (step c.tree c.limits s t (is_refusal after.1) ≡ Answers after.1 s') × Represents after.0 s' × AreWithin c.limits.words (words_of_all c.tree s'.objects) after.0.objects.spaces
  step_within h =
      let follows = step_follows each c s r t after transition in
      let room = follows.3 in (
        follows.0,
        follows.1,
        follows.2,
        record { words = omega (arith, h.words, room.large.old); old = omega (arith, h.old, room.used.old); new = omega (arith, h.new, room.used.new) },
      )

-- ---- room

-- what fits into both spaces fits in each phase
least_room : (m : SeenSpaces) (n : ℕ) → n ≤ space_room m.old → n ≤ new_room m → (own : Phase) → n ≤ room m own
least_room m n old new Idle = old
least_room m n old new Mark = old
least_room m n old new ThreadFlip = new
least_room m n old new Reclaim = new
least_room m n old new _ = omega arith

module _ (c : MachineState) (s : State) (r : Represents c s) (h : IsWithinBirths c s) (t : ℕ) where
  abbrev left : ℕ
  left = c.limits.words - words_of_all c.tree s.objects

  left_in_old : left ≤ free_words c.objects.spaces.old
  left_in_old = omega (arith, h.words, h.old)

  left_in_new : left ≤ new_room (spaces_of c.objects)
  left_in_new = by_cycle c.objects.spaces.is_open refl
    where
      by_cycle : (b : Bool) → c.objects.spaces.is_open ≡ b → left ≤ new_room (spaces_of c.objects)
      by_cycle true opened =
          let grows = r.sound.heap.blocks.grows (sym r.sound.heap.blocks.held ∙ opened) in
          let free : left ≤ free_words c.objects.spaces.new = omega (arith, h.words, h.new, grows) in
          subst (λ n. left ≤ n) (sym (open_room c.objects opened)) free
      by_cycle false closed = subst (λ n. left ≤ n) (sym (closed_room c.objects closed)) left_in_old

  -- a thread has as much room for a birth as one space has beside all objects that were born
  left_for_births : left ≤ room (spaces_of c.objects) (own_phase c.posts t)
  left_for_births = least_room (spaces_of c.objects) left left_in_old left_in_new (own_phase c.posts t)

  -- so what exceeds its room exceeds that of one space
  pub exceeds_one_space : HasNoRoom c s t → ExceedsRoom c.tree c.limits s t
  exceeds_one_space x =
      let words : ℕ = cell_words c.tree x.object.contents in
      let more : room (spaces_of c.objects) (own_phase c.posts t) < words = is_beyond words (room (spaces_of c.objects) (own_phase c.posts t)) x.exceeds in
      record {
        report = x.report;
        after = x.after;
        object = x.object;
        without_refusal = x.without_refusal;
        is_born = x.is_born;
        exceeds = beyond words left (omega (arith, more, left_for_births));
      }

-- ---- the initial state

module _ (tree : Tree) (limits : Limits) where
  pub opened_within : (c : MachineState) → initial_machine_state tree limits ≡ Some c → (s : State) → IsWithinBirths c s
  opened_within c e s = initially tree limits (λ x. IsWithinBirths x s) (λ entry n. record { words = omega arith; old = omega arith; new = omega arith }) c e
