-- The working events that the open cycle of a machine may still have, by the posted phase: no step of a thread and no acknowledgement makes them more.
use Rattle.std.proofs.Common.{◌≡◌, ◌≢◌, ◌⊎◌, ◌+◌, ◌-◌, ◌*◌, ◌≤◌, ℕ, max, Bool, true, false, length, refl, inl, inr, sym, ap, ◌∙◌, subst, arith, Option}
use Rattle.std.specs.Prelude.{Option, Some, None, is_some, slice_get}
use Rattle.std.specs.Option.{option_map_or}
use Rattle.std.proofs.lemmas.List.Elements.{All-weaker}
use Rattle.interpreter.specs.cil_model.declared.events.Event.{Event}
use Rattle.interpreter.specs.cil_model.declared.phases.Phase.{Phase}
use Rattle.interpreter.specs.cil_model.declared.phases.Phase.TheVariants.{Idle, Mark, Allocate, Copy, PreFlip, HeapFlip, ThreadFlip, Reclaim}
use Rattle.interpreter.specs.cil_model.declared.reports.Report.{Report}
use Rattle.interpreter.specs.cil_model.Fields.{static_fields}
use Rattle.interpreter.specs.reference_machine.Cycles.{ends_cycle, phase_after, work_of}
use Rattle.interpreter.specs.object_memory.Objects.{Objects}
use Rattle.interpreter.specs.object_memory.Spaces.{Spaces, is_old}
use Rattle.collector.specs.Attempts.{attempt_cost}
use Rattle.collector.specs.Phases.{is_before_copies, is_marked_old}
use Rattle.collector.specs.declared.progress.Progress.{Progress}
use Rattle.collector.specs.phase_handshake.Handshakes.{AreClose, Handshakes, IsClose, own_phase, seat_of}
use Rattle.collector.specs.phase_handshake.declared.posts.Seat.{Seat}
use Rattle.collector.proofs.Addresses.Tests.{marked_cell}
use Rattle.simulation.specs.CollectorSteps.{with_acknowledgement, with_thread_marked}
use Rattle.simulation.specs.MachineStates.{MachineState}
use Rattle.simulation.specs.Sound.{IsSound}
use Rattle.simulation.proofs.CollectorEvents.AcknowledgementCases.{after_acknowledgement}
use Rattle.simulation.proofs.CycleBounds.MarkingWork.{AreGreyThere, LeavesNoMore, heap_left}
use Rattle.simulation.proofs.CycleBounds.MarkingByThreads.{all_marks_stay}
use Rattle.simulation.proofs.CollectorEvents.RootMarks.{thread_marked, thread_values}
use Rattle.simulation.proofs.CollectedHeap.UsedWords.{AreAsLarge, all_marked_uses}
use Rattle.interpreter.specs.threads_monitors.declared.threads.Thread.{Thread}

-- ---- the measure

-- the scan of the static fields, until it is done
abbrev pub statics_left : Bool → ℕ
statics_left true = 0
statics_left false = 1

-- What a phase has left, and one for the next post: what is to be marked, the words after the cursor, of which each may take ten events to be copied, or
-- static fields; and the most that the phases after it may have. Between cycles it is nothing. The words are those of the new block, which has no
-- fewer than the old one.
abbrev pub left_in : Phase → (words statics : ℕ) → (has_round : Bool) → Progress → Spaces → ℕ
left_in Idle words statics has_round p m = 0
left_in Mark words statics has_round p m = statics_left p.scanned_statics + heap_left has_round p.scanned_slots m + (7 + statics + 12 * words)
left_in Allocate words statics has_round p m = (words - p.cursor) + (6 + statics + 11 * words)
left_in Copy words statics has_round p m = (10 * (words - (p.cursor + p.copied_words)) - attempt_cost p.attempt) + (5 + statics + words)
left_in PreFlip words statics has_round p m = 4 + statics + words
left_in HeapFlip words statics has_round p m = (statics - p.flipped_statics) + (3 + words)
left_in ThreadFlip words statics has_round p m = 2 + words
left_in Reclaim words statics has_round p m = (words - p.cursor) + 1

abbrev pub static_count : MachineState → ℕ
static_count c = length (static_fields c.tree)

-- with other objects, and as it is
abbrev pub left_with : MachineState → Spaces → ℕ
left_with c m = left_in c.posts.posted_phase m.new.words (static_count c) c.posts.has_round c.progress m

abbrev pub work_left : MachineState → ℕ
work_left c = left_with c c.objects.spaces

-- the words of the larger block: of the new one, while there is one
abbrev pub larger : Spaces → ℕ
larger m = max m.old.words m.new.words

-- all that a cycle may have
abbrev pub cycle_work : MachineState → ℕ
cycle_work c = 10 + static_count c + 13 * larger c.objects.spaces

-- In a cycle an event that works takes one of them at least, and one that ends the cycle is the last. Between cycles none works but the one that opens a cycle,
-- which is the first of all that the cycle may have. No event makes the larger block smaller.
pub record TakesWork (c : MachineState) (e : Event) (after : MachineState × Report) : Type 0 where
  pub less : c.posts.posted_phase ≢ Idle → work_of (e, after.1) + work_left after.0 ≤ work_left c
  pub anew : c.posts.posted_phase ≡ Idle → work_of (e, after.1) + work_left after.0 ≤ cycle_work after.0
  pub between : after.0.posts.posted_phase ≡ Idle → (ends_cycle e after.1 ≡ true) ⊎ ((c.posts.posted_phase ≡ Idle) × (work_of (e, after.1) ≡ 0))
  pub ended : ends_cycle e after.1 ≡ true → after.0.posts.posted_phase ≡ Idle
  pub larger_stays : larger c.objects.spaces ≤ larger after.0.objects.spaces

-- between cycles nothing is left
pub none_left : (x : Phase) (words statics : ℕ) (has_round : Bool) (p : Progress) (m : Spaces) → x ≡ Idle → left_in x words statics has_round p m ≡ 0
none_left x words statics has_round p m is = ap (λ q. left_in q words statics has_round p m) is

-- blocks that are as large have a larger one that is as large
pub larger_same : (m n : Spaces) → AreAsLarge m n → larger m ≤ larger n
larger_same m n same = subst (λ w. larger m ≤ max w n.new.words) (sym same.old) (subst (λ w. larger m ≤ max m.old.words w) (sym same.new) (omega arith))

-- an event that doesn't work takes nothing
pub takes_nothing : (c : MachineState) (e : Event) (d : MachineState) (r : Report) → work_of (e, r) ≡ 0 → ends_cycle e r ≡ false → (d.posts.posted_phase ≡ Idle → c.posts.posted_phase ≡ Idle) → work_left d ≤ work_left c → AreAsLarge c.objects.spaces d.objects.spaces → TakesWork c e (d, r)
takes_nothing c e d r idles stays posts less large = record {
  less = λ going. omega (arith, idles, less);
  anew = λ is. (let none = none_left c.posts.posted_phase c.objects.spaces.new.words (static_count c) c.posts.has_round c.progress c.objects.spaces is in omega (arith, idles, less, none));
  between = λ is. inr (posts is, idles);
  ended = λ ends. absurd (false_is (sym stays ∙ ends));
  larger_stays = larger_same c.objects.spaces d.objects.spaces large;
}
  where
    false_is : false ≡ true → ⊥
    false_is e = cc

-- ---- what threads do

-- the heap matters in Mark alone
pub heap_matters : (x : Phase) (words statics : ℕ) (has_round : Bool) (p : Progress) (m n : Spaces) → (x ≡ Mark → AreGreyThere m × LeavesNoMore m n) → left_in x words statics has_round p n ≤ left_in x words statics has_round p m
heap_matters Mark words statics has_round p m n h = (let k = h refl in let less = k.1.less k.0 has_round p.scanned_slots in omega (arith, less))
heap_matters _ words statics has_round p m n h = omega arith

-- where the new block is as large
pub heap_leaves : (c : MachineState) (n : Spaces) → n.new.words ≡ c.objects.spaces.new.words → (c.posts.posted_phase ≡ Mark → AreGreyThere c.objects.spaces × LeavesNoMore c.objects.spaces n) → left_with c n ≤ work_left c
heap_leaves c n same h =
    subst (λ w. left_in c.posts.posted_phase w (static_count c) c.posts.has_round c.progress n ≤ work_left c) (sym same)
    (heap_matters c.posts.posted_phase c.objects.spaces.new.words (static_count c) c.posts.has_round c.progress c.objects.spaces n h)

-- in Mark each grey object is there
pub grey_there : (c : MachineState) → IsSound c → c.posts.posted_phase ≡ Mark → AreGreyThere c.objects.spaces
grey_there c sound marking =
    All-weaker (λ a. is_marked_old c.objects.spaces a ≡ true) (λ a. is_old c.objects.spaces a ≡ true) (λ a dark. ap is_some (marked_cell c.objects.spaces a dark).1) c.objects.spaces.grey (sound.heap.marks marking).listed

-- and each thread is in a phase before there are copies
early_own : (own : Phase) → phase_after own ≡ Mark → is_before_copies own ≡ true
early_own Idle e = refl
early_own _ e = absurd cc

pub own_is_early : (h : Handshakes) → AreClose h → h.posted_phase ≡ Mark → (t : ℕ) → is_before_copies (own_phase h t) ≡ true
own_is_early h close marking t = by_seat (seat_of h t) refl
  where
    by_closeness : (s : Seat) → IsClose h s → is_before_copies s.phase ≡ true
    by_closeness s (inl now) = ap is_before_copies (now ∙ marking)
    by_closeness s (inr late) = early_own s.phase (late.0 ∙ marking)

    by_seat : (o : Option Seat) → seat_of h t ≡ o → is_before_copies (option_map_or (λ (s : Seat). s.phase) o Idle) ≡ true
    by_seat None none = refl
    by_seat (Some s) is = by_closeness s (close.phases t s is)

-- ---- acknowledgements

-- the marks of a thread leave each block as large
marks_large : (o : Objects) (x : Option Thread) → AreAsLarge o.spaces (with_thread_marked o x).spaces
marks_large o x = subst (λ (y : Objects). AreAsLarge o.spaces y.spaces) (sym (thread_marked o x)) (let uses = all_marked_uses (thread_values x) o in record { old = uses.old_words; new = uses.new_words })

-- so does an acknowledgement
pub acknowledgement_large : (c : MachineState) (t : ℕ) → AreAsLarge c.objects.spaces (with_acknowledgement c t).0.objects.spaces
acknowledgement_large c t =
    after_acknowledgement c t (λ d. AreAsLarge c.objects.spaces d.objects.spaces)
    (record {
      nothing = same;
      marks = λ seat here opened seen marking. marks_large c.objects (slice_get c.threads t);
      answers = λ seat here opened seen other. same;
      continues = λ seat here opened late later. same;
      flips = λ seat here opened late flip. same;
    })
  where
    same : AreAsLarge c.objects.spaces c.objects.spaces
    same = record { old = refl; new = refl }

-- and no more work
pub acknowledgement_leaves : (c : MachineState) (t : ℕ) → IsSound c → work_left (with_acknowledgement c t).0 ≤ work_left c
acknowledgement_leaves c t sound =
    after_acknowledgement c t (λ d. work_left d ≤ work_left c)
    (record {
      nothing = same;
      marks = λ seat here opened seen marking. marks_less;
      answers = λ seat here opened seen other. same;
      continues = λ seat here opened late later. same;
      flips = λ seat here opened late flip. same;
    })
  where
    same : work_left c ≤ work_left c
    same = omega arith

    marks_stay : LeavesNoMore c.objects.spaces (with_thread_marked c.objects (slice_get c.threads t)).spaces
    marks_stay = subst (λ (o : Objects). LeavesNoMore c.objects.spaces o.spaces) (sym (thread_marked c.objects (slice_get c.threads t))) (all_marks_stay (thread_values (slice_get c.threads t)) c.objects)

    marks_less : left_with c (with_thread_marked c.objects (slice_get c.threads t)).spaces ≤ work_left c
    marks_less = heap_leaves c (with_thread_marked c.objects (slice_get c.threads t)).spaces (marks_large c.objects (slice_get c.threads t)).new (λ is. (grey_there c sound is, marks_stay))
