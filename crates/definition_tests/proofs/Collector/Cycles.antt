-- What a user sees of the collector: room, the work of a cycle, the steps among events, and what is reachable.
use Rattle.std.proofs.Common.{◌≡◌, ◌<◌, Bool, true, false, List, [], ◌∷◌, ◌++◌, length, take, drop, Some, None, refl, sym, ap, ◌∙◌, arith, append_assoc, codes, lit<}
use Rattle.std.specs.Prelude.{not, ◌&&◌, ◌||◌}
use Rattle.cil_model.specs.declared.events.Event.{Event}
use Rattle.cil_model.specs.declared.events.Event.TheVariants.{Step, Ack, Gc}
use Rattle.cil_model.specs.declared.phases.Phase.TheVariants.{Idle, Mark, Allocate, Copy, PreFlip, HeapFlip, ThreadFlip, Reclaim}
use Rattle.cil_model.specs.declared.reports.Report.{Report}
use Rattle.cil_model.specs.declared.reports.Report.TheVariants.{Ran, Ended, Absent, Acked, NothingPosted, Worked, Waiting, CycleDone}
use Rattle.cil_model.specs.declared.reports.End.TheVariants.{Fault}
use Rattle.cil_model.specs.declared.reports.Fault.TheVariants.{OutOfMemory, TooManyThreads}
use Rattle.cil_model.specs.declared.types.Element.TheVariants.{Int32}
use Rattle.cil_model.specs.Declarations.{plain}
use Rattle.reference_machine.specs.Values.{Born}
use Rattle.reference_machine.specs.States.{Instance, Array, State}
use Rattle.reference_machine.specs.Cycles.{SpaceSizes, room, is_refused, most_working, working_in_cycle, is_cycle_open, begins_cycle, BeginsNewestCycle}
use Rattle.reference_machine.specs.Runs.{thread_part, step_reports}
use Rattle.reference_machine.specs.Reachable.{IsReachable, from_root, from_member}
use Rattle.reference_machine.specs.Rooms.{cell_words}
use Rattle.cil_model.specs.Ranges.{are_in_range}
use Rattle.cil_model.specs.Sources.{is_too_long}
use Rattle.cil_model.specs.Examples.{usual_limits, sum_source}
use Rattle.definition_tests.proofs.Samples.Tables.{Answers, PairAnswers}
use Rattle.definition_tests.proofs.Samples.Programs.{named}
use Rattle.definition_tests.proofs.Samples.FarmProgram.{farm, farm_state, idle_frame, animal_fields, dog, int, object}

-- ---- room: two spaces of 64 words, 40 of the old one and 20 of the new one in use

abbrev spaces : SpaceSizes
spaces = record { old = record { words = 64; used = 40 }; newer = Some (record { words = 64; used = 20 }) }

-- after a cycle, a thread that is still in its last phase births in the only space
abbrev after_cycle : SpaceSizes
after_cycle = record { old = record { words = 64; used = 4 }; newer = None }

room_by_phase : PairAnswers room (
    (codes "room in old", spaces, Mark, 24) ∷
    (codes "room in both", spaces, Allocate, 24) ∷
    (codes "room while copying", spaces, Copy, 24) ∷
    (codes "room before flip", spaces, PreFlip, 24) ∷
    (codes "room in heap flip", spaces, HeapFlip, 24) ∷
    (codes "room in thread flip", spaces, ThreadFlip, 44) ∷
    (codes "room in reclaim", spaces, Reclaim, 44) ∷
    (codes "room between cycles", after_cycle, Idle, 60) ∷
    (codes "room after cycle", after_cycle, Reclaim, 60) ∷
    [])
room_by_phase = refl

just_fits : is_refused after_cycle Reclaim 60 ≡ false
just_fits = refl

exceeds : is_refused after_cycle Reclaim 61 ≡ true
exceeds = refl

-- ---- the work of a cycle

abbrev gc : Report → Event × Report
gc r = (Gc, r)

abbrev ack : Report → Event × Report
ack r = (Ack 0, r)

abbrev ran : Event × Report
ran = (Step 0, Ran)

-- three steps, and a whole cycle of one thread without an object
abbrev whole_cycle : List (Event × Report)
whole_cycle =
    ran ∷ ran ∷ ran ∷ gc Worked ∷ ack Acked ∷ gc Worked ∷ gc Worked ∷ ack Acked ∷ gc Worked ∷ ack Acked ∷ gc Worked ∷ ack Acked ∷ gc Worked ∷ ack Acked ∷
    gc Worked ∷ ack Acked ∷ gc Worked ∷ ack Acked ∷ gc Worked ∷ ack Acked ∷ gc CycleDone ∷ []

work_of_cycles : Answers working_in_cycle (
    (codes "work of cycle", whole_cycle, 10) ∷
    (codes "waiting is no work", gc Worked ∷ gc Waiting ∷ gc Waiting ∷ ack Acked ∷ gc Worked ∷ [], 2) ∷
    (codes "next cycle begins anew", whole_cycle ++ gc Waiting ∷ ack Acked ∷ gc Worked ∷ [], 1) ∷
    [])
work_of_cycles = refl

open_cycles : Answers is_cycle_open (
    (codes "open cycle", ran ∷ gc Worked ∷ ran ∷ [], true) ∷
    (codes "closed cycle", whole_cycle, false) ∷
    (codes "no cycle yet", ran ∷ gc Waiting ∷ [], false) ∷
    [])
open_cycles = refl

bound : most_working 64 3 ≡ 1091
bound = refl

-- no later event of these begins a cycle, where some of them came before
abbrev none_begins : (earlier front later : List (Event × Report)) → Bool
none_begins earlier front [] = true
none_begins earlier front (e ∷ rest) = (is_cycle_open (earlier ++ (front ++ e ∷ [])) || not (begins_cycle rest)) && none_begins earlier (front ++ e ∷ []) rest

same_rest : (e f : Event × Report) (xs ys : List (Event × Report)) → e ∷ xs ≡ f ∷ ys → xs ≡ ys
same_rest e f xs ys h = cc

same_first : (e f : Event × Report) (xs ys : List (Event × Report)) → e ∷ xs ≡ f ∷ ys → e ≡ f
same_first e f xs ys h = cc

begins_none : (earlier front later : List (Event × Report)) → none_begins earlier front later ≡ true → (between rest : List (Event × Report)) → later ≡ between ++ rest →
    0 < length between → is_cycle_open (earlier ++ (front ++ between)) ≡ false → begins_cycle rest ≡ false
begins_none earlier front later h [] rest e some closed = absurd (omega (arith, some))
begins_none earlier front [] h (f ∷ fs) rest e some closed = absurd cc
begins_none earlier front (g ∷ later) h (f ∷ []) rest e some closed = by_first (is_cycle_open (earlier ++ (front ++ g ∷ []))) (begins_cycle rest) same h'
  where
    same : is_cycle_open (earlier ++ (front ++ g ∷ [])) ≡ false
    same = ap (λ x. is_cycle_open (earlier ++ (front ++ x ∷ []))) (same_first g f later rest e) ∙ closed

    h' : ((is_cycle_open (earlier ++ (front ++ g ∷ [])) || not (begins_cycle rest)) && none_begins earlier (front ++ g ∷ []) later) ≡ true
    h' = ap (λ r. (is_cycle_open (earlier ++ (front ++ g ∷ [])) || not (begins_cycle r)) && none_begins earlier (front ++ g ∷ []) later) (sym (same_rest g f later rest e)) ∙ h

    by_first : (opened begun : Bool) → opened ≡ false → ((opened || not begun) && none_begins earlier (front ++ g ∷ []) later) ≡ true → begun ≡ false
    by_first opened false o k = refl
    by_first false true o k = sym k
    by_first true true o k = cc
begins_none earlier front (g ∷ later) h (f ∷ x ∷ fs) rest e some closed =
    begins_none earlier (front ++ g ∷ []) later (second (is_cycle_open (earlier ++ (front ++ g ∷ [])) || not (begins_cycle later)) h) (x ∷ fs) rest (same_rest g f later (x ∷ fs ++ rest) e) (omega arith)
    (ap (λ l. is_cycle_open (earlier ++ l)) (append_assoc front (g ∷ []) (x ∷ fs) ∙ ap (λ y. front ++ y ∷ x ∷ fs) (same_first g f later (x ∷ fs ++ rest) e)) ∙ closed)
  where
    second : (a : Bool) {c : Bool} → (a && c) ≡ true → c ≡ true
    second true k = k
    second false k = cc

-- the three steps before it are no part of the newest cycle
newest_cycle : BeginsNewestCycle whole_cycle (take 3 whole_cycle) (drop 3 whole_cycle)
newest_cycle = record { whole = refl; none_was_open = refl; begins = refl; newest = begins_none (take 3 whole_cycle) [] (drop 3 whole_cycle) refl }

-- nor does it begin anew as more events follow its end
ended_cycle : BeginsNewestCycle (whole_cycle ++ ran ∷ gc Waiting ∷ []) (take 3 whole_cycle) (drop 3 whole_cycle ++ ran ∷ gc Waiting ∷ [])
ended_cycle = record { whole = refl; none_was_open = refl; begins = refl; newest = begins_none (take 3 whole_cycle) [] (drop 3 whole_cycle ++ ran ∷ gc Waiting ∷ []) refl }

-- ---- the steps among events

steps_among_events : Answers thread_part (
    (codes "steps alone", ran ∷ gc Worked ∷ ack Acked ∷ (Step 3, Absent) ∷ [], (0, false) ∷ (3, false) ∷ []) ∷
    (codes "refused birth", (Step 1, Ended (Fault OutOfMemory)) ∷ [], (1, true) ∷ []) ∷
    (codes "no birth was due", (Step 1, Ended (Fault TooManyThreads)) ∷ [], (1, false) ∷ []) ∷
    [])
steps_among_events = refl

reports_of_steps : step_reports (ran ∷ gc Worked ∷ ack NothingPosted ∷ (Step 3, Absent) ∷ []) ≡ Ran ∷ Absent ∷ []
reports_of_steps = refl

-- ---- what is reachable, and the words of cells

words_of_cells : Answers (cell_words farm) (
    (codes "cell of dog", Instance dog animal_fields, 6) ∷
    (codes "cell of thread", Instance (named (codes "T")) [], 4) ∷
    (codes "cell of array", Array (plain Int32) (int 1 ∷ int 2 ∷ []), 5) ∷
    [])
words_of_cells = refl

-- thread 0 holds the `Dog[]`, whose second element is the Dog
abbrev held : State
held = record farm_state { threads = record { frames = record idle_frame { stack = object 2 ∷ [] } ∷ []; steps_left = 9; ended = None } ∷ [] }

array_is_reachable : IsReachable held (Born 2)
array_is_reachable = from_root (Born 2) (3, lit< tt, refl)

dog_is_reachable : IsReachable held (Born 0)
dog_is_reachable = from_member (Born 2) (Born 0) array_is_reachable (1, lit< tt, refl)

-- ---- limits

limits_in_range : Answers are_in_range (
    (codes "usual in range", usual_limits, true) ∷
    (codes "no budget", record usual_limits { budget = 0 }, false) ∷
    (codes "largest", record { words = 1048576; max_words = 1048576; budget = 1000000; depth = 256 }, true) ∷
    (codes "too few words", record usual_limits { words = 63 }, false) ∷
    (codes "too deep", record usual_limits { depth = 257 }, false) ∷
    [])
limits_in_range = refl

short_enough : is_too_long sum_source ≡ false
short_enough = refl
