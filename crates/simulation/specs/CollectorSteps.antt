-- What an event of the collector does, by the phase that is posted, and what an acknowledgement does (Hudson and Moss, "Sapphire"; the rounds and the
-- finest steps are this profile's).
use Rattle.std.specs.Prelude.{ℕ, not, ◌&&◌, if◌then◌else◌, Bool, true, false, List, [], ◌∷◌, Option, slice_get, slice_set}
use Rattle.std.specs.Option.{option_map_or}
use Rattle.interpreter.specs.cil_model.declared.phases.Phase.{Phase}
use Rattle.interpreter.specs.cil_model.declared.phases.Phase.TheVariants.{Idle, Mark, Allocate, Copy, PreFlip, HeapFlip, ThreadFlip, Reclaim}
use Rattle.interpreter.specs.cil_model.declared.reports.Report.{Report}
use Rattle.interpreter.specs.cil_model.declared.reports.Report.TheVariants.{Absent, Acked, CycleDone, NothingPosted, Waiting, Worked}
use Rattle.interpreter.specs.object_memory.declared.addresses.Addr.{Addr}
use Rattle.interpreter.specs.object_memory.declared.values.Value.{Value}
use Rattle.interpreter.specs.object_memory.declared.values.Value.TheVariants.{Ref}
use Rattle.interpreter.specs.reference_machine.Cycles.{next_words}
use Rattle.interpreter.specs.object_memory.Cells.{used_words}
use Rattle.interpreter.specs.object_memory.Objects.{Objects}
use Rattle.interpreter.specs.object_memory.Spaces.{forward, open_cycle}
use Rattle.interpreter.specs.instructions.barriers.Barriers.{with_marked}
use Rattle.collector.specs.Phases.{no_progress}
use Rattle.collector.specs.MarkSteps.{is_closed, next_mark_step, statics_scanned}
use Rattle.collector.specs.CopySteps.{next_copy_step, next_shell_step}
use Rattle.collector.specs.Flips.{next_clear_step, next_flip_step, retire_old}
use Rattle.collector.specs.Holds.{is_marking}
use Rattle.collector.specs.declared.progress.Progress.{Progress}
use Rattle.collector.specs.phase_handshake.Handshakes.{acknowledge_phase, all_answered, all_seen, is_open, is_phase, posted_next, posted_round, seat_of}
use Rattle.collector.specs.phase_handshake.declared.posts.Seat.{Seat}
use Rattle.interpreter.specs.threads_monitors.Roots.{roots, with_references}
use Rattle.interpreter.specs.threads_monitors.Threads.{is_live_at}
use Rattle.interpreter.specs.threads_monitors.declared.threads.ThreadStatus.{ThreadStatus}
use Rattle.interpreter.specs.threads_monitors.declared.threads.ThreadStatus.TheVariants.{Live, Ended}
use Rattle.interpreter.specs.threads_monitors.declared.threads.Thread.{Thread}
use Rattle.simulation.specs.MachineStates.{MachineState}

-- ---- posts

-- the next phase, of which the collector has done nothing
abbrev pub with_next_phase : MachineState → MachineState
with_next_phase c = record c { posts = posted_next c.posts; progress = no_progress }

-- it is posted
abbrev pub next_posted : MachineState → MachineState × Report
next_posted c = (with_next_phase c, Worked)

-- the words of the block that a cycle opens with
abbrev pub initial_words : MachineState → ℕ
initial_words c = next_words c.objects.spaces.old.words (used_words c.objects.spaces.old.cells) c.limits.max_words

-- a cycle opens, with a second block of initial_words words
abbrev pub cycle_opened : MachineState → MachineState
cycle_opened c = record (with_next_phase c) { objects = record c.objects { spaces = open_cycle c.objects.spaces (initial_words c) } }

-- ---- work

-- a step of the work of a phase, or the next phase where none is left
abbrev pub do_work : MachineState → Progress × Objects × Bool → MachineState × Report
do_work c (p, o, true) = (record c { progress = p; objects = o }, Worked)
do_work c (p, o, false) = next_posted c

-- a static field is flipped, or the next phase is posted where none is left
abbrev pub flip_values : MachineState → Progress × List Value × Bool → MachineState × Report
flip_values c (p, statics, true) = (record c { progress = p; statics = statics }, Worked)
flip_values c (p, statics, false) = next_posted c

-- a cycle ends with the new block alone
abbrev pub cycle_ended : MachineState → MachineState
cycle_ended c = record (with_next_phase c) { objects = retire_old c.objects }

-- a new object is cleared, or the cycle ends where none is left
abbrev pub clear_object : MachineState → Progress × Objects × Bool → MachineState × Report
clear_object c (p, o, true) = (record c { progress = p; objects = o }, Worked)
clear_object c (p, o, false) = (cycle_ended c, CycleDone)

-- a round begins: nobody has answered it, and nothing was marked since
abbrev pub round_posted : MachineState → MachineState
round_posted c = record c { posts = posted_round c.posts; objects = record c.objects { spaces = record c.objects.spaces { has_marked = false } } }

-- Nothing is grey: marking is closed, a round waits for its acknowledgements, or the next one is posted.
abbrev pub rounds : MachineState → MachineState × Report
rounds c =
    if is_closed c.progress c.objects c.posts then next_posted c
    else if c.posts.has_round && not (all_answered c.posts) then (c, Waiting)
    else (round_posted c, Worked)

abbrev pub mark_object : MachineState → Progress × Objects × Bool → MachineState × Report
mark_object c (p, o, true) = (record c { progress = p; objects = o }, Worked)
mark_object c (p, o, false) = rounds c

-- the static fields are scanned first
abbrev pub mark_work : MachineState → MachineState × Report
mark_work c =
    if c.progress.scanned_statics then mark_object c (next_mark_step c.tree c.progress c.objects)
    else (record c { progress = (statics_scanned c.progress c.objects c.statics).0; objects = (statics_scanned c.progress c.objects c.statics).1 }, Worked)

abbrev pub work : Phase → MachineState → MachineState × Report
work Idle c = (cycle_opened c, Worked)
work Mark c = mark_work c
work Allocate c = do_work c (next_shell_step c.progress c.objects)
work Copy c = do_work c (next_copy_step c.tree c.progress c.objects)
work PreFlip c = next_posted c
work HeapFlip c = flip_values c (next_flip_step c.progress c.objects c.statics)
work ThreadFlip c = next_posted c
work Reclaim c = clear_object c (next_clear_step c.progress c.objects)

-- a phase's work begins once all live threads have acknowledged it
abbrev pub collect : MachineState → MachineState × Report
collect c = if all_seen c.posts then work c.posts.posted_phase c else (c, Waiting)

-- ---- acknowledgements

-- the objects once all that some references refer to is marked
abbrev pub with_roots_marked : Objects → List Addr → Objects
with_roots_marked o [] = o
with_roots_marked o (a ∷ rest) = with_roots_marked (with_marked o (Ref a)) rest

-- those of a live thread
abbrev pub with_status_marked : Objects → ThreadStatus → Objects
with_status_marked o (Live m) = with_roots_marked o (roots m)
with_status_marked o (Ended e) = o

abbrev pub with_thread_marked : Objects → Option Thread → Objects
with_thread_marked o thread = option_map_or (λ (x : Thread). with_status_marked o x.thread_status) thread o

-- a thread that acknowledges a round of Mark has all marked that its frames hold
abbrev pub answers_round : MachineState → ℕ → Bool
answers_round c t = is_open c.posts t && (is_marking c.posts.posted_phase && option_map_or (λ (s : Seat). is_phase s.phase c.posts.posted_phase) (seat_of c.posts t) false)

abbrev pub objects_after : MachineState → ℕ → Objects
objects_after c t = if answers_round c t then with_thread_marked c.objects (slice_get c.threads t) else c.objects

-- a thread that acknowledges ThreadFlip has the forward of each reference in its frames
abbrev pub status_flipped : Objects → ThreadStatus → ThreadStatus
status_flipped o (Live m) = Live (with_references (forward o.spaces) m)
status_flipped o (Ended e) = Ended e

abbrev pub thread_flipped : Objects → Thread → Thread
thread_flipped o x = record x { thread_status = status_flipped o x.thread_status }

abbrev pub with_flipped : Objects → List Thread → ℕ → Option Thread → List Thread
with_flipped o threads t thread = option_map_or (λ (x : Thread). slice_set threads t (thread_flipped o x)) thread threads

abbrev pub flips_frames : MachineState → ℕ → Bool
flips_frames c t = is_phase c.posts.posted_phase ThreadFlip && option_map_or (λ (s : Seat). not (is_phase s.phase c.posts.posted_phase)) (seat_of c.posts t) false

abbrev pub threads_after : MachineState → ℕ → List Thread
threads_after c t = if flips_frames c t then with_flipped c.objects c.threads t (slice_get c.threads t) else c.threads

-- what it reports
abbrev pub acknowledgement : MachineState → ℕ → Report
acknowledgement c t = if is_open c.posts t then Acked else if is_live_at c.threads t then NothingPosted else Absent

-- the phase is acknowledged, or else the round answered
abbrev pub with_acknowledgement : MachineState → ℕ → MachineState × Report
with_acknowledgement c t = (record c { threads = threads_after c t; posts = acknowledge_phase c.posts t; objects = objects_after c t }, acknowledgement c t)
