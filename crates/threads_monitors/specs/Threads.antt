-- Threads: what a step takes from a budget, and how threads start, wait for one another and end (this profile).
use Rattle.std.specs.Prelude.{ℕ, zero, suc, ◌+◌, ◌-◌, ◌==◌, nat_le, if◌then◌else◌, Bool, false, is_none, is_some, List, [], ◌∷◌, ◌++◌, length, Option, Some, None, slice_get, slice_index}
use Rattle.std.specs.Option.{option_map_or}
use Rattle.cil_model.specs.declared.limits.TheConstants.{MOST_THREADS}
use Rattle.cil_model.specs.declared.phases.Phase.{Phase}
use Rattle.cil_model.specs.declared.reports.End.{End}
use Rattle.cil_model.specs.declared.reports.End.TheVariants.{Done, Budget, Fault as ByFault}
use Rattle.cil_model.specs.declared.reports.Fault.{Fault}
use Rattle.cil_model.specs.declared.reports.Fault.TheVariants.{NullReference, ThreadState, TooManyThreads}
use Rattle.cil_model.specs.declared.reports.Report.{Report}
use Rattle.cil_model.specs.declared.reports.Report.TheVariants.{Ran, Blocked, Ended as HasEnded, Absent}
use Rattle.object_memory.specs.declared.addresses.Addr.{Addr}
use Rattle.object_memory.specs.declared.values.Value.{Value}
use Rattle.object_memory.specs.Objects.{Objects, object_slots}
use Rattle.barriers.specs.Barriers.{stored_int}
use Rattle.threads_monitors.specs.Frames.{Frames, new_frame}
use Rattle.threads_monitors.specs.declared.effects.Effect.{Effect}
use Rattle.threads_monitors.specs.declared.effects.Effect.TheVariants.{Continues, Returns, Blocks, Raises}
use Rattle.threads_monitors.specs.declared.threads.ThreadStatus.{ThreadStatus}
use Rattle.threads_monitors.specs.declared.threads.ThreadStatus.TheVariants.{Live, Ended}
use Rattle.threads_monitors.specs.declared.threads.Thread.{Thread}
use Rattle.threads_monitors.specs.declared.threads.ThreadStart.{ThreadStart}

-- how a thread that stands so ended; none while it is live
abbrev pub end_in : ThreadStatus → Option End
end_in (Live frames) = None
end_in (Ended e) = Some e

abbrev pub end_of : Thread → Option End
end_of t = end_in t.thread_status

abbrev pub is_live : Thread → Bool
is_live t = is_none (end_of t)

-- whether the thread of a number was started and has not ended
abbrev pub is_live_at : List Thread → ℕ → Bool
is_live_at threads n = option_map_or is_live (slice_get threads n) false

-- at the beginning of its first method, with these arguments and its whole budget
abbrev pub new_thread : ThreadStart → List Value → Thread
new_thread b arguments = record {
  thread_status = Live (record { running = new_frame b.method arguments b.locals.now None; below = []; depth = b.depth; room = b.room });
  steps_left = b.budget;
}

-- ---- steps and their budget

-- A fault and the return of the first method end a thread; else the last step of its budget does.
abbrev pub end_after : Effect → ℕ → Option End
end_after Returns left = Some Done
end_after (Raises f) left = Some (ByFault f)
end_after Continues left = if left == 0 then Some Budget else None
end_after Blocks left = if left == 0 then Some Budget else None

-- the report of a step after which the thread is live
abbrev pub report_of : Effect → Report
report_of Blocks = Blocked
report_of Continues = Ran
report_of Returns = Ran
report_of (Raises f) = Ran

-- the thread after its step, with this number of steps left, and the report: an ended one has no frames
abbrev pub status_after : Option End → Frames → ℕ → Effect → Thread × Report
status_after None frames left effect = (record { thread_status = Live frames; steps_left = left }, report_of effect)
status_after (Some e) frames left effect = (record { thread_status = Ended e; steps_left = left }, HasEnded e)

-- each step of a live thread takes one from its budget, a blocked one too; one that has ended is absent
abbrev pub step_charged_in : Effect → ThreadStatus → ℕ → Thread × Report
step_charged_in effect (Live frames) left = status_after (end_after effect (left - 1)) frames (left - 1) effect
step_charged_in effect (Ended e) left = (record { thread_status = Ended e; steps_left = left }, Absent)

abbrev pub charge : Effect → Thread → Thread × Report
charge effect t = step_charged_in effect t.thread_status t.steps_left

-- ---- starting and joining

-- the thread that a hidden field identifies: its number plus one, or 0
abbrev pub thread_decoded : ℕ → Option ℕ
thread_decoded zero = None
thread_decoded (suc n) = Some n

-- the thread that was started on an object, which the first of its slots identifies
abbrev pub thread_on : Objects → Addr → Option ℕ
thread_on o a = thread_decoded (slice_index (object_slots o a) 0)

-- why no thread can be started on an object, in the order of the checks; none where one can
abbrev pub start_fault : List Thread → Objects → Addr → Option Fault
start_fault threads o a =
    if a.number == 0 then Some NullReference
    else if is_some (thread_on o a) then Some ThreadState
    else if nat_le MOST_THREADS (length threads) then Some TooManyThreads
    else None

-- the threads and objects after a start of this thread by one in this phase: it has the next number, which its object holds
abbrev pub with_start : Phase → List Thread → Objects → Addr → Thread → List Thread × Objects × Effect
with_start phase threads o a thread =
    option_map_or (λ f. (threads, o, Raises f)) (start_fault threads o a) (threads ++ thread ∷ [], stored_int phase o a 0 (length threads + 1), Continues)

-- a thread that is live is waited for, the joining one itself too
abbrev pub wait_for : List Thread → Option ℕ → Effect
wait_for threads None = Raises ThreadState
wait_for threads (Some n) = if is_live_at threads n then Blocks else Continues

abbrev pub join_effect : List Thread → Objects → Addr → Effect
join_effect threads o a = if a.number == 0 then Raises NullReference else wait_for threads (thread_on o a)
