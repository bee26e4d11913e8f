-- What a machine does on each event (this profile). Each machine is proved to do exactly this.
use Rattle.std.specs.Prelude.{◌≡◌, ◌⊎◌, ◌<◌, ℕ, ◌+◌, true, false, List, [], ◌∷◌, map, length, drop, Option, Some, None, option_map, option_and_then, slice_get, slice_set}
use Rattle.std.specs.Option.{option_map_or}
use Rattle.interpreter.specs.cil_model.declared.types.ClassName.{ClassName}
use Rattle.interpreter.specs.cil_model.declared.types.DeclaredType.{DeclaredType}
use Rattle.interpreter.specs.cil_model.declared.trees.Tree.{Tree}
use Rattle.interpreter.specs.cil_model.declared.trees.Method.{Method}
use Rattle.interpreter.specs.cil_model.declared.limits.Limits.{Limits}
use Rattle.interpreter.specs.cil_model.declared.events.Event.{Event}
use Rattle.interpreter.specs.cil_model.declared.events.Event.TheVariants.{Step, Ack, Gc}
use Rattle.interpreter.specs.cil_model.declared.phases.Phase.{Phase}
use Rattle.interpreter.specs.cil_model.declared.reports.Report.{Report}
use Rattle.interpreter.specs.cil_model.declared.reports.Report.TheVariants.{Absent, Ended as HasEnded}
use Rattle.interpreter.specs.cil_model.Bodies.{entry_points}
use Rattle.interpreter.specs.cil_model.Fields.{FieldKey, static_fields}
use Rattle.interpreter.specs.cil_model.Mentions.{literals_of}
use Rattle.collector.specs.phase_handshake.Handshakes.{Handshakes, first_handshakes, join_thread, leave_handshakes as without_seat}
use Rattle.collector.specs.Phases.{no_progress}
use Rattle.interpreter.specs.name_tables.declared.ids.MethodId.{MethodId}
use Rattle.interpreter.specs.name_tables.declared.ids.TheConstants.{THREAD_NUMBER}
use Rattle.interpreter.specs.object_memory.declared.addresses.Addr.{Addr}
use Rattle.interpreter.specs.object_memory.declared.values.Value.{Value}
use Rattle.interpreter.specs.object_memory.declared.values.Value.TheVariants.{Ref}
use Rattle.interpreter.specs.object_memory.Objects.{Objects, no_objects}
use Rattle.interpreter.specs.loaded_program.MethodNumbers.{number_of}
use Rattle.interpreter.specs.cil_model.ValueKinds.{kind_of_type}
use Rattle.interpreter.specs.loaded_program.LocalKinds.{local_kinds}
use Rattle.interpreter.specs.threads_monitors.Frames.{Frames, new_frame, with_pc, with_stack, zero_value}
use Rattle.interpreter.specs.threads_monitors.Threads.{join_effect, charge, start_fault, with_start}
use Rattle.interpreter.specs.threads_monitors.declared.effects.Effect.{Effect}
use Rattle.interpreter.specs.threads_monitors.declared.effects.Effect.TheVariants.{Continues, Returns, Blocks, Raises}
use Rattle.interpreter.specs.threads_monitors.declared.threads.ThreadStatus.{ThreadStatus}
use Rattle.interpreter.specs.threads_monitors.declared.threads.ThreadStatus.TheVariants.{Live, Ended}
use Rattle.interpreter.specs.threads_monitors.declared.threads.Thread.{Thread}
use Rattle.interpreter.specs.Calls.{chosen_at}
use Rattle.interpreter.specs.Instructions.{IsDone, Answer}
use Rattle.interpreter.specs.declared.outcomes.InstructionOutcome.{InstructionOutcome}
use Rattle.interpreter.specs.declared.outcomes.InstructionOutcome.TheVariants.{OwnEffect, Starts, Joins}
use Rattle.simulation.specs.MachineStates.{MachineState, frame_room, mutator_of}
use Rattle.simulation.specs.CollectorSteps.{collect, with_acknowledgement}

-- ---- the beginning

-- a thread at the beginning of a method, which has this number, with its whole budget
abbrev pub thread_at : Limits → ClassName × Method → List Value → ℕ → Thread
thread_at limits found arguments n =
    record { thread_status = Live (record { running = new_frame n arguments (local_kinds found.1) None; below = []; depth = limits.depth; room = frame_room }); steps_left = limits.budget }

-- thread 0 is at the beginning of a method, nothing was born or printed, and each static field is 0 or null
abbrev pub machine_state_at : Tree → Limits → ClassName × Method → ℕ → MachineState
machine_state_at tree limits entry n = record {
  tree = tree;
  limits = limits;
  threads = thread_at limits entry [] n ∷ [];
  posts = first_handshakes;
  progress = no_progress;
  objects = no_objects limits.words (length (literals_of tree));
  statics = map (λ (f : FieldKey × DeclaredType). zero_value (kind_of_type f.1)) (static_fields tree);
  printed = [];
}

-- what a machine holds before its first event: its thread is at the entry point
abbrev pub initial_machine_state : Tree → Limits → Option MachineState
initial_machine_state tree limits = option_and_then (λ (entry : ClassName × Method). option_map (machine_state_at tree limits entry) (number_of tree entry)) (slice_get (entry_points tree) 0)

-- ---- what an instruction asks of other threads

-- once it is done its operand is gone, and the thread is at the next instruction; until then all stays
abbrev pub after_request : Effect → Frames → Frames
after_request Continues m = with_pc (with_stack m (drop 1 m.running.stack)) (m.running.pc + 1)
after_request Returns m = m
after_request Blocks m = m
after_request (Raises x) m = m

-- Cilvm.Thread's Run by number: the second method of its class
abbrev pub run_member : MethodId
run_member = record { class = THREAD_NUMBER; index = 1 }

-- the thread that begins where one is started on an object: at its Run
abbrev pub thread_for : Tree → Limits → Objects → Addr → Option Thread
thread_for tree limits o a = option_and_then (λ (found : ClassName × Method). option_map (thread_at limits found (Ref a ∷ [])) (number_of tree found)) (chosen_at tree o a run_member)

-- the threads and objects after a start by a thread in this phase, or why there is none
abbrev pub start_thread : Phase → Tree → Limits → List Thread → Objects → Addr → Option (List Thread × Objects × Effect)
start_thread phase tree limits threads o a =
    option_map_or (λ x. Some (threads, o, Raises x)) (start_fault threads o a) (option_map (with_start phase threads o a) (thread_for tree limits o a))

-- ---- a step

-- a live thread with this number of steps left
abbrev pub live_thread : ℕ → Frames → Thread
live_thread leave_handshakes m = record { thread_status = Live m; steps_left = leave_handshakes }

-- the seats once the step of a thread has this report: one that has ended has none
abbrev pub seats_after : Handshakes → ℕ → Report → Handshakes
seats_after h t (HasEnded e) = without_seat h t
seats_after h t _ = h

-- the seats once a thread was asked to start: one that begins has its starter's
abbrev pub seat_thread : Effect → Handshakes → (thread starter : ℕ) → Handshakes
seat_thread Continues h thread starter = join_thread h thread starter
seat_thread Returns h thread starter = h
seat_thread Blocks h thread starter = h
seat_thread (Raises x) h thread starter = h

-- the thread's frames and the machine state beside them, once the step is counted
abbrev pub count_step : MachineState → ℕ → ℕ → Effect → Frames → MachineState × Report
count_step c t leave_handshakes effect m = (
  record c { threads = slice_set c.threads t (charge effect (live_thread leave_handshakes m)).0; posts = seats_after c.posts t (charge effect (live_thread leave_handshakes m)).1 },
  (charge effect (live_thread leave_handshakes m)).1,
)

-- and once what the thread asked of another one was answered by this effect
abbrev pub answer_step : MachineState → ℕ → ℕ → Frames → Effect → MachineState × Report
answer_step c t leave_handshakes m effect = count_step c t leave_handshakes effect (after_request effect m)

-- the machine state with all that an instruction of a thread left, before the step is counted
abbrev pub left_by : MachineState → ℕ → ℕ → Answer → MachineState
left_by c t leave_handshakes a = record c { threads = slice_set c.threads t (live_thread leave_handshakes a.frames); objects = a.objects; statics = a.statics; printed = a.printed }

-- the machine state once the step of a thread with these frames is counted, by the outcome of its instruction
abbrev pub finish : MachineState → ℕ → ℕ → Frames → InstructionOutcome → Option (MachineState × Report)
finish c t leave_handshakes m (OwnEffect e) = Some (count_step c t leave_handshakes e m)
finish c t leave_handshakes m (Starts object) =
    option_map (λ (x : List Thread × Objects × Effect). answer_step (record c { threads = x.0; posts = seat_thread x.2 c.posts (length c.threads) t; objects = x.1 }) t leave_handshakes m x.2) (start_thread (mutator_of c t).phase c.tree c.limits c.threads c.objects object)
finish c t leave_handshakes m (Joins object) = Some (answer_step c t leave_handshakes m (join_effect c.threads c.objects object))

-- the step of a thread that had this number of steps left: its instruction, and then the outcome of that
abbrev pub finish_step : MachineState → ℕ → ℕ → Answer → InstructionOutcome → Option (MachineState × Report)
finish_step c t leave_handshakes a outcome = finish (left_by c t leave_handshakes a) t leave_handshakes a.frames outcome

-- a live thread does its next instruction; one that has ended is absent
abbrev pub IsStatusTransition : MachineState → ℕ → ℕ → ThreadStatus → MachineState × Report → Type 0
IsStatusTransition c t leave_handshakes (Live m) after = (a : Answer) × IsDone c.tree (mutator_of c t) m c.objects c.statics c.printed a × (finish_step c t leave_handshakes a a.outcome ≡ Some after)
IsStatusTransition c t leave_handshakes (Ended e) after = after ≡ (c, Absent)

-- so is one that was never started
abbrev pub IsThreadTransition : MachineState → ℕ → Option Thread → MachineState × Report → Type 0
IsThreadTransition c t None after = after ≡ (c, Absent)
IsThreadTransition c t (Some thread) after = IsStatusTransition c t thread.steps_left thread.thread_status after

-- what an event does
abbrev pub IsTransition : MachineState → Event → MachineState × Report → Type 0
IsTransition c (Step t) after = IsThreadTransition c t (slice_get c.threads t) after
IsTransition c (Ack t) after = after ≡ with_acknowledgement c t
IsTransition c Gc after = after ≡ collect c

-- a cycle is open in the second that wasn't in the first
abbrev pub OpensCycle : MachineState → MachineState → Type 0
OpensCycle c d = (c.objects.spaces.is_open ≡ false) × (d.objects.spaces.is_open ≡ true)

-- the event prints, starts a thread or opens a cycle: what was printed, or the threads, are more after its transition, or a cycle is open that wasn't
-- before
abbrev pub TakesMemory : MachineState → Event → Type 0
TakesMemory c e = (after : MachineState × Report) × IsTransition c e after × ((length c.printed < length after.0.printed) ⊎ ((length c.threads < length after.0.threads) ⊎ OpensCycle c after.0))
