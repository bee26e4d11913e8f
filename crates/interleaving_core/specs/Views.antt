-- What callers see of a machine, and what it keeps true.
use Rattle.std.specs.Prelude.{◌≡◌, ◌<◌, ◌≤◌, ◌^◌, ℕ, IsTrue, List, length, Option, Some, option_and_then, option_map, slice_get}
use Rattle.cil_model.specs.declared.limits.TheConstants.{MOST_THREADS}
use Rattle.cil_model.specs.declared.phases.Phase.{Phase}
use Rattle.cil_model.specs.declared.reports.End.{End}
use Rattle.cil_model.specs.Ranges.{are_in_range}
use Rattle.reference_machine.specs.States.{State}
use Rattle.phase_handshake.specs.Handshakes.{Handshakes, seat_of}
use Rattle.phase_handshake.specs.declared.posts.Seat.{Seat}
use Rattle.threads_monitors.specs.Frames.{Frames}
use Rattle.threads_monitors.specs.Threads.{end_of}
use Rattle.threads_monitors.specs.declared.threads.ThreadStatus.TheVariants.{Live}
use Rattle.threads_monitors.specs.declared.threads.Thread.{Thread}
use Rattle.simulation.specs.interpreter.Instructions.{IsDone, Answer}
use Rattle.simulation.specs.MachineStates.{MachineState, mutator_of}
use Rattle.simulation.specs.Refines.{Represents}
use Rattle.simulation.specs.Sound.{IsSound}
use Rattle.simulation.specs.ReadySteps.{IsReady, IsAnswerable}
use Rattle.interleaving_core.specs.declared.engine.Engine.{Engine}

-- the machine state of an engine
abbrev pub machine_state_of : Engine → MachineState
machine_state_of e = record { tree = e.program; limits = e.limits; threads = e.threads.items; posts = e.posts; progress = e.progress; objects = e.store.heap; statics = e.store.statics.items; printed = e.store.console.items }

-- the machine state is sound, each live thread is ready, and what its instruction asks of other threads can be answered
pub record CanContinue (e : Engine) : Type 0 where
  pub limits : IsTrue (are_in_range e.limits)
  pub machine_state : IsSound (machine_state_of e)
  pub statics : length e.store.statics.items < 2 ^ 32
  pub ready : (t left : ℕ) (m : Frames) → slice_get e.threads.items t ≡ Some (record { thread_status = Live m; steps_left = left }) → IsReady (machine_state_of e) t m
  pub answerable : (t left : ℕ) (m : Frames) → slice_get e.threads.items t ≡ Some (record { thread_status = Live m; steps_left = left }) → (a : Answer) →
      IsDone e.program (mutator_of (machine_state_of e) t) m e.store.heap e.store.statics.items e.store.console.items a → IsAnswerable (machine_state_of e) t left a a.outcome

-- how the thread of a number ended; none where it is live or was never started
abbrev pub end_at : List Thread → ℕ → Option End
end_at threads n = option_and_then end_of (slice_get threads n)

-- there are no more threads than there may be, and the machine state represents a state of the reference machine
pub record IsSoundEngine (e : Engine) : Type 0 where
  pub state : State
  pub represents : Represents (machine_state_of e) state
  pub few : length e.threads.items ≤ MOST_THREADS

-- the phase that a live thread has acknowledged; none where it has ended or was never started
abbrev pub phase_at : Handshakes → ℕ → Option Phase
phase_at h n = option_map (λ (s : Seat). s.phase) (seat_of h n)
