-- What is always true of what a machine with a collector holds: of posts and seats, of the heap, and of what threads and static fields hold (Hudson and
-- Moss, "Sapphire"; this profile). It speaks of no object of the reference machine.
use Rattle.std.specs.Prelude.{◌≡◌, ℕ, true, List, Some, is_some, slice_get}
use Rattle.interpreter.specs.cil_model.declared.phases.Phase.TheVariants.{Mark}
use Rattle.interpreter.specs.object_memory.declared.addresses.Addr.{Addr}
use Rattle.interpreter.specs.object_memory.declared.values.Value.{Value}
use Rattle.collector.specs.References.{ValuePasses}
use Rattle.collector.specs.Soundness.{IsListed, IsSoundHeap}
use Rattle.collector.specs.Holds.{IsOnTime, may_hold, static_may_hold}
use Rattle.collector.specs.phase_handshake.Handshakes.{AreClose, Handshakes, seat_of}
use Rattle.collector.specs.phase_handshake.declared.posts.Seat.{Seat}
use Rattle.interpreter.specs.threads_monitors.Frames.{Frames}
use Rattle.interpreter.specs.threads_monitors.Roots.{roots}
use Rattle.interpreter.specs.threads_monitors.Threads.{is_live_at}
use Rattle.interpreter.specs.threads_monitors.declared.threads.ThreadStatus.TheVariants.{Live}
use Rattle.interpreter.specs.threads_monitors.declared.threads.Thread.{Thread}
use Rattle.simulation.specs.MachineStates.{MachineState}

-- ---- posts and seats

-- the live threads have the seats, each close to what is posted
pub record AreSeated (h : Handshakes) (threads : List Thread) : Type 0 where
  pub close : AreClose h
  pub live : (t : ℕ) → is_live_at threads t ≡ is_some (seat_of h t)

-- ---- the whole

-- Posts and seats fit the threads; the heap is sound; rounds come after the static fields were scanned; the collector waits for each thread that is
-- late; and threads and static fields hold what they may.
pub record IsSound (c : MachineState) : Type 0 where
  pub seated : AreSeated c.posts c.threads
  pub heap : IsSoundHeap c.tree c.posts.posted_phase c.posts.has_round c.limits.max_words c.progress c.objects.spaces
  pub rounds : c.posts.posted_phase ≡ Mark → c.posts.has_round ≡ true → c.progress.scanned_statics ≡ true
  pub on_time : (t : ℕ) (seat : Seat) → seat_of c.posts t ≡ Some seat → IsOnTime seat.phase c.posts.posted_phase c.posts.has_round c.progress c.objects.spaces
  pub threads : (t left : ℕ) (fs : Frames) (seat : Seat) → slice_get c.threads t ≡ Some (record { thread_status = Live fs; steps_left = left }) → seat_of c.posts t ≡ Some seat →
      (a : Addr) → IsListed (roots fs) a → may_hold c.posts c.objects.spaces seat a ≡ true
  pub statics : (number : ℕ) (v : Value) → slice_get c.statics number ≡ Some v → ValuePasses (static_may_hold c.posts.posted_phase c.objects.spaces c.progress number) v
