-- What the frames of live threads and the static fields of a machine reach, by addresses (this profile).
use Rattle.std.specs.Prelude.{◌≡◌, ℕ, true, Some, slice_get}
use Rattle.interpreter.specs.object_memory.declared.addresses.Addr.{Addr}
use Rattle.interpreter.specs.object_memory.declared.values.Value.TheVariants.{Ref}
use Rattle.interpreter.specs.object_memory.Cells.{Cell}
use Rattle.interpreter.specs.object_memory.Objects.{object_cell}
use Rattle.interpreter.specs.threads_monitors.Frames.{Frames}
use Rattle.interpreter.specs.threads_monitors.Roots.{roots}
use Rattle.interpreter.specs.threads_monitors.declared.threads.ThreadStatus.TheVariants.{Live}
use Rattle.collector.specs.References.{holds_reference, reference_in}
use Rattle.collector.specs.Soundness.{IsListed}
use Rattle.simulation.specs.MachineStates.{MachineState}

-- a reference that a live thread's frames or a static field hold, or the slot of an object that is reached
pub data IsReached (c : MachineState) : Addr → Type 0 where
  from_frame : (t left : ℕ) (m : Frames) (a : Addr) → slice_get c.threads t ≡ Some (record { thread_status = Live m; steps_left = left }) → IsListed (roots m) a → IsReached c a
  from_static : (number : ℕ) (a : Addr) → slice_get c.statics number ≡ Some (Ref a) → IsReached c a
  from_slot : (a : Addr) (cell : Cell) (slot word : ℕ) → IsReached c a → object_cell c.objects a ≡ Some cell → slice_get cell.slots slot ≡ Some word → holds_reference c.tree cell.kind slot ≡ true → IsReached c (reference_in word)
