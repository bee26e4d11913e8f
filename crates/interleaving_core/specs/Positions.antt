-- Where threads are in the program.
use Rattle.std.specs.Prelude.{ℕ, ◌+◌, List, length, Option, Some, None, option_and_then, slice_get}
use Rattle.cil_model.specs.declared.trees.Tree.{Tree}
use Rattle.threads_monitors.specs.Frames.{Frames}
use Rattle.threads_monitors.specs.declared.threads.ThreadStatus.{ThreadStatus}
use Rattle.threads_monitors.specs.declared.threads.ThreadStatus.TheVariants.{Live, Ended}
use Rattle.threads_monitors.specs.declared.threads.Thread.{Thread}
use Rattle.simulation.specs.loaded_program.AllMethods.{method_id}
use Rattle.interleaving_core.specs.declared.positions.Position.{Position}

-- the method and the pc of the frame that runs, how many frames there are, and how many values are on its stack
abbrev pub position_of : Tree → Frames → Position
position_of tree m = record { method = method_id tree m.running.method; pc = m.running.pc; frames = length m.below + 1; height = length m.running.stack }

-- a thread that has ended is nowhere
abbrev pub position_in : Tree → ThreadStatus → Option Position
position_in tree (Live m) = Some (position_of tree m)
position_in tree (Ended e) = None

-- where the thread of a number is, in a program with this tree; none where it has ended or was never started
abbrev pub position_at : Tree → List Thread → ℕ → Option Position
position_at tree threads n = option_and_then (λ (t : Thread). position_in tree t.thread_status) (slice_get threads n)
