-- The top frame of a thread, lent to whoever does local instructions on it (this profile).
use Rattle.std.specs.Prelude.{◌≡◌, ℕ, List, Some, slice_get, slice_set}
use Rattle.interpreter.specs.Local.{frames_over}
use Rattle.interpreter.specs.threads_monitors.Frames.{Frame, Frames}
use Rattle.simulation.specs.MachineStates.{MachineState, frame_room}
use Rattle.simulation.specs.Transitions.{live_thread}

-- a thread is live, has this number of steps left, and this frame runs
pub record RunsFrame (c : MachineState) (t left : ℕ) (f : Frame) : Type 0 where
  pub below : List Frame
  pub depth : ℕ
  pub there : slice_get c.threads t ≡ Some (live_thread left (frames_over f below depth frame_room))

-- the machine state with other frames and steps of a live thread
abbrev pub with_live : MachineState → ℕ → (left : ℕ) → Frames → MachineState
with_live c t left m = record c { threads = slice_set c.threads t (live_thread left m) }
