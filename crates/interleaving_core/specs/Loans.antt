-- A thread's top frame on loan: a copy of it outside of the machine, on which local instructions are done (this profile).
use Rattle.std.specs.Prelude.{◌≡◌, ◌⊎◌, ◌<◌, ◌≤◌, ◌+◌, ◌-◌, ℕ}
use Rattle.cil_model.specs.declared.trees.Tree.{Tree}
use Rattle.threads_monitors.specs.Frames.{Frame, Frames}
use Rattle.simulation.specs.interpreter.Local.{AreLocalSteps, EndsLocal, IsReadySomewhere, single_frame, frames_over}
use Rattle.simulation.specs.LentFrames.{RunsFrame, with_live}
use Rattle.simulation.specs.MachineStates.{MachineState, frame_room}

-- the program, the thread, how many steps it had left as the loan began, the frame that it had then, the frame as it is now, and how many instructions
-- were done in between
pub record Lent : Type 0 where
  pub tree : Tree
  pub thread : ℕ
  pub left : ℕ
  pub origin : Frame
  pub frame : Frame
  pub done : ℕ

-- from some frame a thread that has this number of steps left can advance by local instructions, as long as a step is left
abbrev pub CanContinueLocally : Tree → (left : ℕ) → Frame → Type 0
CanContinueLocally tree left f = (n : ℕ) (g : Frame) → n < left → AreLocalSteps tree frame_room n f g → IsReadySomewhere tree frame_room g

-- the frame is `done` local instructions from its origin, and a step is left after them
pub record IsLent (l : Lent) : Type 0 where
  pub steps : AreLocalSteps l.tree frame_room l.done l.origin l.frame
  pub less : l.done < l.left
  pub ready : CanContinueLocally l.tree l.left l.origin

-- no further local instruction is done: the next one is not local, or would raise a fault, or is the last one of the thread's budget
abbrev pub Stops : Lent → Type 0
Stops l = EndsLocal l.tree frame_room l.frame ⊎ (l.left ≡ l.done + 1)

-- n more local instructions were done
pub record RanOn (old : Lent) (n : ℕ) (new : Lent) : Type 0 where
  pub steps : AreLocalSteps old.tree frame_room n old.frame new.frame
  pub is : new ≡ record old { frame = new.frame; done = old.done + n }

-- at most this number, and fewer only where no further one is done
pub record RanLocally (old : Lent) (most : ℕ) (new : Lent) : Type 0 where
  pub count : ℕ
  pub few : count ≤ most
  pub ran : RanOn old count new
  pub stops : count < most → Stops new

-- a loan that begins: the frame that runs in a live thread
pub record Begins (c : MachineState) (t : ℕ) (l : Lent) : Type 0 where
  pub tree : l.tree ≡ c.tree
  pub thread : l.thread ≡ t
  pub done : l.done ≡ 0
  pub frame : l.frame ≡ l.origin
  pub origin : RunsFrame c t l.left l.origin

-- the thread of a loan stands as it did when the loan began
abbrev pub IsAtOrigin : MachineState → Lent → Type 0
IsAtOrigin c l = RunsFrame c l.thread l.left l.origin

-- the memory of a frame that is alone
abbrev pub IsAlone : Frames → Type 0
IsAlone m = m ≡ single_frame frame_room m.running

-- from this frame of a thread that has this many steps left, n local instructions lead to that frame: at most `most`, a step is left after them, and
-- they are fewer only where no further one is done
pub record IsLocalRun (tree : Tree) (left : ℕ) (f : Frame) (most n : ℕ) (g : Frame) : Type 0 where
  pub steps : AreLocalSteps tree frame_room n f g
  pub few : n ≤ most
  pub less : n < left
  pub stops : n < most → EndsLocal tree frame_room g ⊎ (left ≡ n + 1)

-- a live thread did n local instructions where it is, and nothing else changed
pub record RanInPlace (old : MachineState) (t most n : ℕ) (new : MachineState) : Type 0 where
  pub left : ℕ
  pub origin : Frame
  pub frame : Frame
  pub at : RunsFrame old t left origin
  pub ran : IsLocalRun old.tree left origin most n frame
  pub is : new ≡ with_live old t (left - n) (frames_over frame at.below at.depth frame_room)
